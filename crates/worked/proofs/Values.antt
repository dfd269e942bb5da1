use Rattle.std.proofs.Common.{◌≡◌, ℕ, ◌^◌, ℤ, pos, neg_ℤ, nat_abs, sym, refl, ◌∙◌, lit<}
use native.Mathlib.Fin
use Rattle.std.specs.Int.{int_rem_euclid}
use Rattle.ring.specs.Rings.{integer}
use Rattle.ring.specs.Residues.{Z17, at_17}
use Rattle.ring.proofs.ResidueLaws.{integer_at}
use Rattle.worked.specs.Worked.{WorkedValues}

-- a remainder is computed, a sum of so many ones is not
from : (z : ℤ) (n : ℕ) → nat_abs (int_rem_euclid z (pos 17)) ≡ (at_17 n).0 → integer Z17 z ≡ at_17 n
from z n e = Fin.val_path (sym (integer_at 17 (lit< tt) z) ∙ e)

pub worked_values_lem : WorkedValues
worked_values_lem =
    record {
      from_minus_one = from (neg_ℤ (pos 1)) 16 refl;
      from_minus_seventeen = from (neg_ℤ (pos 17)) 0 refl;
      from_least = from (neg_ℤ (pos (2 ^ 63))) 8 refl;
    }
