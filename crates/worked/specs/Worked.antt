-- Worked values in the field of 17, of the definitions alone.
use Rattle.std.specs.Prelude.{◌≡◌, ◌^◌, pos, neg_ℤ}
use Rattle.ring.specs.Rings.{integer}
use Rattle.ring.specs.Residues.{Z17, at_17}

pub record WorkedValues : Type 0 where
  pub from_minus_one : integer Z17 (neg_ℤ (pos 1)) ≡ at_17 16
  pub from_minus_seventeen : integer Z17 (neg_ℤ (pos 17)) ≡ at_17 0
  pub from_least : integer Z17 (neg_ℤ (pos (2 ^ 63))) ≡ at_17 8
