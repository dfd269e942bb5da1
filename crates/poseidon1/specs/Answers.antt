-- What the calls answer, and what they leave in the buffers.
use Rattle.std.specs.Prelude.{◌≡◌, List, map, length, ℤ, Some, None, Ok, Err, Result}
use Rattle.field.specs.declared.refusal.Refusal.{Refusal}
use Rattle.ring.specs.Rings.{RingOn}
use Rattle.linear.specs.Linear.{circulant, grid}
use Rattle.poseidon1.specs.Checks.{expansion_refused}

-- a column is expanded into a buffer: it holds the circulant matrix row by row, or is left as it was
abbrev pub Expands : {F T : Type 0} (R : RingOn) → (F → R.V) → List ℤ → List F → List F → Result T Refusal → Type 0
Expands R value column before after (Ok done) =
    (expansion_refused (length column) (length before) ≡ None) × (map value after ≡ grid (length column) (length column) (circulant R column))
Expands R value column before after (Err q) = (expansion_refused (length column) (length before) ≡ Some q) × (after ≡ before)
