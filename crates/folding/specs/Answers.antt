-- What the folding of a sheet answers.
use Rattle.std.specs.Prelude.{◌≡◌, ℕ, List, map, Ok, Err, vec_items, Result}
use Rattle.ring.specs.Rings.{RingOn}
use Rattle.linear.specs.Linear.{circulant, grid}
use Rattle.sheet.specs.Answers.{Reads}
use Rattle.sheet.specs.declared.error.SheetError.{SheetError}
use Rattle.folding.specs.declared.Folded.{Folded}

-- the sheet that the bytes bs are with its matrix, or the reader's error
abbrev pub Folds : {F : Type 0} (R : RingOn) → (F → R.V) → List ℕ → Result (Folded F) SheetError → Type 0
Folds R value bs (Ok f) = Reads R value bs (Ok f.sheet) × (map value (vec_items f.matrix) ≡ grid f.sheet.width f.sheet.width (circulant R (vec_items f.sheet.column)))
Folds R value bs (Err e) = Reads R value bs (Err e)
