-- The lines of a sheet by their places in its bytes, as the reader meets them: for the contracts of private functions.
use Rattle.std.specs.Prelude.{ℕ, zero, suc, ◌+◌, ◌*◌, ◌^◌, ◌<◌, List, [], ◌∷◌, take, drop, ℤ, Some, None, Ok, Err, Option, Result}
use Rattle.field.specs.declared.refusal.Refusal.{Refusal}
use Rattle.field.specs.declared.refusal.Refusal.TheVariants.{Line}
use Rattle.sheet.specs.Lines.{line_values}
use Rattle.sheet.specs.Sheets.{and_then}

-- a number that is there is below 10 ^ 12
abbrev pub Small : Option ℕ → Type 0
Small None = Unit {0}
Small (Some n) = n < 10 ^ 12

-- the line of k numbers that bs begins with
abbrev pub line_at : ℕ → List ℕ → Option (List ℤ)
line_at k bs = line_values k (take (11 * k + 1) bs)

-- m lines of k numbers, the first of them line i, and no byte after them
abbrev pub rows_at : ℕ → ℕ → ℕ → List ℕ → Result (List ℤ) Refusal
rows_at k zero i [] = Ok []
rows_at k zero i (b ∷ bs) = Err (Line i)
rows_at k (suc m) i bs = and_then i (line_at k bs) (rows_at k m (i + 1) (drop (11 * k + 1) bs))
