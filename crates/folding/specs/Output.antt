-- What the folding program prints.
use Rattle.std.specs.Prelude.{ℕ, List, Ok, Err, Result}
use Rattle.ring.specs.Residues.{Z17}
use Rattle.linear.specs.Linear.{circulant, grid}
use Rattle.field.specs.declared.refusal.Refusal.{Refusal}
use Rattle.field.specs.Refusals.{number_of, place_of}
use Rattle.sheet.specs.Sheets.{Parameters}
use Rattle.folding.specs.Columns.{rows_of, pair_line}

-- of a sheet the matrix M, row by row, and of a refusal number and place
abbrev pub output_of : Result Parameters Refusal → List ℕ
output_of (Ok m) = rows_of m.width 0 (grid m.width m.width (λ i j. (circulant Z17 m.column i j).0))
output_of (Err q) = pair_line (number_of q) (place_of q)
