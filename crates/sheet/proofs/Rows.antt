-- One row more of the lines of the constants.
use Rattle.std.proofs.Common.{◌≡◌, List, ◌++◌, ℤ, Some, Ok, Err, Result, sym, refl, ap, ◌∙◌, append_assoc}
use Rattle.field.specs.declared.refusal.Refusal.{Refusal}
use Rattle.sheet.specs.declared.row.Row.{Row}
use Rattle.sheet.specs.Rows.{NextRow, numbers_of}
use Rattle.sheet.specs.Sheets.{ahead}

ahead-append : (us vs : List ℤ) (r : Result (List ℤ) Refusal) → ahead (us ++ vs) r ≡ ahead us (ahead vs r)
ahead-append us vs (Ok ws) = ap Ok (append_assoc us vs ws)
ahead-append us vs (Err q) = refl

-- us was read of what all the lines say, and then the row r
pub row_more : (us : List ℤ) (left more : Result (List ℤ) Refusal) {all : Result (List ℤ) Refusal} {next : Result Row Refusal} {r : Row} → next ≡ Ok r → NextRow left (Some next) more → ahead us left ≡ all → ahead (us ++ numbers_of r) more ≡ all
row_more us left more {r = r} is step read =
    let row : left ≡ ahead (numbers_of r) more = rw is at step in
    ahead-append us (numbers_of r) more ∙ ap (ahead us) (sym row) ∙ read
