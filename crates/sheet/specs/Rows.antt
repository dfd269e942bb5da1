-- Row after row of the lines of the rounds: for the contracts of private functions.
use Rattle.std.specs.Prelude.{◌≡◌, List, [], take, ℤ, Some, None, Ok, Err, Option, Result}
use Rattle.field.specs.declared.refusal.Refusal.{Refusal}
use Rattle.sheet.specs.declared.error.SheetError.{SheetError}
use Rattle.sheet.specs.declared.error.SheetError.TheVariants.{Refused, Memory}
use Rattle.sheet.specs.declared.rounds.Rows.{Rows}
use Rattle.sheet.specs.declared.row.Row.{Row}
use Rattle.sheet.specs.Places.{rows_at}
use Rattle.sheet.specs.Sheets.{ahead}

-- the numbers of a row
abbrev pub numbers_of : Row → List ℤ
numbers_of r = take r.width r.numbers

-- what the lines that are left say
abbrev pub rows_say : Rows → Result (List ℤ) Refusal
rows_say r = rows_at r.sizes.width r.left r.line r.bytes.now

-- the next of the lines that say all, and what the lines after it say
abbrev pub NextRow : Result (List ℤ) Refusal → Option (Result Row Refusal) → Result (List ℤ) Refusal → Type 0
NextRow all None more = all ≡ Ok []
NextRow all (Some (Ok r)) more = all ≡ ahead (numbers_of r) more
NextRow all (Some (Err q)) more = all ≡ Err q

-- reading the lines that say all stopped at their refusal, or for want of memory
abbrev pub Stopped : Result (List ℤ) Refusal → SheetError → Type 0
Stopped all (Refused q) = all ≡ Err q
Stopped all (Memory a) = Unit {0}
