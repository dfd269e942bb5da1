use Rattle.std.proofs.Common.{◌≡◌, List, ℤ}
use Rattle.sheet.specs.Rows.{rows_say}
use Rattle.sheet.specs.Sheets.{ahead}
use Rattle.sheet.proofs.rounds.Rows.check.Given as goal

-- some numbers were read
abbrev pub invariant-loop-row : goal.invariant-loop-row
invariant-loop-row l = (zs : List ℤ) × (ahead zs (rows_say l.row-iterator) ≡ rows_say l.self)
