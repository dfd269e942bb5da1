use Rattle.std.proofs.Common.{◌≡◌, List, map, ℤ, vec_items}
use Rattle.ring.specs.Rings.{integer}
use Rattle.sheet.specs.Rows.{rows_say}
use Rattle.sheet.specs.Sheets.{ahead}
use Rattle.sheet.proofs.rounds.Rows.read.Given as goal

-- some numbers were read, and their elements are the constants
abbrev pub invariant-loop-row : goal.invariant-loop-row
invariant-loop-row g l =
    (goal.iterator-loop-row g).can_next l.row-iterator
    × (goal.iterator-loop-row g).is_finite l.row-iterator
    × ((zs : List ℤ) × (ahead zs (rows_say l.row-iterator) ≡ rows_say l.self) × (map g.F.Ring.value (vec_items l.constants) ≡ map (integer g.F.Ring.ring) zs))
