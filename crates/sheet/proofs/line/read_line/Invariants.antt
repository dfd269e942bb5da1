use Rattle.std.proofs.Common.{◌≡◌, ◌+◌, ◌-◌, ◌*◌, length, take, drop}
use Rattle.sheet.specs.Places.{line_at}
use Rattle.sheet.proofs.Lines.{after_all}
use Rattle.sheet.proofs.line.read_line.Given as goal

abbrev pub invariant-loop-n : goal.invariant-loop-n
invariant-loop-n l =
    (after_all (take l.n-index l.numbers) (line_at (length l.numbers - l.n-index) l.rest) ≡ line_at (length l.initial.numbers) l.initial.rest)
    × (drop (11 * (length l.numbers - l.n-index) + 1) l.rest ≡ drop (11 * length l.initial.numbers + 1) l.initial.rest)
