use Rattle.std.proofs.Common.{◌≡◌, ◌+◌, ◌*◌, ◌^◌, ◌≤◌, length}
use Rattle.sheet.proofs.Texts.{digits_after}
use Rattle.sheet.proofs.number.Rest.digits.Given as goal

abbrev pub invariant-loop-rest : goal.invariant-loop-rest
invariant-loop-rest l = (digits_after l.n l.rest ≡ digits_after 0 l.initial.rest) × ((l.n + 1) * 10 ^ length l.rest ≤ 10 ^ 12)

abbrev pub decreases-loop-rest : goal.decreases-loop-rest
decreases-loop-rest l = length l.rest
