use Rattle.std.proofs.Common.{◌≡◌, ◌/◌, ◌%◌, map, take}
use Rattle.linear.specs.Linear.{tab, circulant}
use Rattle.poseidon1.proofs.utils.circulant_to_dense.Given as goal

-- the first k entries are written
abbrev pub invariant-loop-k : goal.invariant-loop-k
invariant-loop-k g l = map g.F.Ring.value (take l.k l.dense) ≡ tab l.k (λ k. circulant g.F.Ring.ring l.column (k / l.n) (k % l.n))
