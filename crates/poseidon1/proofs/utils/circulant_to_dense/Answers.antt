use Rattle.std.proofs.Common.{◌∙◌, refl, ap, arith}
use Rattle.std.proofs.lemmas.Int.{ints}
use Rattle.ring.specs.Rings.{integer}
use Rattle.linear.specs.Linear.{tab}
use Rattle.linear.proofs.Tabs.{written_more}
use Rattle.poseidon1.proofs.utils.circulant_to_dense.Goals as goal

pub loop-k-init : goal.loop-k-init
unfolding tab
loop-k-init g c = refl

pub loop-k-preserved : goal.loop-k-preserved
loop-k-preserved g c =
    written_more g.F.Ring.value _ c.loop-k.dense c.loop-k.k c.from_i64.result (omega arith) c.loop-k.invariant
    (c.from_i64.ensures ∙ ap (integer g.F.Ring.ring) (omega (arith, ints)))
