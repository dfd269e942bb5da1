use Rattle.std.proofs.Common.{◌∙◌, rules}
use Rattle.pairs.specs.Pairs.{parts}
use Rattle.pairs.proofs.TwoLaws.{by_plain}
use Rattle.pairs.proofs.PairAnyMulAny.mul.Goals as goal

pub returns : goal.returns
returns g c =
    let R = g.F.Ring.ring in
    let v = g.F.Ring.value in
    let x = c.args.self in
    let y = c.args.other in
    let r = c.map.result in
    (λ i. (g.met.F.Ring.mul_law x.a y r.a (search rules) i, g.met.F.Ring.mul_law x.b y r.b (search rules) i)) ∙ by_plain R (parts v x) (v y)
