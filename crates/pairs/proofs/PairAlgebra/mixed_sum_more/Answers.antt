use Rattle.std.proofs.Common.{◌≡◌, ◌∙◌, ap, rules}
use Rattle.pairs.specs.Pairs.{parts}
use Rattle.pairs.specs.Twos.{twos, two_mul, plain_image}
use Rattle.pairs.proofs.TwoLaws.{by_plain}
use Rattle.pairs.proofs.PairAlgebra.mixed_sum_more.Goals as goal

pub returns : goal.returns
returns g c =
    let R = g.F.Ring.ring in
    let v = g.F.Ring.value in
    let t = g.F.Ring.total in
    let x = parts v c.args.element in
    let y = v c.args.factor in
    let a : t c.zip.result.a ≡ R.add (t c.args.sum.a) (R.mul x.0 y) = search rules in
    let b : t c.zip.result.b ≡ R.add (t c.args.sum.b) (R.mul x.1 y) = search rules in
    (λ i. (a i, b i))
    ∙ ap ((twos R).add (parts t c.args.sum)) (by_plain R x y ∙ ap (two_mul R x) (plain_image R g.met.F.Ring.zero_law y))
