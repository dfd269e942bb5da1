use Rattle.std.proofs.Common.{◌≡◌, sym, ◌∙◌, ap, w64, to_z, of_z, arith}
use Rattle.std.proofs.lemmas.Int.{ints}
use Rattle.ring.specs.Rings.{integer}
use Rattle.ring.proofs.Integers.{integer-mul}
use Rattle.walkthrough.proofs.product.Goals as goal

pub returns : goal.returns
returns g c =
    let R = g.F.Ring.ring in
    let a : to_z w64 (of_z w64 c.from.result) ≡ c.args.a = omega (arith, ints) in
    let b : to_z w64 (of_z w64 c.from-2.result) ≡ c.args.b = omega (arith, ints) in
    g.met.F.Ring.mul_law _ _ _ c.mul.ensures
    ∙ (λ i. R.mul ((c.from_i64.ensures ∙ ap (integer R) a) i) ((c.from_i64-2.ensures ∙ ap (integer R) b) i))
    ∙ sym (integer-mul R c.args.a c.args.b)
