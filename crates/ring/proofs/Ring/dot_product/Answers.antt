use Rattle.std.proofs.Common.{rules, ◌∙◌, take, arith}
use Rattle.std.proofs.lemmas.Iterator.{YieldsList-from_slice, YieldsList-from_zip}
use Rattle.ring.proofs.Dots.{dot_all, dot_from_fold}
use Rattle.ring.proofs.Ring.dot_product.Goals as goal

pub returns : goal.returns
returns g c =
    let R = g.Self.Ring.ring in
    let v = g.Self.Ring.value in
    let n = c.min-count.result in
    let xs = take n c.args.left.now in
    let ys = take n c.args.right.now in
    let pairs = YieldsList-from_zip {s = c.zip-pairs.result} (YieldsList-from_slice xs (search rules)) (YieldsList-from_slice ys (search rules)) in
    c.sum_done.ensures
    ∙ dot_from_fold R v v xs ys _ _ g.Self.Ring.total _ _ pairs c.fold-sum.ensures.ran c.sum_none.ensures (λ a b x f k. search rules)
    ∙ dot_all R v v n c.args.left.now c.args.right.now (λ k a b. omega arith)
