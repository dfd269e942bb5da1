use Rattle.std.proofs.Common.{rules}
use Rattle.ring.specs.Roots.{RootOf}
use Rattle.lanes.proofs.FourRoots.{four_root_of}
use Rattle.lanes.proofs.LanesPermutationMonomial.injective_exp_root_n.Goals as goal

pub returns : goal.returns
returns g c =
    let v = g.F.Ring.value in
    let x = c.args.self in
    let r = c.map.result in
    let a : RootOf g.F.Ring.ring g.F.InjectiveMonomial.D (v x.a) (v r.a) = search rules in
    let b : RootOf g.F.Ring.ring g.F.InjectiveMonomial.D (v x.b) (v r.b) = search rules in
    let e : RootOf g.F.Ring.ring g.F.InjectiveMonomial.D (v x.c) (v r.c) = search rules in
    let d : RootOf g.F.Ring.ring g.F.InjectiveMonomial.D (v x.d) (v r.d) = search rules in
    four_root_of g.F.Ring.ring g.F.InjectiveMonomial.D _ _ a b e d
