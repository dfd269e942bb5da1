use Rattle.std.proofs.Common.{ap, ◌∙◌}
use Rattle.lanes.specs.Fours.{Four}
use Rattle.lanes.proofs.FourRoots.{four_power}
use Rattle.arithmetic.proofs.powers_abreast.Goals as goal

pub returns : goal.returns
returns g c =
    let R = g.F.Ring.ring in
    let v = g.F.Ring.value in
    let x = c.args.x in
    let lanes = c.injective_exp_n.ensures ∙ four_power R g.F.InjectiveMonomial.D (v x.a, v x.b, v x.c, v x.d) in
    record { a = ap (λ (w : Four R). w.0) lanes; b = ap (λ (w : Four R). w.1) lanes; c = ap (λ (w : Four R). w.2) lanes; d = ap (λ (w : Four R). w.3) lanes }
