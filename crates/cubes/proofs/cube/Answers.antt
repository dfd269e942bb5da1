use Rattle.std.proofs.Common.{[], ◌∷◌, ap, ◌∙◌, to_z-of_z}
use Rattle.ring.specs.Rings.{integer, power}
use Rattle.ring.specs.Residues.{Z17}
use Rattle.pairs.specs.Twos.{Two, twos}
use Rattle.cubes.proofs.cube.Goals as goal

pub returns : goal.returns
returns c =
    let a = c.from_i64.ensures ∙ ap (integer Z17) (to_z-of_z c.ranges.a) in
    let b = c.from_i64-2.ensures ∙ ap (integer Z17) (to_z-of_z c.ranges.b) in
    let power-is = c.injective_exp_n-power.ensures ∙ (λ i. power (twos Z17) 3 (a i, b i)) in
    let first = c.as_canonical_u32.ensures.value ∙ ap (λ (w : Two Z17). w.0.0) power-is in
    let second = c.as_canonical_u32-2.ensures.value ∙ ap (λ (w : Two Z17). w.1.0) power-is in
    λ i. first i ∷ second i ∷ []
