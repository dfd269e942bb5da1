use Rattle.std.proofs.Common.{◌≡◌, ℕ, [], ◌∷◌, pos, refl, ◌∙◌, lit<}
use native.Mathlib.Fin
use Rattle.ring.specs.Rings.{integer, power, whole}
use Rattle.ring.specs.Residues.{Z17, at_17}
use Rattle.ring.proofs.ResidueLaws.{whole_at}
use Rattle.pairs.specs.Twos.{Two, twos}
use Rattle.cubes.specs.Cubes.{pair, cube_of, WorkedCubes}

path : (x : Two Z17) (a b : ℕ) → x.0.0 ≡ (at_17 a).0 → x.1.0 ≡ (at_17 b).0 → x ≡ pair a b
path x a b p q = λ i. (Fin.val_path {i = x.0} {j = at_17 a} p i, Fin.val_path {i = x.1} {j = at_17 b} q i)

cube_one : power (twos Z17) 3 (pair 1 0) ≡ pair 1 0
unfolding power whole
cube_one = path (power (twos Z17) 3 (pair 1 0)) 1 0 refl refl

cube_other : power (twos Z17) 3 (pair 8 2) ≡ pair 1 0
unfolding power whole
cube_other = path (power (twos Z17) 3 (pair 8 2)) 1 0 refl refl

-- a cube by residues, once its value is known
pub cube_answer : (a b : ℕ) → power (twos Z17) 3 (pair a b) ≡ pair 1 0 → cube_of (pos a) (pos b) ≡ 1 ∷ 0 ∷ []
cube_answer a b e =
    let entered : power (twos Z17) 3 (integer Z17 (pos a), integer Z17 (pos b)) ≡ pair 1 0 =
    (λ i. power (twos Z17) 3 (whole_at 17 (lit< tt) a i, whole_at 17 (lit< tt) b i)) ∙ e in
    λ i. (entered i).0.0 ∷ (entered i).1.0 ∷ []

pub worked_cubes_lem : WorkedCubes
worked_cubes_lem = record { cube_of_one = cube_one; cube_of_other = cube_other }
