-- Worked cubes on pairs over the field of 17, of the definitions alone.
use Rattle.std.specs.Prelude.{◌≡◌, ℕ, List, [], ◌∷◌, ℤ}
use Rattle.ring.specs.Rings.{integer, power}
use Rattle.ring.specs.Residues.{Z17, at_17}
use Rattle.pairs.specs.Twos.{Two, twos}

-- a + b·u
abbrev pub pair : ℕ → ℕ → Two Z17
pair a b = (at_17 a, at_17 b)

-- the two residues of the cube of a + b·u
abbrev pub cube_of : ℤ → ℤ → List ℕ
cube_of a b = (power (twos Z17) 3 (integer Z17 a, integer Z17 b)).0.0 ∷ (power (twos Z17) 3 (integer Z17 a, integer Z17 b)).1.0 ∷ []

pub record WorkedCubes : Type 0 where
  pub cube_of_one : power (twos Z17) 3 (pair 1 0) ≡ pair 1 0
  pub cube_of_other : power (twos Z17) 3 (pair 8 2) ≡ pair 1 0
