-- A root of the power d, on the values of a ring.
use Rattle.std.specs.Prelude.{◌≡◌, ℕ}
use Rattle.ring.specs.Rings.{RingOn, power}

-- the power after the root, and the root after the power, give the value back
pub record Root (R : RingOn) (d : ℕ) (root : R.V → R.V) : Type 0 where
  pub power_after : (v : R.V) → power R d (root v) ≡ v
  pub root_after : (v : R.V) → root (power R d v) ≡ v

-- r is what a root of the power d gives at v; there is one such root at most
pub record RootOf (R : RingOn) (d : ℕ) (v r : R.V) : Type 0 where
  pub root : R.V → R.V
  pub undoes : Root R d root
  pub gives : r ≡ root v
