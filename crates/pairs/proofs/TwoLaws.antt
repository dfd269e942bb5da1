-- A pair times a value without u: each part times the value.
use Rattle.std.proofs.Common.{◌≡◌}
use Rattle.ring.specs.Rings.{RingOn}
use Rattle.ring.proofs.RingLaws.{ring}
use Rattle.pairs.specs.Twos.{Two, three, two_mul, plain}

first : (R : RingOn) (k a b x : R.V) → R.mul a x ≡ R.add (R.mul a x) (R.mul k (R.mul b R.nil))
first R k a b x = simp ring

second : (R : RingOn) (a b x : R.V) → R.mul b x ≡ R.add (R.mul a R.nil) (R.mul b x)
second R a b x = simp ring

pub by_plain : (R : RingOn) (x : Two R) (y : R.V) → ◌≡◌ {A = Two R} (R.mul x.0 y, R.mul x.1 y) (two_mul R x (plain R y))
by_plain R x y = λ i. (first R (three R) x.0 x.1 y i, second R x.0 x.1 y i)
