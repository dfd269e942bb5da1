-- Commutative rings by their operations.
use Rattle.std.specs.Prelude.{◌≡◌, ℕ, zero, suc, ℤ, pos, negsuc}

-- the laws; equality of values is a proposition
pub record Ring {V : Type 0} (nil one : V) (add mul : V → V → V) (neg : V → V) : Type 0 where
  pub is_set : IsSet V
  pub add_assoc : (x y z : V) → add (add x y) z ≡ add x (add y z)
  pub add_comm : (x y : V) → add x y ≡ add y x
  pub add-nil : (x : V) → add x nil ≡ x
  pub add-neg : (x : V) → add x (neg x) ≡ nil
  pub mul_assoc : (x y z : V) → mul (mul x y) z ≡ mul x (mul y z)
  pub mul_comm : (x y : V) → mul x y ≡ mul y x
  pub mul-one : (x : V) → mul x one ≡ x
  pub mul-add : (x y z : V) → mul x (add y z) ≡ add (mul x y) (mul x z)

-- a ring: its values V, its operations and their laws
pub record RingOn : Type 1 where
  pub V : Type 0
  pub nil : V
  pub one : V
  pub add : V → V → V
  pub mul : V → V → V
  pub neg : V → V
  pub laws : Ring nil one add mul neg

-- a map of values that keeps zero, one, sums and products
pub record Hom (R S : RingOn) (f : R.V → S.V) : Type 0 where
  pub at_nil : f R.nil ≡ S.nil
  pub at_one : f R.one ≡ S.one
  pub at_add : (x y : R.V) → f (R.add x y) ≡ S.add (f x) (f y)
  pub at_mul : (x y : R.V) → f (R.mul x y) ≡ S.mul (f x) (f y)

-- the n-fold product of x; shut, since n may be large
unfoldable pub power : (R : RingOn) → ℕ → R.V → R.V
power R zero x = R.one
power R (suc n) x = R.mul x (power R n x)

-- the n-fold sum of one
unfoldable pub whole : (R : RingOn) → ℕ → R.V
whole R zero = R.nil
whole R (suc n) = R.add R.one (whole R n)

-- the same for a whole number of either sign: negated for a negative one
abbrev pub integer : (R : RingOn) → ℤ → R.V
integer R (pos n) = whole R n
integer R (negsuc n) = R.neg (whole R (suc n))
