-- The laws of a commutative ring that follow from its record, as lemmas that `simp` takes by name.
use Rattle.std.proofs.Common.{◌≡◌, sym, ap, ◌∙◌}
use Rattle.ring.specs.Rings.{RingOn}

module _ (R : RingOn) where
  pub add_assoc : (x y z : R.V) → R.add (R.add x y) z ≡ R.add x (R.add y z)
  add_assoc = R.laws.add_assoc

  pub add_comm : (x y : R.V) → R.add x y ≡ R.add y x
  add_comm = R.laws.add_comm

  pub add_left_comm : (x y z : R.V) → R.add x (R.add y z) ≡ R.add y (R.add x z)
  add_left_comm x y z = sym (add_assoc x y z) ∙ ap (λ (w : R.V). R.add w z) (add_comm x y) ∙ add_assoc y x z

  pub mul_assoc : (x y z : R.V) → R.mul (R.mul x y) z ≡ R.mul x (R.mul y z)
  mul_assoc = R.laws.mul_assoc

  pub mul_comm : (x y : R.V) → R.mul x y ≡ R.mul y x
  mul_comm = R.laws.mul_comm

  pub mul_left_comm : (x y z : R.V) → R.mul x (R.mul y z) ≡ R.mul y (R.mul x z)
  mul_left_comm x y z = sym (mul_assoc x y z) ∙ ap (λ (w : R.V). R.mul w z) (mul_comm x y) ∙ mul_assoc y x z

  pub mul-add : (x y z : R.V) → R.mul x (R.add y z) ≡ R.add (R.mul x y) (R.mul x z)
  mul-add = R.laws.mul-add

  pub add-mul : (x y z : R.V) → R.mul (R.add x y) z ≡ R.add (R.mul x z) (R.mul y z)
  add-mul x y z = mul_comm (R.add x y) z ∙ mul-add z x y ∙ λ i. R.add (mul_comm z x i) (mul_comm z y i)

  pub add-nil : (x : R.V) → R.add x R.nil ≡ x
  add-nil = R.laws.add-nil

  pub nil-add : (x : R.V) → R.add R.nil x ≡ x
  nil-add x = add_comm R.nil x ∙ add-nil x

  pub mul-one : (x : R.V) → R.mul x R.one ≡ x
  mul-one = R.laws.mul-one

  pub one-mul : (x : R.V) → R.mul R.one x ≡ x
  one-mul x = mul_comm R.one x ∙ mul-one x

  pub add-neg : (x : R.V) → R.add x (R.neg x) ≡ R.nil
  add-neg = R.laws.add-neg

  pub neg-add-self : (x : R.V) → R.add (R.neg x) x ≡ R.nil
  neg-add-self x = add_comm (R.neg x) x ∙ add-neg x

  -- x + (- x + y) and - x + (x + y)
  pub add-neg-left : (x y : R.V) → R.add x (R.add (R.neg x) y) ≡ y
  add-neg-left x y = sym (add_assoc x (R.neg x) y) ∙ ap (λ (w : R.V). R.add w y) (add-neg x) ∙ nil-add y

  pub neg-add-left : (x y : R.V) → R.add (R.neg x) (R.add x y) ≡ y
  neg-add-left x y = sym (add_assoc (R.neg x) x y) ∙ ap (λ (w : R.V). R.add w y) (neg-add-self x) ∙ nil-add y

  pub add-cancel : (x y z : R.V) → R.add x y ≡ R.add x z → y ≡ z
  add-cancel x y z h = sym (neg-add-left x y) ∙ ap (λ (w : R.V). R.add (R.neg x) w) h ∙ neg-add-left x z

  pub neg_unique : (x y : R.V) → R.add x y ≡ R.nil → y ≡ R.neg x
  neg_unique x y h = add-cancel x y (R.neg x) (h ∙ sym (add-neg x))

  pub mul-nil : (x : R.V) → R.mul x R.nil ≡ R.nil
  mul-nil x =
      add-cancel (R.mul x R.nil) (R.mul x R.nil) R.nil
      (sym (mul-add x R.nil R.nil) ∙ ap (λ (w : R.V). R.mul x w) (add-nil R.nil) ∙ sym (add-nil (R.mul x R.nil)))

  pub nil-mul : (x : R.V) → R.mul R.nil x ≡ R.nil
  nil-mul x = mul_comm R.nil x ∙ mul-nil x

  pub neg-nil : R.neg R.nil ≡ R.nil
  neg-nil = sym (neg_unique R.nil R.nil (add-nil R.nil))

  pub neg-neg : (x : R.V) → R.neg (R.neg x) ≡ x
  neg-neg x = sym (neg_unique (R.neg x) x (neg-add-self x))

  pub mul-neg : (x y : R.V) → R.mul x (R.neg y) ≡ R.neg (R.mul x y)
  mul-neg x y =
      neg_unique (R.mul x y) (R.mul x (R.neg y))
      (sym (mul-add x y (R.neg y)) ∙ ap (λ (w : R.V). R.mul x w) (add-neg y) ∙ mul-nil x)

  pub neg-mul : (x y : R.V) → R.mul (R.neg x) y ≡ R.neg (R.mul x y)
  neg-mul x y = mul_comm (R.neg x) y ∙ mul-neg y x ∙ ap R.neg (mul_comm y x)

  pub neg-add : (x y : R.V) → R.neg (R.add x y) ≡ R.add (R.neg x) (R.neg y)
  neg-add x y =
      sym (neg_unique (R.add x y) (R.add (R.neg x) (R.neg y))
      (add_assoc x y _ ∙ ap (R.add x) (add_left_comm y (R.neg x) (R.neg y)) ∙ add-neg-left x _ ∙ add-neg y))

pub ruleset ring = (mul-add, add-mul, mul_assoc, mul_comm, mul_left_comm, add_assoc, add_comm, add_left_comm, mul-nil, nil-mul, add-nil, nil-add, mul-one, one-mul, neg-add, mul-neg, neg-mul, neg-neg, neg-nil, add-neg, neg-add-self, add-neg-left, neg-add-left)
