-- Four values of a ring, position by position.
use Rattle.std.specs.Prelude.{refl}
use Rattle.ring.specs.Rings.{Ring, RingOn, Hom}

module _ (R : RingOn) where
  open R use {V, nil, one, add, mul, neg, laws}
  open laws use {is_set, add_assoc, add_comm, add-nil, add-neg, mul_assoc, mul_comm, mul-one, mul-add}

  abbrev pub Four : Type 0
  Four = V × V × V × V

  -- a value in every position
  abbrev pub each : V → Four
  each x = (x, x, x, x)

  abbrev pub by_one : (V → V) → Four → Four
  by_one f x = (f x.0, f x.1, f x.2, f x.3)

  abbrev pub by_two : (V → V → V) → Four → Four → Four
  by_two f x y = (f x.0 y.0, f x.1 y.1, f x.2 y.2, f x.3 y.3)

  pub four_laws : Ring (each nil) (each one) (by_two add) (by_two mul) (by_one neg)
  four_laws =
      record {
        is_set = λ x y p q. λ i j. (is_set x.0 y.0 (λ k. (p k).0) (λ k. (q k).0) i j, is_set x.1 y.1 (λ k. (p k).1) (λ k. (q k).1) i j, is_set x.2 y.2 (λ k. (p k).2) (λ k. (q k).2) i j, is_set x.3 y.3 (λ k. (p k).3) (λ k. (q k).3) i j);
        add_assoc = λ x y z. λ i. (add_assoc x.0 y.0 z.0 i, add_assoc x.1 y.1 z.1 i, add_assoc x.2 y.2 z.2 i, add_assoc x.3 y.3 z.3 i);
        add_comm = λ x y. λ i. (add_comm x.0 y.0 i, add_comm x.1 y.1 i, add_comm x.2 y.2 i, add_comm x.3 y.3 i);
        add-nil = λ x. λ i. (add-nil x.0 i, add-nil x.1 i, add-nil x.2 i, add-nil x.3 i);
        add-neg = λ x. λ i. (add-neg x.0 i, add-neg x.1 i, add-neg x.2 i, add-neg x.3 i);
        mul_assoc = λ x y z. λ i. (mul_assoc x.0 y.0 z.0 i, mul_assoc x.1 y.1 z.1 i, mul_assoc x.2 y.2 z.2 i, mul_assoc x.3 y.3 z.3 i);
        mul_comm = λ x y. λ i. (mul_comm x.0 y.0 i, mul_comm x.1 y.1 i, mul_comm x.2 y.2 i, mul_comm x.3 y.3 i);
        mul-one = λ x. λ i. (mul-one x.0 i, mul-one x.1 i, mul-one x.2 i, mul-one x.3 i);
        mul-add = λ x y z. λ i. (mul-add x.0 y.0 z.0 i, mul-add x.1 y.1 z.1 i, mul-add x.2 y.2 z.2 i, mul-add x.3 y.3 z.3 i);
      }

  abbrev pub fours : RingOn
  fours = record { V = Four; nil = each nil; one = each one; add = by_two add; mul = by_two mul; neg = by_one neg; laws = four_laws }

  pub each_hom : Hom R fours each
  each_hom = record { at_nil = refl; at_one = refl; at_add = λ x y. refl; at_mul = λ x y. refl }
