-- Pairs (a, b) of values of a ring, for a + b·u where u·u is three.
use Rattle.std.specs.Prelude.{◌≡◌, refl}
use Rattle.std.proofs.Common.{sym}
use Rattle.ring.specs.Rings.{Ring, RingOn, Hom, whole}
use Rattle.ring.proofs.RingLaws
use Rattle.ring.proofs.RingLaws.{ring}

module _ (R : RingOn) where
  open R use {V, nil, one, add, mul, neg, laws}
  open laws use {is_set}

  abbrev pub Two : Type 0
  Two = V × V

  abbrev pub three : V
  three = whole R 3

  abbrev pub two_mul : Two → Two → Two
  two_mul x y = (add (mul x.0 y.0) (mul three (mul x.1 y.1)), add (mul x.0 y.1) (mul x.1 y.0))

  -- a value, with no u
  abbrev pub plain : V → Two
  plain x = (x, nil)

  -- the identities of the product hold whatever u·u is
  assoc-first : (k a b c d e f : V) → add (mul (add (mul a c) (mul k (mul b d))) e) (mul k (mul (add (mul a d) (mul b c)) f)) ≡ add (mul a (add (mul c e) (mul k (mul d f)))) (mul k (mul b (add (mul c f) (mul d e))))
  assoc-first k a b c d e f = simp ring

  assoc-second : (k a b c d e f : V) → add (mul (add (mul a c) (mul k (mul b d))) f) (mul (add (mul a d) (mul b c)) e) ≡ add (mul a (add (mul c f) (mul d e))) (mul b (add (mul c e) (mul k (mul d f))))
  assoc-second k a b c d e f = simp ring

  comm-first : (k a b c d : V) → add (mul a c) (mul k (mul b d)) ≡ add (mul c a) (mul k (mul d b))
  comm-first k a b c d = simp ring

  comm-second : (a b c d : V) → add (mul a d) (mul b c) ≡ add (mul c b) (mul d a)
  comm-second a b c d = simp ring

  one-first : (k a b : V) → add (mul a one) (mul k (mul b nil)) ≡ a
  one-first k a b = simp ring

  one-second : (a b : V) → add (mul a nil) (mul b one) ≡ b
  one-second a b = simp ring

  add-first : (k a b c d e f : V) → add (mul a (add c e)) (mul k (mul b (add d f))) ≡ add (add (mul a c) (mul k (mul b d))) (add (mul a e) (mul k (mul b f)))
  add-first k a b c d e f = simp ring

  add-second : (a b c d e f : V) → add (mul a (add d f)) (mul b (add c e)) ≡ add (add (mul a d) (mul b c)) (add (mul a f) (mul b e))
  add-second a b c d e f = simp ring

  pub two_laws : Ring {V = Two} (nil, nil) (one, nil) (λ x y. (add x.0 y.0, add x.1 y.1)) two_mul (λ x. (neg x.0, neg x.1))
  two_laws =
      record {
        is_set = λ x y p q. λ i j. (is_set x.0 y.0 (λ k. (p k).0) (λ k. (q k).0) i j, is_set x.1 y.1 (λ k. (p k).1) (λ k. (q k).1) i j);
        add_assoc = λ x y z. λ i. (RingLaws.add_assoc R x.0 y.0 z.0 i, RingLaws.add_assoc R x.1 y.1 z.1 i);
        add_comm = λ x y. λ i. (RingLaws.add_comm R x.0 y.0 i, RingLaws.add_comm R x.1 y.1 i);
        add-nil = λ x. λ i. (RingLaws.add-nil R x.0 i, RingLaws.add-nil R x.1 i);
        add-neg = λ x. λ i. (RingLaws.add-neg R x.0 i, RingLaws.add-neg R x.1 i);
        mul_assoc = λ x y z. λ i. (assoc-first three x.0 x.1 y.0 y.1 z.0 z.1 i, assoc-second three x.0 x.1 y.0 y.1 z.0 z.1 i);
        mul_comm = λ x y. λ i. (comm-first three x.0 x.1 y.0 y.1 i, comm-second x.0 x.1 y.0 y.1 i);
        mul-one = λ x. λ i. (one-first three x.0 x.1 i, one-second x.0 x.1 i);
        mul-add = λ x y z. λ i. (add-first three x.0 x.1 y.0 y.1 z.0 z.1 i, add-second x.0 x.1 y.0 y.1 z.0 z.1 i);
      }

  abbrev pub twos : RingOn
  twos = record { V = Two; nil = (nil, nil); one = (one, nil); add = λ x y. (add x.0 y.0, add x.1 y.1); mul = two_mul; neg = λ x. (neg x.0, neg x.1); laws = two_laws }

  pub plain_hom : Hom R twos plain
  plain_hom =
      record {
        at_nil = refl;
        at_one = refl;
        at_add = λ x y. λ i. (add x y, sym (RingLaws.add-nil R nil) i);
        at_mul = λ x y. λ i. (sym (keep three x y) i, sym (none x y) i);
      }
    where
      keep : (k x y : V) → add (mul x y) (mul k (mul nil nil)) ≡ mul x y
      keep k x y = simp ring

      none : (x y : V) → add (mul x nil) (mul nil y) ≡ nil
      none x y = simp ring

  -- a value beside any zero is that value with no u
  pub plain_image : {z : V} → z ≡ nil → (x : V) → plain x ≡ (x, z)
  plain_image e x = λ i. (x, sym e i)
