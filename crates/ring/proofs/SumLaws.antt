-- The laws of finite sums.
use Rattle.std.proofs.Common.{◌≡◌, ℕ, zero, suc, ◌<◌, sym, refl, ap, ◌∙◌, ap₂, arith}
use Rattle.ring.specs.Rings.{RingOn}
use Rattle.ring.specs.Sums.{sum}
use Rattle.ring.proofs.RingLaws
use Rattle.ring.proofs.RingLaws.{ring}

module _ (R : RingOn) where
  open R use {V, nil, add, mul}

  pub sum_first : (n : ℕ) (f : ℕ → V) → sum R (suc n) f ≡ add (f zero) (sum R n (λ i. f (suc i)))
  unfolding sum
  sum_first n f = refl

  pub sum_last : (n : ℕ) (f : ℕ → V) → sum R (suc n) f ≡ add (sum R n f) (f n)
  unfolding sum
  sum_last zero f = RingLaws.add_comm R (f zero) nil
  sum_last (suc n) f =
      ap (add (f zero)) (sum_last n (λ i. f (suc i))) ∙ sym (RingLaws.add_assoc R (f zero) (sum R n (λ i. f (suc i))) (f (suc n)))

  pub sum_one : (f : ℕ → V) → sum R 1 f ≡ f 0
  unfolding sum
  sum_one f = RingLaws.add-nil R (f 0)

  pub sum_cong : (n : ℕ) (f g : ℕ → V) → ((i : ℕ) → i < n → f i ≡ g i) → sum R n f ≡ sum R n g
  unfolding sum
  sum_cong zero f g h = refl
  sum_cong (suc n) f g h =
      ap₂ add (h zero (omega arith)) (sum_cong n (λ i. f (suc i)) (λ i. g (suc i)) (λ i l. h (suc i) (omega arith)))

  pub sum-nil : (n : ℕ) → sum R n (λ _. nil) ≡ nil
  unfolding sum
  sum-nil zero = refl
  sum-nil (suc n) = RingLaws.nil-add R _ ∙ sum-nil n

  pub sum-none : (n : ℕ) (f : ℕ → V) → ((i : ℕ) → i < n → f i ≡ nil) → sum R n f ≡ nil
  sum-none n f h = sum_cong n f (λ _. nil) h ∙ sum-nil n

  pub sum-add : (n : ℕ) (f g : ℕ → V) → sum R n (λ i. add (f i) (g i)) ≡ add (sum R n f) (sum R n g)
  unfolding sum
  sum-add zero f g = sym (RingLaws.add-nil R nil)
  sum-add (suc n) f g = ap (add (add (f zero) (g zero))) (sum-add n (λ i. f (suc i)) (λ i. g (suc i))) ∙ four (f zero) (g zero) _ _
    where
      four : (a b c d : V) → add (add a b) (add c d) ≡ add (add a c) (add b d)
      four a b c d = simp ring

  pub sum-mul : (n : ℕ) (a : V) (f : ℕ → V) → sum R n (λ i. mul a (f i)) ≡ mul a (sum R n f)
  unfolding sum
  sum-mul zero a f = sym (RingLaws.mul-nil R a)
  sum-mul (suc n) a f = ap (add (mul a (f zero))) (sum-mul n a (λ i. f (suc i))) ∙ sym (RingLaws.mul-add R a (f zero) (sum R n (λ i. f (suc i))))
