-- Sums of ones multiply and change sign as the whole numbers do that count them.
use Rattle.std.proofs.Common.{◌≡◌, ℕ, zero, suc, ◌+◌, ◌*◌, ℤ, pos, negsuc, ◌*ℤ◌, neg_ℤ, sym, refl, ap, ◌∙◌, suc-mul, suc-add, zero-add, zero-mul}
use Rattle.ring.specs.Rings.{RingOn, whole, integer}
use Rattle.ring.proofs.RingLaws
use Rattle.ring.proofs.RingLaws.{ring}

module _ (R : RingOn) where
  pub whole-zero : whole R 0 ≡ R.nil
  unfolding whole
  whole-zero = refl

  pub whole-suc : (n : ℕ) → whole R (suc n) ≡ R.add R.one (whole R n)
  unfolding whole
  whole-suc n = refl

  pub whole-add : (m n : ℕ) → whole R (m + n) ≡ R.add (whole R m) (whole R n)
  whole-add zero n = rw (zero-add, whole-zero) (sym (RingLaws.nil-add R (whole R n)))
  whole-add (suc m) n =
      rw (suc-add, whole-suc (m + n), whole-suc m) (ap (R.add R.one) (whole-add m n) ∙ sym (RingLaws.add_assoc R _ _ _))

  pub whole-mul : (m n : ℕ) → whole R (m * n) ≡ R.mul (whole R m) (whole R n)
  whole-mul zero n = rw (zero-mul, whole-zero) (sym (RingLaws.nil-mul R (whole R n)))
  whole-mul (suc m) n =
      rw (suc-mul, whole-suc m) (whole-add (m * n) n ∙ ap (λ (w : R.V). R.add w (whole R n)) (whole-mul m n) ∙ simp ring)

  pub integer-neg : (n : ℕ) → integer R (neg_ℤ (pos n)) ≡ R.neg (whole R n)
  integer-neg zero = whole-zero ∙ sym (RingLaws.neg-nil R) ∙ ap R.neg (sym whole-zero)
  integer-neg (suc n) = refl

  pub integer-mul : (a b : ℤ) → integer R (a *ℤ b) ≡ R.mul (integer R a) (integer R b)
  integer-mul (pos a) (pos b) = whole-mul a b
  integer-mul (pos a) (negsuc b) = integer-neg (a * suc b) ∙ ap R.neg (whole-mul a (suc b)) ∙ sym (RingLaws.mul-neg R (whole R a) (whole R (suc b)))
  integer-mul (negsuc a) (pos b) = integer-neg (suc a * b) ∙ ap R.neg (whole-mul (suc a) b) ∙ sym (RingLaws.neg-mul R (whole R (suc a)) (whole R b))
  integer-mul (negsuc a) (negsuc b) =
      whole-mul (suc a) (suc b) ∙ sym (RingLaws.neg-neg R _) ∙ ap R.neg (sym (RingLaws.mul-neg R (whole R (suc a)) (whole R (suc b)))) ∙ sym (RingLaws.neg-mul R (whole R (suc a)) (R.neg (whole R (suc b))))
