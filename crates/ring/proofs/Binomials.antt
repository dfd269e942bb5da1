-- Binomial numbers, and the powers of 1 + x.
use Rattle.std.proofs.Common.{◌≡◌, ℕ, zero, suc, ◌+◌, ◌*◌, ◌<◌, sym, refl, ap, ◌∙◌, arith}
use native.Mathlib.Nat
use Rattle.ring.specs.Rings.{RingOn, power, whole}
use Rattle.ring.specs.Sums.{sum}
use Rattle.ring.proofs.RingLaws
use Rattle.ring.proofs.RingLaws.{ring}
use Rattle.ring.proofs.Integers.{whole-zero, whole-suc, whole-add}
use Rattle.ring.proofs.Powers.{power-zero, power-suc}
use Rattle.ring.proofs.SumLaws.{sum_cong, sum-add, sum-mul, sum_first, sum_last, sum_one}

abbrev pub binom : ℕ → ℕ → ℕ
binom n zero = 1
binom zero (suc k) = 0
binom (suc n) (suc k) = binom n k + binom n (suc k)

pub binom_past : (n k : ℕ) → n < k → binom n k ≡ 0
binom_past n zero h = absurd (omega arith)
binom_past zero (suc k) h = refl
binom_past (suc n) (suc k) h =
    let a : binom n k ≡ 0 = binom_past n k (omega arith) in
    let b : binom n (suc k) ≡ 0 = binom_past n (suc k) (omega arith) in omega arith

pub binom_last : (n : ℕ) → binom n n ≡ 1
binom_last zero = refl
binom_last (suc n) =
    let a : binom n n ≡ 1 = binom_last n in
    let b : binom n (suc n) ≡ 0 = binom_past n (suc n) (omega arith) in omega arith

pub binom_absorb : (n k : ℕ) → suc k * binom (suc n) (suc k) ≡ suc n * binom n k
binom_absorb zero zero = refl
binom_absorb zero (suc k) = Nat.mul-zero (suc (suc k))
binom_absorb (suc n) zero = let h : 1 * binom (suc n) 1 ≡ suc n * 1 = binom_absorb n zero in omega arith
binom_absorb (suc n) (suc k) =
    let h : suc k * binom (suc n) (suc k) ≡ suc n * binom n k = binom_absorb n k in
    let g : suc (suc k) * binom (suc n) (suc (suc k)) ≡ suc n * binom n (suc k) = binom_absorb n (suc k) in omega arith

module _ (R : RingOn) (x : R.V) where
  unfoldable pub part : ℕ → ℕ → R.V
  part n k = R.mul (whole R (binom n k)) (power R k x)

  pub part_zero : (n : ℕ) → part n 0 ≡ R.one
  unfolding part
  part_zero n = simp (ring, whole-suc R 0, whole-zero, power-zero)

  part_past : (n : ℕ) → part n (suc n) ≡ R.nil
  unfolding part
  part_past n =
      ap (λ (k : ℕ). R.mul (whole R k) (power R (suc n) x)) (binom_past n (suc n) (Nat.lt-suc_self n))
      ∙ ap (λ (w : R.V). R.mul w (power R (suc n) x)) (whole-zero R) ∙ RingLaws.nil-mul R _

  part_more : (n k : ℕ) → part (suc n) (suc k) ≡ R.add (R.mul x (part n k)) (part n (suc k))
  unfolding part
  part_more n k =
      ap (λ (w : R.V). R.mul w (power R (suc k) x)) (whole-add R (binom n k) (binom n (suc k)))
      ∙ RingLaws.add-mul R _ _ _
      ∙ ap (λ (w : R.V). R.add (R.mul (whole R (binom n k)) w) (R.mul (whole R (binom n (suc k))) (power R (suc k) x))) (power-suc R k x)
      ∙ ap (λ (w : R.V). R.add w (R.mul (whole R (binom n (suc k))) (power R (suc k) x))) (RingLaws.mul_left_comm R _ _ _)

  -- (1 + x) ^ n is the sum of its parts
  pub power_plus : (n : ℕ) → power R n (R.add R.one x) ≡ sum R (suc n) (part n)
  power_plus zero = power-zero R _ ∙ sym (sum_one R (part 0) ∙ part_zero 0)
  power_plus (suc n) =
      power-suc R n _ ∙ ap (R.mul (R.add R.one x)) (power_plus n)
      ∙ sym
      (sum_first R (suc n) (part (suc n))
      ∙ ap (λ (w : R.V). R.add w (sum R (suc n) (λ k. part (suc n) (suc k)))) (part_zero (suc n))
      ∙ ap (R.add R.one)
      (sum_cong R (suc n) _ _ (λ k _. part_more n k) ∙ sum-add R (suc n) (λ k. R.mul x (part n k)) (λ k. part n (suc k))
      ∙ ap (λ (w : R.V). R.add w (sum R (suc n) (λ k. part n (suc k)))) (sum-mul R (suc n) x (part n)))
      ∙ regroup (R.mul x (sum R (suc n) (part n))) (sum R (suc n) (λ k. part n (suc k)))
      ∙ ap (R.add (R.mul x (sum R (suc n) (part n)))) whole_row
      ∙ back (sum R (suc n) (part n)))
    where
      regroup : (a b : R.V) → R.add R.one (R.add a b) ≡ R.add a (R.add R.one b)
      regroup a b = RingLaws.add_left_comm R R.one a b

      whole_row : R.add R.one (sum R (suc n) (λ k. part n (suc k))) ≡ sum R (suc n) (part n)
      whole_row =
          ap (λ (w : R.V). R.add w (sum R (suc n) (λ k. part n (suc k)))) (sym (part_zero n))
          ∙ sym (sum_first R (suc n) (part n))
          ∙ sum_last R (suc n) (part n)
          ∙ ap (R.add (sum R (suc n) (part n))) (part_past n) ∙ RingLaws.add-nil R _

      back : (s : R.V) → R.add (R.mul x s) s ≡ R.mul (R.add R.one x) s
      back s = simp ring
