-- A field is blanks, a minus sign or none, and digits.
use Rattle.std.proofs.Common.{◌≡◌, ℕ, zero, suc, ◌<◌, Bool, true, false, cond, eqb, ◌↔◌, List, [], ◌∷◌, ◌++◌, map, length, replicate, ℤ, pos, neg_ℤ, Some, None, sym, refl, ap, ◌∙◌, arith, eq-eqb}
use Rattle.std.specs.Int.Digits.{number_from_digits}
use Rattle.std.proofs.lemmas.Option.{cond_some}
use Rattle.std.proofs.lemmas.Bool.Decides.{nat_tests}
use Rattle.sheet.specs.Lines.{is_digit, all_digits, digit_value, digits_value, plain, negated, number_value, text_value, field_value, Written}

abbrev amount : List ℕ → ℕ
amount ds = number_from_digits 10 (map digit_value ds)

abbrev signed : Bool → ℕ → ℤ
signed m n = cond m (neg_ℤ (pos n)) (pos n)

-- a field without its number of columns
record Padded (bs : List ℕ) (z : ℤ) : Type 0 where
  blanks : ℕ
  minus : Bool
  digits : List ℕ
  text : bs ≡ replicate blanks 32 ++ (cond minus (45 ∷ []) [] ++ digits)
  some : 0 < length digits
  each : all_digits digits ≡ true
  says : z ≡ signed minus (amount digits)

digits_are : (bs : List ℕ) (n : ℕ) → digits_value bs ≡ Some n → (0 < length bs) × (all_digits bs ≡ true) × (n ≡ amount bs)
digits_are [] n e = absurd (grind arith)
digits_are (b ∷ bs) n e = let c = cond_some (all_digits (b ∷ bs)) (amount (b ∷ bs)) n e in (omega arith, c.0, sym c.1)

number_is : (bs : List ℕ) (z : ℤ) → number_value bs ≡ Some z → Padded bs z
number_is [] z e = absurd (grind arith)
number_is (b ∷ bs) z e =
    elim (eqb b 45) as (λ t. eqb b 45 ≡ t → cond t (negated (digits_value bs)) (plain (digits_value (b ∷ bs))) ≡ Some z → Padded (b ∷ bs) z) [
      | true ↦ λ t h.
          elim (digits_value bs) as (λ o. digits_value bs ≡ o → negated o ≡ Some z → Padded (b ∷ bs) z) [
            | None ↦ λ i j. absurd (grind arith)
            | Some n ↦ λ i j.
                let d = digits_are bs n i in
                let s : neg_ℤ (pos n) ≡ z = grind arith in
                let q : b ≡ 45 = grind (arith, nat_tests) in
                record { blanks = 0; minus = true; digits = bs; text = ap (λ x. x ∷ bs) q; some = d.0; each = d.1; says = sym s ∙ ap (λ k. neg_ℤ (pos k)) d.2 }
          ] refl h
      | false ↦ λ t h.
          elim (digits_value (b ∷ bs)) as (λ o. digits_value (b ∷ bs) ≡ o → plain o ≡ Some z → Padded (b ∷ bs) z) [
            | None ↦ λ i j. absurd (grind arith)
            | Some n ↦ λ i j.
                let d = digits_are (b ∷ bs) n i in
                let s : pos n ≡ z = grind arith in
                record { blanks = 0; minus = false; digits = b ∷ bs; text = refl; some = d.0; each = d.1; says = sym s ∙ ap pos d.2 }
          ] refl h
    ] refl e

text_is : (bs : List ℕ) (z : ℤ) → text_value bs ≡ Some z → Padded bs z
text_is [] z e = absurd (grind arith)
text_is (b ∷ bs) z e =
    elim (eqb b 32) as (λ t. eqb b 32 ≡ t → cond t (text_value bs) (number_value (b ∷ bs)) ≡ Some z → Padded (b ∷ bs) z) [
      | true ↦ λ t h.
          let w = text_is bs z h in
          let q : b ≡ 32 = grind (arith, nat_tests) in
          record { blanks = suc w.blanks; minus = w.minus; digits = w.digits; text = (λ i. q i ∷ w.text i); some = w.some; each = w.each; says = w.says }
      | false ↦ λ t h. number_is (b ∷ bs) z h
    ] refl e

digits_say : (ds : List ℕ) → 0 < length ds → all_digits ds ≡ true → digits_value ds ≡ Some (amount ds)
digits_say [] s e = absurd (omega arith)
digits_say (d ∷ ds) s e = ap (λ t. cond t (Some (amount (d ∷ ds))) None) e

text_says : (ds : List ℕ) → 0 < length ds → all_digits ds ≡ true → text_value ds ≡ Some (pos (amount ds))
text_says [] s e = absurd (omega arith)
text_says (d ∷ ds) s e =
    let i : is_digit d ≡ true = grind arith in
    let a : eqb d 32 ≡ false = grind (arith, nat_tests) in
    let b : eqb d 45 ≡ false = grind (arith, nat_tests) in
    rw (a, b) (ap plain (digits_say (d ∷ ds) s e))

padded_says : (k : ℕ) (m : Bool) (ds : List ℕ) → 0 < length ds → all_digits ds ≡ true → text_value (replicate k 32 ++ (cond m (45 ∷ []) [] ++ ds)) ≡ Some (signed m (amount ds))
padded_says zero true ds s e = ap negated (digits_say ds s e)
padded_says zero false ds s e = text_says ds s e
padded_says (suc k) m ds s e = padded_says k m ds s e

pub fields_written : (bs : List ℕ) (z : ℤ) → (field_value bs ≡ Some z) ↔ Written bs z
fields_written bs z = (
  λ e.
      elim (eqb (length bs) 11) as (λ t. eqb (length bs) 11 ≡ t → cond t (text_value bs) None ≡ Some z → Written bs z) [
        | true ↦ λ t h.
            let w = text_is bs z h in
            record { blanks = w.blanks; minus = w.minus; digits = w.digits; text = w.text; columns = grind (arith, nat_tests); some = w.some; each = w.each; says = w.says }
        | false ↦ λ t h. absurd (grind arith)
      ] refl e,
  λ w.
      let l : eqb (length bs) 11 ≡ true = eq-eqb (length bs) 11 w.columns in
      ap (λ t. cond t (text_value bs) None) l ∙ ap text_value w.text ∙ padded_says w.blanks w.minus w.digits w.some w.each ∙ ap Some (sym w.says),
)
