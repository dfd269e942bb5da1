-- The lines of a text, by places in it.
use Rattle.std.proofs.Common.{◌≡◌, ℕ, zero, suc, ◌+◌, ◌*◌, Bool, true, false, cond, eqb, List, [], ◌∷◌, ◌++◌, length, take, drop, ℤ, is_some, Some, None, Option, Result, sym, refl, ap, ◌∙◌, append_assoc, arith, length-append}
use Rattle.std.proofs.lemmas.List.{take-append-drop, take_at, drop-drop}
use Rattle.std.proofs.lemmas.Bool.Decides.{nat_tests}
use Rattle.field.specs.declared.refusal.Refusal.{Refusal}
use Rattle.sheet.specs.Lines.{is_digit, all_digits, digits_value, plain, negated, number_value, text_value, field_value, both, line_values, begin, lines}
use Rattle.sheet.specs.Grammar.{glued}
use Rattle.sheet.specs.Places.{line_at, rows_at}
use Rattle.sheet.specs.Sheets.{and_then, ahead, line_of, rows, with_column, sized, headed, of_lines, size_refused, size_at, Parameters}

-- what bytes say, by the places of the lines
abbrev pub later : List ℕ → ℕ → ℕ → ℕ → Result Parameters Refusal
later xs n f p = with_column n f p (line_at n xs) (rows_at n (f + p) 3 (drop (11 * n + 1) xs))

abbrev pub of_bytes : List ℕ → Result Parameters Refusal
of_bytes bs = headed (line_at 3 bs) (later (drop 34 bs))

-- no byte of it is a line feed
abbrev pub unbroken : List ℕ → Bool
unbroken [] = true
unbroken (b ∷ bs) = cond (eqb b 10) false (unbroken bs)

digit_plain : (b : ℕ) → is_digit b ≡ true → eqb b 10 ≡ false
digit_plain b h = grind (arith, nat_tests)

all_unbroken : (bs : List ℕ) → all_digits bs ≡ true → unbroken bs ≡ true
all_unbroken [] h = refl
all_unbroken (b ∷ bs) h =
    let p : is_digit b ≡ true = grind arith in
    let q : all_digits bs ≡ true = grind arith in
    rw (digit_plain b p) (all_unbroken bs q)

digits_unbroken : (bs : List ℕ) → is_some (digits_value bs) ≡ true → unbroken bs ≡ true
digits_unbroken [] h = refl
digits_unbroken (b ∷ bs) h = let p : all_digits (b ∷ bs) ≡ true = grind arith in all_unbroken (b ∷ bs) p

is_some-plain : (o : Option ℕ) → is_some (plain o) ≡ is_some o
is_some-plain None = refl
is_some-plain (Some n) = refl

is_some-negated : (o : Option ℕ) → is_some (negated o) ≡ is_some o
is_some-negated None = refl
is_some-negated (Some n) = refl

number_unbroken : (bs : List ℕ) → is_some (number_value bs) ≡ true → unbroken bs ≡ true
number_unbroken [] h = refl
number_unbroken (b ∷ bs) h =
    elim (eqb b 45) as (λ t. eqb b 45 ≡ t → is_some (cond t (negated (digits_value bs)) (plain (digits_value (b ∷ bs)))) ≡ true → unbroken (b ∷ bs) ≡ true) [
      | true ↦ λ e k. let n : eqb b 10 ≡ false = grind (arith, nat_tests) in rw n (digits_unbroken bs (sym (is_some-negated (digits_value bs)) ∙ k))
      | false ↦ λ e k. digits_unbroken (b ∷ bs) (sym (is_some-plain (digits_value (b ∷ bs))) ∙ k)
    ] refl h

text_unbroken : (bs : List ℕ) → is_some (text_value bs) ≡ true → unbroken bs ≡ true
text_unbroken [] h = refl
text_unbroken (b ∷ bs) h =
    elim (eqb b 32) as (λ t. eqb b 32 ≡ t → is_some (cond t (text_value bs) (number_value (b ∷ bs))) ≡ true → unbroken (b ∷ bs) ≡ true) [
      | true ↦ λ e k. let n : eqb b 10 ≡ false = grind (arith, nat_tests) in rw n (text_unbroken bs k)
      | false ↦ λ e k. number_unbroken (b ∷ bs) k
    ] refl h

field_unbroken : (bs : List ℕ) → is_some (field_value bs) ≡ true → (length bs ≡ 11) × (unbroken bs ≡ true)
field_unbroken bs h =
    elim (eqb (length bs) 11) as (λ t. eqb (length bs) 11 ≡ t → is_some (cond t (text_value bs) None) ≡ true → (length bs ≡ 11) × (unbroken bs ≡ true)) [
      | true ↦ λ e k. (grind (arith, nat_tests), text_unbroken bs k)
      | false ↦ λ e k. absurd (grind arith)
    ] refl h

-- a text with no line feed stands before the first line of what follows it
lines_unbroken : (bs ys l : List ℕ) (ls : List (List ℕ)) → unbroken bs ≡ true → lines ys ≡ l ∷ ls → lines (bs ++ ys) ≡ (bs ++ l) ∷ ls
lines_unbroken [] ys l ls u e = e
lines_unbroken (b ∷ bs) ys l ls u e =
    let n : eqb b 10 ≡ false = grind arith in
    let v : unbroken bs ≡ true = grind arith in
    rw n (ap (begin b) (lines_unbroken bs ys l ls v e))

is_some-both : (o : Option ℤ) (r : Option (List ℤ)) → is_some (both o r) ≡ true → (is_some o ≡ true) × (is_some r ≡ true)
is_some-both None r h = absurd (grind arith)
is_some-both (Some z) None h = absurd (grind arith)
is_some-both (Some z) (Some zs) h = (refl, refl)

-- a line of k numbers is the first line of any text that begins with it
pub line_lines : (k : ℕ) (l ys : List ℕ) → is_some (line_values k l) ≡ true → (lines (l ++ ys) ≡ l ∷ lines ys) × (length l ≡ 11 * k + 1)
line_lines zero [] ys h = absurd (grind arith)
line_lines zero (b ∷ []) ys h = let e : eqb b 10 ≡ true = grind arith in (rw e, refl)
line_lines zero (b ∷ c ∷ bs) ys h = absurd (grind (arith, nat_tests))
line_lines (suc k) l ys h =
    let g = is_some-both (field_value (take 11 l)) (line_values k (drop 11 l)) h in
    let f = field_unbroken (take 11 l) g.0 in
    let r = line_lines k (drop 11 l) ys g.1 in
    let j = take-append-drop 11 l in
    let n = length-append (take 11 l) (drop 11 l) in
    let m : length (take 11 l ++ drop 11 l) ≡ length l = ap length j in (
      ap (λ x. lines (x ++ ys)) (sym j) ∙ ap lines (append_assoc (take 11 l) (drop 11 l) ys) ∙ lines_unbroken (take 11 l) (drop 11 l ++ ys) (drop 11 l) (lines ys) f.1 r.0 ∙ ap (λ x. x ∷ lines ys) j,
      omega (arith, f.0, r.1),
    )

glue_begin : (b : ℕ) (ls : List (List ℕ)) → glued (begin b ls) ≡ b ∷ glued ls
glue_begin b [] = refl
glue_begin b (l ∷ ls) = refl

pub glue_lines : (bs : List ℕ) → glued (lines bs) ≡ bs
glue_lines [] = refl
glue_lines (b ∷ bs) =
    elim (eqb b 10) as (λ t. glued (cond t ((b ∷ []) ∷ lines bs) (begin b (lines bs))) ≡ b ∷ bs) [
      | true ↦ ap (λ l. b ∷ l) (glue_lines bs)
      | false ↦ glue_begin b (lines bs) ∙ ap (λ l. b ∷ l) (glue_lines bs)
    ]

-- where the text begins with a line of k numbers, that is its first line
pub cut : (k : ℕ) (xs : List ℕ) (zs : List ℤ) → line_at k xs ≡ Some zs → lines xs ≡ take (11 * k + 1) xs ∷ lines (drop (11 * k + 1) xs)
cut k xs zs e =
    ap lines (sym (take-append-drop (11 * k + 1) xs)) ∙ (line_lines k (take (11 * k + 1) xs) (drop (11 * k + 1) xs) (ap is_some e)).0

cut_none : (k : ℕ) (xs : List ℕ) (ls : List (List ℕ)) → lines xs ≡ ls → line_at k xs ≡ None → line_of k ls ≡ line_at k xs
cut_none k xs [] e h = sym h
cut_none k xs (l ∷ ls) e h =
    let x : xs ≡ l ++ glued ls = sym (glue_lines xs) ∙ ap glued e in
    elim (line_values k l) as (λ o. line_values k l ≡ o → o ≡ line_at k xs) [
      | None ↦ λ g. sym h
      | Some zs ↦ λ g. sym g ∙ ap (line_values k) (sym (take_at l (glued ls) (11 * k + 1) (line_lines k l [] (ap is_some g)).1) ∙ ap (take (11 * k + 1)) (sym x))
    ] refl

pub cut_line : (k : ℕ) (xs : List ℕ) → line_of k (lines xs) ≡ line_at k xs
cut_line k xs =
    elim (line_at k xs) as (λ o. line_at k xs ≡ o → line_of k (lines xs) ≡ o) [
      | None ↦ λ h. cut_none k xs (lines xs) refl h ∙ h
      | Some zs ↦ λ h. ap (line_of k) (cut k xs zs h) ∙ h
    ] refl

pub cut_rest : (k : ℕ) (xs : List ℕ) (zs : List ℤ) → line_at k xs ≡ Some zs → drop 1 (lines xs) ≡ lines (drop (11 * k + 1) xs)
cut_rest k xs zs e = ap (drop 1) (cut k xs zs e)

rows_zero : (k i b : ℕ) (bs : List ℕ) → rows k zero i (lines (b ∷ bs)) ≡ rows_at k zero i (b ∷ bs)
rows_zero k i b bs =
    elim (eqb b 10) as (λ t. rows k zero i (cond t ((b ∷ []) ∷ lines bs) (begin b (lines bs))) ≡ rows_at k zero i (b ∷ bs)) [
      | true ↦ refl
      | false ↦ elim (lines bs) as (λ ls. rows k zero i (begin b ls) ≡ rows_at k zero i (b ∷ bs)) [ [] ↦ refl | l ∷ ls ↦ refl ]
    ]

pub cut_rows : (k m i : ℕ) (xs : List ℕ) → rows k m i (lines xs) ≡ rows_at k m i xs
cut_rows k zero i [] = refl
cut_rows k zero i (b ∷ bs) = rows_zero k i b bs
cut_rows k (suc m) i xs =
    ap (λ o. and_then i o (rows k m (i + 1) (drop 1 (lines xs)))) (cut_line k xs)
    ∙ (elim (line_at k xs) as (λ o. line_at k xs ≡ o → and_then i o (rows k m (i + 1) (drop 1 (lines xs))) ≡ and_then i o (rows_at k m (i + 1) (drop (11 * k + 1) xs))) [
      | None ↦ λ e. refl
      | Some zs ↦ λ e. ap (λ r. ahead zs r) (ap (rows k m (i + 1)) (cut_rest k xs zs e) ∙ cut_rows k m (i + 1) (drop (11 * k + 1) xs))
    ] refl)

cut_column : (n f p : ℕ) (xs : List ℕ) → with_column n f p (line_of n (lines xs)) (rows n (f + p) 3 (drop 1 (lines xs))) ≡ later xs n f p
cut_column n f p xs =
    ap (λ o. with_column n f p o (rows n (f + p) 3 (drop 1 (lines xs)))) (cut_line n xs)
    ∙ (elim (line_at n xs) as (λ o. line_at n xs ≡ o → with_column n f p o (rows n (f + p) 3 (drop 1 (lines xs))) ≡ with_column n f p o (rows_at n (f + p) 3 (drop (11 * n + 1) xs))) [
      | None ↦ λ e. refl
      | Some zs ↦ λ e. ap (with_column n f p (Some zs)) (ap (rows n (f + p) 3) (cut_rest n xs zs e) ∙ cut_rows n (f + p) 3 (drop (11 * n + 1) xs))
    ] refl)

-- the meaning of a text by its lines is that by places
pub cut_sheet : (xs : List ℕ) → of_lines (lines xs) ≡ of_bytes xs
cut_sheet xs =
    let ls = lines xs in
    let body : ℕ → ℕ → ℕ → Result Parameters Refusal = λ n f p. with_column n f p (line_of n (drop 1 ls)) (rows n (f + p) 3 (drop 2 ls)) in
    ap (λ o. headed o body) (cut_line 3 xs)
    ∙ (elim (line_at 3 xs) as (λ o. line_at 3 xs ≡ o → headed o body ≡ headed o (later (drop 34 xs))) [
      | None ↦ λ e. refl
      | Some zs ↦ λ e.
          let n = size_at zs 0 in
          let f = size_at zs 1 in
          let p = size_at zs 2 in
          let c = cut_rest 3 xs zs e in
          let d : drop 2 ls ≡ drop 1 (lines (drop 34 xs)) = sym (drop-drop 1 1 ls) ∙ ap (drop 1) c in
          ap (sized (size_refused zs)) ((λ t. with_column n f p (line_of n (c t)) (rows n (f + p) 3 (d t))) ∙ cut_column n f p (drop 34 xs))
    ] refl)
