-- Numbers in columns: what is written of one, one number more, and what a padded number says.
use Rattle.std.proofs.Common.{◌≡◌, ℕ, zero, suc, ◌+◌, ◌-◌, ◌^◌, ◌<◌, ◌≤◌, true, false, List, [], ◌∷◌, ◌++◌, map, length, get_or, take, replicate, pos, decimal, sym, refl, ap, ◌∙◌, append_assoc, append-nil, add-zero, arith, length-append, rules}
use Rattle.std.proofs.lemmas.List.{take_more, map_push, length-map, length-take, length-replicate}
use Rattle.std.specs.Int.Digits.{number_from_digits, number_from_digits_after}
use Rattle.std.proofs.lemmas.Str.Parse.{IsNumeralModel, numerals_by_fold}
use Rattle.std.proofs.lemmas.Fmt.{digits_decimal, digits_value-decimal, length-decimal-le, decimal_nonempty}
use Rattle.std.specs.Char.{encode_utf8}
use Rattle.std.specs.Fmt.{char_count, format_spec, padded_integral}
use Rattle.std.specs.List.{repeat}
use Rattle.sheet.specs.Lines.{all_digits, digit_value}
use Rattle.folding.specs.Columns.{padded, entry_of, rows_of, ColumnsRead}

repeat-blank : (k : ℕ) → repeat k (encode_utf8 32) ≡ replicate k 32
unfolding encode_utf8
repeat-blank zero = refl
repeat-blank (suc k) = ap (λ l. 32 ∷ l) (repeat-blank k)

-- what `{:>11}` writes
pub written : (n : ℕ) → padded_integral (format_spec 32 3 0 11 (2 ^ 64 - 1)) false [] (decimal n) ≡ padded n
unfolding padded_integral char_count
written n =
    let wide : 11 - length (decimal n) - 0 - 0 ≡ 11 - length (decimal n) = omega arith in
    let none : 11 - length (decimal n) - (11 - length (decimal n)) ≡ 0 = omega arith in
    rw (wide, none, repeat-blank (11 - length (decimal n))) (simp append-nil)

pub rows_push : (w k : ℕ) (ns : List ℕ) (n : ℕ) → rows_of w k (ns ++ (n ∷ [])) ≡ rows_of w k ns ++ entry_of w (k + length ns) n
rows_push w k [] n = append-nil (entry_of w k n) ∙ ap (λ i. entry_of w i n) (sym (add-zero k))
rows_push w k (m ∷ ns) n =
    let next : k + 1 + length ns ≡ k + length (m ∷ ns) = omega arith in
    ap (λ l. entry_of w k m ++ l) (rows_push w (k + 1) ns n) ∙ sym (append_assoc (entry_of w k m) (rows_of w (k + 1) ns) _)
    ∙ ap (λ i. (entry_of w k m ++ rows_of w (k + 1) ns) ++ entry_of w i n) next

-- the number of the next element is written
pub rows_more : {X : Type 0} (value : X → ℕ) (w k : ℕ) (xs : List X) (x : X) (n : ℕ) → k < length xs → x ≡ get_or xs k x → n ≡ value x → rows_of w 0 (map value (take k xs)) ++ entry_of w k n ≡ rows_of w 0 (map value (take (k + 1) xs))
rows_more value w k xs x n h is e =
    let ns = map value (take k xs) in
    let t : take (k + 1) xs ≡ take k xs ++ (x ∷ []) = take_more xs k x h ∙ ap (λ y. take k xs ++ (y ∷ [])) (sym is) in
    let l : 0 + length ns ≡ k = ap (λ i. 0 + i) (length-map (take k xs) value) ∙ simp length-take (omega arith) in
    sym
    (ap (λ l. rows_of w 0 (map value l)) t ∙ ap (rows_of w 0) (map_push value (take k xs) x) ∙ rows_push w 0 ns (value x)
    ∙ (λ i. rows_of w 0 ns ++ entry_of w (l i) (sym e i)))

own : IsNumeralModel (λ ds. all_digits ds ≡ true) (λ ds. number_from_digits 10 (map digit_value ds))
own = numerals_by_fold _ (search rules) (λ n ds. number_from_digits_after 10 n (map digit_value ds)) (search rules)

pub columns_read : ColumnsRead
columns_read n h =
    let small : n < 2 ^ 64 = omega arith in
    let d = decimal n in
    let few : length d ≤ 11 = length-decimal-le 11 n (omega arith) h small in
    let blanks : length (replicate {A = ℕ} (11 - length d) 32) ≡ 11 - length d = length-replicate (11 - length d) 32 in
    record {
      blanks = 11 - length d;
      minus = false;
      digits = d;
      text = refl;
      columns = length-append (replicate (11 - length d) 32) d ∙ omega arith;
      some = decimal_nonempty n small;
      each = digits_decimal own n small;
      says = ap pos (sym (digits_value-decimal own n small));
    }
