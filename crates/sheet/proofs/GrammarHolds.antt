-- The accepted texts are the sheets that are laid out of fields and lines.
use Rattle.std.proofs.Common.{◌≡◌, ℕ, zero, suc, ◌+◌, true, eqb, List, [], ◌∷◌, ◌++◌, length, take, drop, ℤ, pos, is_some, Some, None, Ok, Err, sym, refl, ap, ◌∙◌, subst, append_assoc, arith}
use Rattle.std.proofs.lemmas.List.{take-append-drop, take_at, drop_at}
use Rattle.std.proofs.lemmas.Bool.Decides.{nat_tests}
use Rattle.sheet.specs.Lines.{field_value, both, line_values, lines}
use Rattle.sheet.specs.Sheets.{Parameters, and_then, ahead, rows, of_lines}
use Rattle.sheet.specs.Grammar.{glued, Say, LineSays, LinesSay, SheetSays, GrammarHolds}
use Rattle.sheet.proofs.Fields.{fields_written}
use Rattle.sheet.proofs.Cuts.{line_lines, glue_lines}
use Rattle.sheet.proofs.Shapes.{line_length, Opened, opened, closed, shaped}
use Rattle.field.proofs.Bounds.{not_refused}

-- a line that is read is laid out of fields
say_line : (k : ℕ) (l : List ℕ) (zs : List ℤ) → line_values k l ≡ Some zs → LineSays l zs
say_line zero [] zs e = absurd (grind arith)
say_line zero (b ∷ []) zs e =
    let q : [] ≡ zs = grind arith in
    let t : eqb b 10 ≡ true = grind arith in
    let c : b ≡ 10 = grind (arith, nat_tests) in
    subst (λ (z : List ℤ). LineSays (b ∷ []) z) q (record { fields = []; text = ap (λ x. x ∷ []) c; say = tt })
say_line zero (b ∷ c ∷ bs) zs e = absurd (grind (arith, nat_tests))
say_line (suc k) l zs e =
    elim (field_value (take 11 l)) as (λ o. field_value (take 11 l) ≡ o → both o (line_values k (drop 11 l)) ≡ Some zs → LineSays l zs) [
      | None ↦ λ p h. absurd (grind arith)
      | Some z ↦ λ p h.
          elim (line_values k (drop 11 l)) as (λ o. line_values k (drop 11 l) ≡ o → both (Some z) o ≡ Some zs → LineSays l zs) [
            | None ↦ λ i j. absurd (grind arith)
            | Some ws ↦ λ i j.
                let q : z ∷ ws ≡ zs = grind arith in
                let r = say_line k (drop 11 l) ws i in
                subst (λ (x : List ℤ). LineSays l x) q (record {
                  fields = take 11 l ∷ r.fields;
                  text = sym (take-append-drop 11 l) ∙ ap (λ x. take 11 l ++ x) r.text ∙ sym (append_assoc (take 11 l) (glued r.fields) (10 ∷ []));
                  say = ((fields_written (take 11 l) z).0 p, r.say);
                })
          ] refl h
    ] refl e

line_say : (fs : List (List ℕ)) (zs : List ℤ) → Say fs zs → line_values (length zs) (glued fs ++ (10 ∷ [])) ≡ Some zs
line_say [] [] s = refl
line_say [] (z ∷ zs) s = absurd s
line_say (f ∷ fs) [] s = absurd s
line_say (f ∷ fs) (z ∷ zs) s =
    let rest = glued fs ++ (10 ∷ []) in
    let t = take_at f rest 11 s.0.columns in
    let d = drop_at f rest 11 s.0.columns in
    ap (line_values (suc (length zs))) (append_assoc f (glued fs) (10 ∷ [])) ∙ (λ i. both (field_value (t i)) (line_values (length zs) (d i)))
    ∙ (λ i. both ((fields_written f z).1 s.0 i) (line_say fs zs s.1 i))

line_says : (k : ℕ) (l : List ℕ) (zs : List ℤ) → LineSays l zs → length zs ≡ k → line_values k l ≡ Some zs
line_says k l zs w e = ap (λ n. line_values n l) (sym e) ∙ ap (line_values (length zs)) w.text ∙ line_say w.fields zs w.say

say_rows : (k m i : ℕ) (ls : List (List ℕ)) (vs : List ℤ) → rows k m i ls ≡ Ok vs → (rs : List (List ℤ)) × LinesSay k ls rs × (length ls ≡ m) × (vs ≡ glued rs)
say_rows k zero i [] vs e = let q : [] ≡ vs = grind arith in ([], tt, refl, sym q)
say_rows k zero i (l ∷ ls) vs e = absurd (grind arith)
say_rows k (suc m) i [] vs e = absurd (grind arith)
say_rows k (suc m) i (l ∷ ls) vs e =
    elim (line_values k l) as (λ o. line_values k l ≡ o → and_then i o (rows k m (i + 1) ls) ≡ Ok vs → (rs : List (List ℤ)) × LinesSay k (l ∷ ls) rs × (suc (length ls) ≡ suc m) × (vs ≡ glued rs)) [
      | None ↦ λ p h. absurd (grind arith)
      | Some zs ↦ λ p h.
          elim (rows k m (i + 1) ls) as (λ r. rows k m (i + 1) ls ≡ r → ahead zs r ≡ Ok vs → (rs : List (List ℤ)) × LinesSay k (l ∷ ls) rs × (suc (length ls) ≡ suc m) × (vs ≡ glued rs)) [
            | Err q ↦ λ a b. absurd (grind arith)
            | Ok ws ↦ λ a b.
                let q : zs ++ ws ≡ vs = grind arith in
                let r = say_rows k m (i + 1) ls ws a in
                (zs ∷ r.0, (say_line k l zs p, line_length k l zs p, r.1), ap suc r.2, sym q ∙ ap (λ x. zs ++ x) r.3)
          ] refl h
    ] refl e

rows_say : (k i : ℕ) (ls : List (List ℕ)) (rs : List (List ℤ)) → LinesSay k ls rs → rows k (length ls) i ls ≡ Ok (glued rs)
rows_say k i [] [] s = refl
rows_say k i [] (r ∷ rs) s = absurd s
rows_say k i (l ∷ ls) [] s = absurd s
rows_say k i (l ∷ ls) (r ∷ rs) s =
    (λ t. and_then i (line_says k l r s.0 s.1 t) (rows_say k (i + 1) ls rs s.2 t))

lines_say : (k : ℕ) (ls : List (List ℕ)) (rs : List (List ℤ)) → LinesSay k ls rs → lines (glued ls) ≡ ls
lines_say k [] [] s = refl
lines_say k [] (r ∷ rs) s = absurd s
lines_say k (l ∷ ls) [] s = absurd s
lines_say k (l ∷ ls) (r ∷ rs) s = (line_lines k l (glued ls) (ap is_some (line_says k l r s.0 s.1))).0 ∙ ap (λ x. l ∷ x) (lines_say k ls rs s.2)

says_of : (bs : List ℕ) (m : Parameters) (ls : List (List ℕ)) → glued ls ≡ bs → Opened ls m → SheetSays bs m
says_of bs m [] b o = let f = o.first in absurd (grind arith)
says_of bs m (l ∷ []) b o = let s = o.second in absurd (grind arith)
says_of bs m (l ∷ k ∷ ls) b o =
    let r = say_rows m.width (m.full + m.partial) 3 ls m.constants o.later in
    record {
      first = l;
      second = k;
      later = ls;
      rounds = r.0;
      text = sym b;
      sizes = say_line 3 l (pos m.width ∷ pos m.full ∷ pos m.partial ∷ []) o.first;
      columns = say_line m.width k m.column o.second;
      rows = r.1;
      count = r.2;
      elements = r.3;
      shape = shaped (l ∷ k ∷ ls) m o;
    }

is_of : (bs : List ℕ) (m : Parameters) → SheetSays bs m → of_lines (lines bs) ≡ Ok m
is_of bs m w =
    let n = m.width in
    let first = line_says 3 w.first (pos n ∷ pos m.full ∷ pos m.partial ∷ []) w.sizes refl in
    let second = line_says n w.second m.column w.columns w.shape.square in
    let cut : lines bs ≡ w.first ∷ w.second ∷ w.later = ap lines w.text ∙ (line_lines 3 w.first (w.second ++ glued w.later) (ap is_some first)).0
    ∙ ap (λ x. w.first ∷ x) ((line_lines n w.second (glued w.later) (ap is_some second)).0 ∙ ap (λ x. w.second ∷ x) (lines_say n w.later w.rounds w.rows)) in
    let later : rows n (m.full + m.partial) 3 w.later ≡ Ok m.constants = ap (λ c. rows n c 3 w.later) (sym w.count) ∙ rows_say n 3 w.later w.rounds w.rows ∙ ap Ok (sym w.elements) in
    ap of_lines cut
    ∙ closed (w.first ∷ w.second ∷ w.later) m (record { first = first; passed = not_refused n m.full m.partial w.shape.sizes; second = second; later = later })

pub grammar_holds : GrammarHolds
grammar_holds =
    record {
      laid = λ bs m. (λ e. says_of bs m (lines bs) (glue_lines bs) (opened (lines bs) m e), is_of bs m);
      once = λ bs m n a b. let e = sym (is_of bs m a) ∙ is_of bs n b in cc;
    }
