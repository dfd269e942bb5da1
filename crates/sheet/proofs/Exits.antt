-- What a sheet is, by what the reader knows where it stops.
use Rattle.std.proofs.Common.{◌≡◌, ℕ, ◌+◌, ◌*◌, true, List, drop, ℤ, is_ok, Some, None, Ok, Err, Result, sym, refl, ap, ◌∙◌, arith}
use Rattle.ring.specs.Rings.{RingOn}
use Rattle.field.specs.declared.refusal.Refusal.{Refusal}
use Rattle.field.specs.declared.refusal.Refusal.TheVariants.{Line}
use Rattle.sheet.specs.Lines.{lines}
use Rattle.sheet.specs.Places.{line_at, rows_at}
use Rattle.sheet.specs.Sheets.{Parameters, size_at, size_refused, with_column, sized, headed, of_lines}
use Rattle.sheet.specs.Answers.{Reads}
use Rattle.sheet.specs.Rows.{numbers_of, rows_say, Stopped}
use Rattle.sheet.specs.Forms.{Checked}
use Rattle.sheet.specs.declared.error.SheetError.{SheetError}
use Rattle.sheet.specs.declared.error.SheetError.TheVariants.{Refused, Memory}
use Rattle.sheet.specs.declared.form.Form.{Form}
use Rattle.sheet.proofs.Cuts.{later, cut_sheet}

pub at_first : (xs : List ℕ) → line_at 3 xs ≡ None → of_lines (lines xs) ≡ Err (Line 1)
at_first xs e = cut_sheet xs ∙ ap (λ o. headed o (later (drop 34 xs))) e

pub at_size : (xs : List ℕ) (zs : List ℤ) (q : Refusal) → line_at 3 xs ≡ Some zs → size_refused zs ≡ Some q → of_lines (lines xs) ≡ Err q
at_size xs zs q e h =
    cut_sheet xs ∙ ap (λ o. headed o (later (drop 34 xs))) e
    ∙ ap (λ o. sized o (later (drop 34 xs) (size_at zs 0) (size_at zs 1) (size_at zs 2))) h

-- past the sizes
pub at_body : (xs : List ℕ) (zs : List ℤ) (n f p : ℕ) (rest : List ℕ) → line_at 3 xs ≡ Some zs → size_refused zs ≡ None → n ≡ size_at zs 0 → f ≡ size_at zs 1 → p ≡ size_at zs 2 → rest ≡ drop 34 xs → of_lines (lines xs) ≡ later rest n f p
at_body xs zs n f p rest e h n-is f-is p-is r-is =
    cut_sheet xs ∙ ap (λ o. headed o (later (drop 34 xs))) e
    ∙ ap (λ o. sized o (later (drop 34 xs) (size_at zs 0) (size_at zs 1) (size_at zs 2))) h
    ∙ (λ t. later (sym r-is t) (sym n-is t) (sym f-is t) (sym p-is t))

pub at_column : (rest : List ℕ) (n f p : ℕ) → line_at n rest ≡ None → later rest n f p ≡ Err (Line 2)
at_column rest n f p e = ap (λ o. with_column n f p o (rows_at n (f + p) 3 (drop (11 * n + 1) rest))) e

-- past the column
pub at_rounds : (rest more : List ℕ) (n f p : ℕ) (zs : List ℤ) → line_at n rest ≡ Some zs → more ≡ drop (11 * n + 1) rest → later rest n f p ≡ with_column n f p (Some zs) (rows_at n (f + p) 3 more)
at_rounds rest more n f p zs e m = λ t. with_column n f p (e t) (rows_at n (f + p) 3 (sym m t))

-- lines that are accepted make a sheet
pub accepted : (n f p : ℕ) (zs : List ℤ) (r : Result (List ℤ) Refusal) → is_ok r ≡ true → (m : Parameters) × (with_column n f p (Some zs) r ≡ Ok m)
accepted n f p zs (Ok ws) h = (record { width = n; full = f; partial = p; column = zs; constants = ws }, refl)
accepted n f p zs (Err q) h = absurd (grind arith)

-- what the reader answers where its form is checked and the reading of the rounds stopped
pub stopped : {F : Type 0} (R : RingOn) (value : F → R.V) (bs : List ℕ) (f : Form) (e : SheetError) → Checked bs f → Stopped (rows_say f.rounds) e → Reads R value bs (Err e)
stopped R value bs f (Refused q) h s = h.says ∙ ap (with_column f.sizes.width f.sizes.rounds_f f.sizes.rounds_p (Some (numbers_of f.column))) s
stopped R value bs f (Memory a) h s =
    let m = accepted f.sizes.width f.sizes.rounds_f f.sizes.rounds_p (numbers_of f.column) (rows_say f.rounds) h.accepted in
    (m.0, h.says ∙ m.1)
