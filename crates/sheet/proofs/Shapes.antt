-- The lines of a sheet, and its sizes.
use Rattle.std.proofs.Common.{◌≡◌, ℕ, zero, suc, ◌+◌, ◌*◌, ◌<◌, ◌&&◌, eqb, List, [], ◌∷◌, ◌++◌, length, take, drop, ℤ, pos, negsuc, Some, None, Ok, Err, Result, sym, refl, ap, ◌∙◌, subst, suc-mul, zero-mul, arith, length-append}
use Rattle.std.proofs.lemmas.Option.{cond_some}
use Rattle.field.specs.Sizes.{sizes_refused}
use Rattle.field.proofs.Bounds.{admitted}
use Rattle.field.specs.declared.refusal.Refusal.{Refusal}
use Rattle.sheet.specs.Lines.{field_value, both, line_values}
use Rattle.sheet.specs.Sheets.{Parameters, WellShaped, natural, size_at, size_refused, and_then, ahead, line_of, rows, with_column, sized, headed, of_lines}

pub line_length : (k : ℕ) (l : List ℕ) (zs : List ℤ) → line_values k l ≡ Some zs → length zs ≡ k
line_length zero [] zs e = absurd (grind arith)
line_length zero (b ∷ bs) zs e = ap length (sym (cond_some (eqb b 10 && eqb (length bs) 0) [] zs e).1)
line_length (suc k) l zs e =
    elim (field_value (take 11 l)) as (λ o. both o (line_values k (drop 11 l)) ≡ Some zs → length zs ≡ suc k) [
      | None ↦ λ h. absurd (grind arith)
      | Some z ↦ λ h.
          elim (line_values k (drop 11 l)) as (λ o. line_values k (drop 11 l) ≡ o → both (Some z) o ≡ Some zs → length zs ≡ suc k) [
            | None ↦ λ i j. absurd (grind arith)
            | Some ws ↦ λ i j. let q : z ∷ ws ≡ zs = grind arith in sym (ap length q) ∙ ap suc (line_length k (drop 11 l) ws i)
          ] refl h
    ] e

line_of_length : (k : ℕ) (ls : List (List ℕ)) (zs : List ℤ) → line_of k ls ≡ Some zs → length zs ≡ k
line_of_length k [] zs e = absurd (grind arith)
line_of_length k (l ∷ ls) zs e = line_length k l zs e

rows_length : (k m i : ℕ) (ls : List (List ℕ)) (vs : List ℤ) → rows k m i ls ≡ Ok vs → length vs ≡ m * k
rows_length k zero i [] vs e = let q : [] ≡ vs = grind arith in sym (ap length q) ∙ sym (zero-mul k)
rows_length k zero i (l ∷ ls) vs e = absurd (grind arith)
rows_length k (suc m) i ls vs e =
    elim (line_of k ls) as (λ o. line_of k ls ≡ o → and_then i o (rows k m (i + 1) (drop 1 ls)) ≡ Ok vs → length vs ≡ suc m * k) [
      | None ↦ λ p h. absurd (grind arith)
      | Some zs ↦ λ p h.
          elim (rows k m (i + 1) (drop 1 ls)) as (λ r. rows k m (i + 1) (drop 1 ls) ≡ r → ahead zs r ≡ Ok vs → length vs ≡ suc m * k) [
            | Err q ↦ λ a b. absurd (grind arith)
            | Ok ws ↦ λ a b.
                let q : zs ++ ws ≡ vs = grind arith in
                sym (ap length q) ∙ length-append zs ws ∙ (λ t. line_of_length k ls zs p t + rows_length k m (i + 1) (drop 1 ls) ws a t) ∙ omega (arith, suc-mul m k)
          ] refl h
    ] refl e

whole_size : (z : ℤ) → 0 < natural z → z ≡ pos (natural z)
whole_size (pos n) h = refl
whole_size (negsuc n) h = absurd (omega arith)

three : (zs : List ℤ) → length zs ≡ 3 → size_refused zs ≡ None → zs ≡ pos (size_at zs 0) ∷ pos (size_at zs 1) ∷ pos (size_at zs 2) ∷ []
three [] e h = absurd (omega arith)
three (a ∷ []) e h = absurd (omega arith)
three (a ∷ b ∷ []) e h = absurd (omega arith)
three (a ∷ b ∷ c ∷ d ∷ zs) e h = absurd (omega arith)
three (a ∷ b ∷ c ∷ []) e h =
    let w = admitted (natural a) (natural b) (natural c) h in
    let x = whole_size a (omega (arith, w.width_least)) in
    let y = whole_size b (omega (arith, w.full_least)) in
    let z = whole_size c (omega (arith, w.partial_least)) in
    (λ i. x i ∷ y i ∷ z i ∷ [])

-- the lines ls say m, each of them by what it holds
pub record Opened (ls : List (List ℕ)) (m : Parameters) : Type 0 where
  pub first : line_of 3 ls ≡ Some (pos m.width ∷ pos m.full ∷ pos m.partial ∷ [])
  pub passed : sizes_refused m.width m.full m.partial ≡ None
  pub second : line_of m.width (drop 1 ls) ≡ Some m.column
  pub later : rows m.width (m.full + m.partial) 3 (drop 2 ls) ≡ Ok m.constants

pub opened : (ls : List (List ℕ)) (m : Parameters) → of_lines ls ≡ Ok m → Opened ls m
opened ls m e =
    let later : ℕ → ℕ → ℕ → Result Parameters Refusal = λ n f p. with_column n f p (line_of n (drop 1 ls)) (rows n (f + p) 3 (drop 2 ls)) in
    elim (line_of 3 ls) as (λ o. line_of 3 ls ≡ o → headed o later ≡ Ok m → Opened ls m) [
      | None ↦ λ first h. absurd (grind arith)
      | Some zs ↦ λ first h.
          let n = size_at zs 0 in
          let f = size_at zs 1 in
          let p = size_at zs 2 in
          elim (size_refused zs) as (λ o. size_refused zs ≡ o → sized o (later n f p) ≡ Ok m → Opened ls m) [
            | Some q ↦ λ passed h. absurd (grind arith)
            | None ↦ λ passed h.
                elim (line_of n (drop 1 ls)) as (λ o. line_of n (drop 1 ls) ≡ o → with_column n f p o (rows n (f + p) 3 (drop 2 ls)) ≡ Ok m → Opened ls m) [
                  | None ↦ λ second h. absurd (grind arith)
                  | Some column ↦ λ second h.
                      elim (rows n (f + p) 3 (drop 2 ls)) as (λ r. rows n (f + p) 3 (drop 2 ls) ≡ r → with_column n f p (Some column) r ≡ Ok m → Opened ls m) [
                        | Err q ↦ λ rounds h. absurd (grind arith)
                        | Ok constants ↦ λ rounds h.
                            let same : record { width = n; full = f; partial = p; column = column; constants = constants } ≡ m = grind arith in
                            let header = three zs (line_of_length 3 ls zs first) passed in
                            subst (Opened ls) same (record { first = first ∙ ap Some header; passed = passed; second = second; later = rounds })
                      ] refl h
                ] refl h
          ] refl h
    ] refl e

pub closed : (ls : List (List ℕ)) (m : Parameters) → Opened ls m → of_lines ls ≡ Ok m
closed ls m o =
    let n = m.width in
    let f = m.full in
    let p = m.partial in
    let later : ℕ → ℕ → ℕ → Result Parameters Refusal = λ n f p. with_column n f p (line_of n (drop 1 ls)) (rows n (f + p) 3 (drop 2 ls)) in
    ap (λ h. headed h later) o.first ∙ ap (λ q. sized q (later n f p)) o.passed ∙ (λ t. with_column n f p (o.second t) (o.later t))

-- every sheet has the sizes that its first line says
pub shaped : (ls : List (List ℕ)) (m : Parameters) → Opened ls m → WellShaped m
shaped ls m o =
    record {
      sizes = admitted m.width m.full m.partial o.passed;
      square = line_of_length m.width (drop 1 ls) m.column o.second;
      rounds = rows_length m.width (m.full + m.partial) 3 (drop 2 ls) m.constants o.later;
    }
