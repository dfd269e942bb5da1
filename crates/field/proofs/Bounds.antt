-- No size is refused exactly where all are within their bounds.
use Rattle.std.proofs.Common.{◌≡◌, ℕ, ◌≤◌, Bool, true, false, cond, Some, None, refl, arith, le-leb}
use Rattle.std.proofs.lemmas.Bool.Decides.{nat_tests}
use Rattle.field.specs.declared.refusal.Refusal.{Refusal}
use Rattle.field.specs.Sizes.{within, width_admitted, full_admitted, partial_admitted, sizes_refused, Admitted}

bounds : (least most n : ℕ) → within least most n ≡ true → (least ≤ n) × (n ≤ most)
bounds least most n h = (grind (arith, nat_tests), grind (arith, nat_tests))

all : (a b c : Bool) (p q r : Refusal) → cond a (cond b (cond c None (Some r)) (Some q)) (Some p) ≡ None → (a ≡ true) × (b ≡ true) × (c ≡ true)
all true true true p q r h = (refl, refl, refl)
all true true false p q r h = absurd (grind arith)
all true false c p q r h = absurd (grind arith)
all false b c p q r h = absurd (grind arith)

pub admitted : (n f p : ℕ) → sizes_refused n f p ≡ None → Admitted n f p
admitted n f p h =
    let w = all (width_admitted n) (full_admitted f) (partial_admitted p) _ _ _ h in
    let a = bounds 2 24 n w.0 in
    let b = bounds 6 32 f w.1 in
    let c = bounds 1 128 p w.2 in
    record { width_least = a.0; width_most = a.1; full_least = b.0; full_most = b.1; partial_least = c.0; partial_most = c.1 }

pub not_refused : (n f p : ℕ) → Admitted n f p → sizes_refused n f p ≡ None
not_refused n f p h =
    rw (le-leb 2 n h.width_least, le-leb n 24 h.width_most, le-leb 6 f h.full_least, le-leb f 32 h.full_most, le-leb 1 p h.partial_least, le-leb p 128 h.partial_most)
