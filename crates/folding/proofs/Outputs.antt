-- What is printed of a sheet's matrix.
use Rattle.std.proofs.Common.{◌≡◌, ℕ, ◌*◌, ◌/◌, ◌%◌, List, map, ℤ, Ok, sym, ap, ◌∙◌}
use mathlib.Core.List.{map-map}
use Prim.Native.Nat.{Fin}
use Rattle.ring.specs.Residues.{Z17}
use Rattle.field.specs.declared.residue.Residue.{Residue}
use Rattle.linear.specs.Linear.{circulant, grid}
use Rattle.linear.proofs.Tabs.{map-tab}
use Rattle.sheet.specs.Sheets.{Parameters, sheet_of}
use Rattle.folding.specs.Columns.{rows_of}
use Rattle.folding.specs.Output.{output_of}

-- the value that an element means, and the residue that it is
abbrev value : Residue 17 → Fin 17
value x = (x.value, x.reduced)

abbrev residue : Fin 17 → ℕ
residue w = w.0

pub printed : (bs : List ℕ) (n : ℕ) (column : List ℤ) (xs : List (Residue 17)) (m : Parameters) → sheet_of bs ≡ Ok m → n ≡ m.width → column ≡ m.column → map value xs ≡ grid n n (circulant Z17 column) → rows_of n 0 (map (λ x. x.value) xs) ≡ output_of (sheet_of bs)
printed bs n column xs m e wide same matrix =
    ap (rows_of n 0) (sym (map-map residue value xs) ∙ ap (map residue) matrix ∙ map-tab residue (n * n) (λ k. circulant Z17 column (k / n) (k % n)))
    ∙ (λ t. rows_of (wide t) 0 (grid (wide t) (wide t) (λ i j. (circulant Z17 (same t) i j).0))) ∙ ap output_of (sym e)
