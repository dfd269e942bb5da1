-- What a sheet says, or why it is refused, line by line.
use Rattle.std.specs.Prelude.{◌≡◌, ℕ, zero, suc, ◌+◌, ◌*◌, List, [], ◌∷◌, ◌++◌, length, drop, ℤ, pos, negsuc, Some, None, Ok, Err, Option, Result, slice_index_or}
use Rattle.field.specs.declared.refusal.Refusal.{Refusal}
use Rattle.field.specs.declared.refusal.Refusal.TheVariants.{Line}
use Rattle.field.specs.Sizes.{sizes_refused, Admitted}
use Rattle.sheet.specs.Lines.{line_values, lines}

-- the whole numbers that a sheet says; the constants are those of all rounds, one round after another
pub record Parameters : Type 0 where
  pub width : ℕ
  pub full : ℕ
  pub partial : ℕ
  pub column : List ℤ
  pub constants : List ℤ

-- a size; a negative one counts as 0, which no size may be
abbrev pub natural : ℤ → ℕ
natural (pos n) = n
natural (negsuc n) = 0

abbrev pub size_at : List ℤ → ℕ → ℕ
size_at zs i = natural (slice_index_or zs i (pos 0))

-- the first of the three sizes of line 1 that is not admitted
abbrev pub size_refused : List ℤ → Option Refusal
size_refused zs = sizes_refused (size_at zs 0) (size_at zs 1) (size_at zs 2)

abbrev pub ahead : List ℤ → Result (List ℤ) Refusal → Result (List ℤ) Refusal
ahead zs (Ok ws) = Ok (zs ++ ws)
ahead zs (Err q) = Err q

-- what line i holds, and then what the later lines do
abbrev pub and_then : ℕ → Option (List ℤ) → Result (List ℤ) Refusal → Result (List ℤ) Refusal
and_then i None later = Err (Line i)
and_then i (Some zs) later = ahead zs later

-- the first of the lines ls, if it is there and has k numbers
abbrev pub line_of : ℕ → List (List ℕ) → Option (List ℤ)
line_of k [] = None
line_of k (l ∷ ls) = line_values k l

-- m lines of k numbers and no more, of which the first has the number i
abbrev pub rows : ℕ → ℕ → ℕ → List (List ℕ) → Result (List ℤ) Refusal
rows k zero i [] = Ok []
rows k zero i (l ∷ ls) = Err (Line i)
rows k (suc m) i ls = and_then i (line_of k ls) (rows k m (i + 1) (drop 1 ls))

-- at the sizes n, f and p: line 2, and then the constants
abbrev pub with_column : ℕ → ℕ → ℕ → Option (List ℤ) → Result (List ℤ) Refusal → Result Parameters Refusal
with_column n f p None later = Err (Line 2)
with_column n f p (Some zs) (Ok ws) = Ok (record { width = n; full = f; partial = p; column = zs; constants = ws })
with_column n f p (Some zs) (Err q) = Err q

abbrev pub sized : Option Refusal → Result Parameters Refusal → Result Parameters Refusal
sized None later = later
sized (Some q) later = Err q

-- line 1, the sizes, and then what the later lines are at these sizes
abbrev pub headed : Option (List ℤ) → (ℕ → ℕ → ℕ → Result Parameters Refusal) → Result Parameters Refusal
headed None later = Err (Line 1)
headed (Some zs) later = sized (size_refused zs) (later (size_at zs 0) (size_at zs 1) (size_at zs 2))

abbrev pub of_lines : List (List ℕ) → Result Parameters Refusal
of_lines ls = headed (line_of 3 ls) (λ n f p. with_column n f p (line_of n (drop 1 ls)) (rows n (f + p) 3 (drop 2 ls)))

-- what the bytes bs say, or why they are refused
abbrev pub sheet_of : List ℕ → Result Parameters Refusal
sheet_of bs = of_lines (lines bs)

-- what holds of the sizes of every sheet: the column has columns numbers, and there are elements constants
pub record Shaped (width full partial columns elements : ℕ) : Type 0 where
  pub sizes : Admitted width full partial
  pub square : columns ≡ width
  pub rounds : elements ≡ (full + partial) * width

abbrev pub WellShaped : Parameters → Type 0
WellShaped m = Shaped m.width m.full m.partial (length m.column) (length m.constants)
