-- How numbers are printed.
use Rattle.std.specs.Prelude.{ℕ, ◌+◌, ◌-◌, ◌%◌, ◌^◌, ◌<◌, cond, List, [], ◌∷◌, ◌++◌, length, replicate, pos, decimal, ◌==◌}
use Rattle.sheet.specs.Lines.{Written}

-- a number, right-justified in eleven columns
abbrev pub padded : ℕ → List ℕ
padded n = replicate (11 - length (decimal n)) 32 ++ decimal n

-- the number of place k, and a line feed where it ends a row of w
abbrev pub entry_of : ℕ → ℕ → ℕ → List ℕ
entry_of w k n = padded n ++ cond ((k + 1) % w == 0) (10 ∷ []) []

-- numbers in rows of w, of which the first has place k
abbrev pub rows_of : ℕ → ℕ → List ℕ → List ℕ
rows_of w k [] = []
rows_of w k (n ∷ ns) = entry_of w k n ++ rows_of w (k + 1) ns

-- a line of two numbers
abbrev pub pair_line : ℕ → ℕ → List ℕ
pair_line m n = padded m ++ (padded n ++ 10 ∷ [])

-- by the grammar of sheets, what is printed of a number says that number
abbrev pub ColumnsRead : Type 0
ColumnsRead = (n : ℕ) → n < 10 ^ 11 → Written (padded n) (pos n)
