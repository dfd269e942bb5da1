-- The grammar of sheets: texts that are laid one behind the other, and what they say.
use Rattle.std.specs.Prelude.{◌≡◌, ℕ, ◌+◌, ◌↔◌, List, [], ◌∷◌, ◌++◌, length, ℤ, pos, Ok}
use Rattle.sheet.specs.Lines.{Written}
use Rattle.sheet.specs.Sheets.{Parameters, WellShaped, sheet_of}

abbrev pub glued : {X : Type 0} → List (List X) → List X
glued [] = []
glued (x ∷ xs) = x ++ glued xs

-- the fields say the numbers, one each
abbrev pub Say : List (List ℕ) → List ℤ → Type 0
Say [] [] = Unit {0}
Say [] (z ∷ zs) = ⊥
Say (f ∷ fs) [] = ⊥
Say (f ∷ fs) (z ∷ zs) = Written f z × Say fs zs

-- a line that says zs: a field for each, and a line feed
pub record LineSays (l : List ℕ) (zs : List ℤ) : Type 0 where
  pub fields : List (List ℕ)
  pub text : l ≡ glued fields ++ (10 ∷ [])
  pub say : Say fields zs

-- the lines say the rows, one each, and every row has k numbers
abbrev pub LinesSay : ℕ → List (List ℕ) → List (List ℤ) → Type 0
LinesSay k [] [] = Unit {0}
LinesSay k [] (r ∷ rs) = ⊥
LinesSay k (l ∷ ls) [] = ⊥
LinesSay k (l ∷ ls) (r ∷ rs) = LineSays l r × (length r ≡ k) × LinesSay k ls rs

-- bs is a sheet that says m: the line of the sizes, the line of the column, and a line for each round
pub record SheetSays (bs : List ℕ) (m : Parameters) : Type 0 where
  pub first : List ℕ
  pub second : List ℕ
  pub later : List (List ℕ)
  pub rounds : List (List ℤ)
  pub text : bs ≡ first ++ (second ++ glued later)
  pub sizes : LineSays first (pos m.width ∷ pos m.full ∷ pos m.partial ∷ [])
  pub columns : LineSays second m.column
  pub rows : LinesSay m.width later rounds
  pub count : length later ≡ m.full + m.partial
  pub elements : m.constants ≡ glued rounds
  pub shape : WellShaped m

pub record GrammarHolds : Type 0 where
  -- the accepted texts are the sheets
  pub laid : (bs : List ℕ) (m : Parameters) → (sheet_of bs ≡ Ok m) ↔ SheetSays bs m
  -- no text is two sheets
  pub once : (bs : List ℕ) (m n : Parameters) → SheetSays bs m → SheetSays bs n → m ≡ n
