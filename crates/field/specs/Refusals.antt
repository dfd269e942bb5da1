-- The number and the place of each refusal, and how it is printed.
use Rattle.std.specs.Prelude.{ℕ, List, ◌++◌, codes, decimal}
use Rattle.field.specs.declared.refusal.Refusal.{Refusal}
use Rattle.field.specs.declared.refusal.Refusal.TheVariants.{Width, FullRounds, PartialRounds, MatrixLength, ConstantsLength, TablesLength, WorkLength, SpareLength, SingularMatrix, SingularBlock, StateLength, EngineWidth, Line}

abbrev pub number_of : Refusal → ℕ
number_of Width = 1
number_of FullRounds = 2
number_of PartialRounds = 3
number_of MatrixLength = 4
number_of ConstantsLength = 4
number_of TablesLength = 5
number_of WorkLength = 5
number_of SpareLength = 5
number_of (SingularMatrix column) = 6
number_of (SingularBlock row) = 7
number_of StateLength = 8
number_of EngineWidth = 9
number_of (Line line) = 10

abbrev pub place_of : Refusal → ℕ
place_of Width = 0
place_of FullRounds = 0
place_of PartialRounds = 0
place_of MatrixLength = 0
place_of ConstantsLength = 1
place_of TablesLength = 0
place_of WorkLength = 1
place_of SpareLength = 2
place_of (SingularMatrix column) = column
place_of (SingularBlock row) = row
place_of StateLength = 0
place_of EngineWidth = 0
place_of (Line line) = line

-- what is printed of a refusal, as `refusal 10 at 3`
abbrev pub message_of : Refusal → List ℕ
message_of q = codes "refusal " ++ (decimal (number_of q) ++ (codes " at " ++ decimal (place_of q)))
