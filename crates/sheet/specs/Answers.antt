-- What the reader of a sheet answers.
use Rattle.std.specs.Prelude.{◌≡◌, ℕ, List, map, Ok, Err, vec_items, Result}
use Rattle.ring.specs.Rings.{RingOn, integer}
use Rattle.sheet.specs.declared.error.SheetError.{SheetError}
use Rattle.sheet.specs.declared.error.SheetError.TheVariants.{Refused, Memory}
use Rattle.sheet.specs.declared.Sheet.{Sheet}
use Rattle.sheet.specs.Sheets.{Parameters, sheet_of}

-- the sheet in memory holds m, its constants as elements of the ring
pub record Holds {F : Type 0} (R : RingOn) (value : F → R.V) (s : Sheet F) (m : Parameters) : Type 0 where
  pub width : s.width ≡ m.width
  pub full : s.rounds_f ≡ m.full
  pub partial : s.rounds_p ≡ m.partial
  pub column : vec_items s.column ≡ m.column
  pub constants : map value (vec_items s.constants) ≡ map (integer R) m.constants

-- the answer is the sheet that the bytes bs are, or their refusal; memory is wanting for sheets alone
abbrev pub Reads : {F : Type 0} (R : RingOn) → (F → R.V) → List ℕ → Result (Sheet F) SheetError → Type 0
Reads R value bs (Ok s) = (m : Parameters) × (sheet_of bs ≡ Ok m) × Holds R value s m
Reads R value bs (Err (Refused q)) = sheet_of bs ≡ Err q
Reads R value bs (Err (Memory a)) = (m : Parameters) × (sheet_of bs ≡ Ok m)
