-- What is known of sizes and of a sheet that have been checked: for the contracts of private functions.
use Rattle.std.specs.Prelude.{◌≡◌, ℕ, true, List, ℤ, is_ok, Some, None}
use Rattle.sheet.specs.declared.sizes.Sizes.{Sizes}
use Rattle.sheet.specs.declared.form.Form.{Form}
use Rattle.sheet.specs.Rows.{numbers_of, rows_say}
use Rattle.sheet.specs.Sheets.{size_at, size_refused, sheet_of, with_column}

-- the sizes that the numbers zs of line 1 say
pub record SizesOf (zs : List ℤ) (s : Sizes) : Type 0 where
  pub passed : size_refused zs ≡ None
  pub width : s.width ≡ size_at zs 0
  pub full : s.rounds_f ≡ size_at zs 1
  pub partial : s.rounds_p ≡ size_at zs 2

-- the sheet bs passed all checks of its form, and f holds its sizes, its column and the lines of its rounds
pub record Checked (bs : List ℕ) (f : Form) : Type 0 where
  pub says : sheet_of bs ≡ with_column f.sizes.width f.sizes.rounds_f f.sizes.rounds_p (Some (numbers_of f.column)) (rows_say f.rounds)
  pub accepted : is_ok (rows_say f.rounds) ≡ true
