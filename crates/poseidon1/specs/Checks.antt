-- When a call is refused, check by check in their order.
use Rattle.std.specs.Prelude.{ℕ, ◌*◌, cond, Some, None, Option, ◌==◌}
use Rattle.field.specs.Sizes.{width_admitted}
use Rattle.field.specs.declared.refusal.Refusal.{Refusal}
use Rattle.field.specs.declared.refusal.Refusal.TheVariants.{Width, TablesLength}

-- the expansion of a column of n into a buffer of m elements
abbrev pub expansion_refused : ℕ → ℕ → Option Refusal
expansion_refused n m = cond (width_admitted n) (cond (m == n * n) None (Some TablesLength)) (Some Width)
