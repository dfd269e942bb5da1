-- Which sizes of a permutation are admitted.
use Rattle.std.specs.Prelude.{ℕ, ◌≤◌, Bool, cond, ◌&&◌, Some, None, Option, nat_le}
use Rattle.field.specs.declared.refusal.Refusal.{Refusal}
use Rattle.field.specs.declared.refusal.Refusal.TheVariants.{Width, FullRounds, PartialRounds}

-- from least to most
abbrev pub within : ℕ → ℕ → ℕ → Bool
within least most n = nat_le least n && nat_le n most

abbrev pub width_admitted : ℕ → Bool
width_admitted n = within 2 24 n

abbrev pub full_admitted : ℕ → Bool
full_admitted f = within 6 32 f

abbrev pub partial_admitted : ℕ → Bool
partial_admitted p = within 1 128 p

abbrev pub width_refused : ℕ → Option Refusal
width_refused n = cond (width_admitted n) None (Some Width)

-- the first of width, full rounds and partial rounds that is not admitted
abbrev pub sizes_refused : ℕ → ℕ → ℕ → Option Refusal
sizes_refused n f p =
    cond (width_admitted n) (cond (full_admitted f) (cond (partial_admitted p) None (Some PartialRounds)) (Some FullRounds)) (Some Width)

-- the sizes that are admitted, as bounds
pub record Admitted (width full partial : ℕ) : Type 0 where
  pub width_least : 2 ≤ width
  pub width_most : width ≤ 24
  pub full_least : 6 ≤ full
  pub full_most : full ≤ 32
  pub partial_least : 1 ≤ partial
  pub partial_most : partial ≤ 128
