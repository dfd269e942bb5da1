-- What fields and lines of a sheet mean.
use Rattle.std.specs.Prelude.{◌≡◌, ℕ, zero, suc, ◌-◌, ◌<◌, Bool, true, cond, ◌&&◌, List, [], ◌∷◌, ◌++◌, map, length, take, drop, replicate, ℤ, pos, neg_ℤ, Some, None, Option, ◌==◌, nat_le}
use Rattle.std.specs.Int.Digits.{number_from_digits}

-- '0' to '9'
abbrev pub is_digit : ℕ → Bool
is_digit b = nat_le 48 b && nat_le b 57

abbrev pub all_digits : List ℕ → Bool
all_digits [] = true
all_digits (d ∷ ds) = is_digit d && all_digits ds

abbrev pub digit_value : ℕ → ℕ
digit_value b = b - 48

-- one digit or more, read in base ten
abbrev pub digits_value : List ℕ → Option ℕ
digits_value [] = None
digits_value (d ∷ ds) = cond (all_digits (d ∷ ds)) (Some (number_from_digits 10 (map digit_value (d ∷ ds)))) None

abbrev pub plain : Option ℕ → Option ℤ
plain None = None
plain (Some n) = Some (pos n)

abbrev pub negated : Option ℕ → Option ℤ
negated None = None
negated (Some n) = Some (neg_ℤ (pos n))

-- digits, or '-' and digits
abbrev pub number_value : List ℕ → Option ℤ
number_value [] = None
number_value (b ∷ bs) = cond (b == 45) (negated (digits_value bs)) (plain (digits_value (b ∷ bs)))

-- blanks, as many as there are, and a number
abbrev pub text_value : List ℕ → Option ℤ
text_value [] = None
text_value (b ∷ bs) = cond (b == 32) (text_value bs) (number_value (b ∷ bs))

-- a field: a number that ends in the last of eleven columns
abbrev pub field_value : List ℕ → Option ℤ
field_value bs = cond (length bs == 11) (text_value bs) None

abbrev pub both : Option ℤ → Option (List ℤ) → Option (List ℤ)
both None zs = None
both (Some z) None = None
both (Some z) (Some zs) = Some (z ∷ zs)

-- the line feed, and nothing after it
abbrev pub end_of_line : List ℕ → Option (List ℤ)
end_of_line [] = None
end_of_line (b ∷ bs) = cond (b == 10 && length bs == 0) (Some []) None

-- a line of k numbers: k fields, then a line feed
abbrev pub line_values : ℕ → List ℕ → Option (List ℤ)
line_values zero bs = end_of_line bs
line_values (suc k) bs = both (field_value (take 11 bs)) (line_values k (drop 11 bs))

-- The text cut after each line feed. What follows the last line feed is a line too.
abbrev pub begin : ℕ → List (List ℕ) → List (List ℕ)
begin b [] = (b ∷ []) ∷ []
begin b (l ∷ ls) = (b ∷ l) ∷ ls

abbrev pub lines : List ℕ → List (List ℕ)
lines [] = []
lines (b ∷ bs) = cond (b == 10) ((b ∷ []) ∷ lines bs) (begin b (lines bs))

-- What a field is, in one sentence: bs is a field that says z.
pub record Written (bs : List ℕ) (z : ℤ) : Type 0 where
  pub blanks : ℕ
  pub minus : Bool
  pub digits : List ℕ
  pub text : bs ≡ replicate blanks 32 ++ (cond minus (45 ∷ []) [] ++ digits)
  pub columns : length bs ≡ 11
  pub some : 0 < length digits
  pub each : all_digits digits ≡ true
  pub says : z ≡ cond minus (neg_ℤ (pos (number_from_digits 10 (map digit_value digits)))) (pos (number_from_digits 10 (map digit_value digits)))
