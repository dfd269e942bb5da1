-- Vectors as lists, matrices as functions of row and column, over a commutative ring.
use Rattle.std.specs.Prelude.{ℕ, zero, suc, ◌+◌, ◌-◌, ◌*◌, ◌/◌, ◌%◌, List, [], ◌∷◌, length, ℤ, pos, slice_index_or}
use Rattle.ring.specs.Rings.{RingOn, integer}

-- the list of the first n values of a function
unfoldable pub tab : {A : Type 0} → ℕ → (ℕ → A) → List A
tab zero f = []
tab (suc n) f = f zero ∷ tab n (λ i. f (suc i))

-- r rows of n, one after another
abbrev pub grid : {A : Type 0} → ℕ → ℕ → (ℕ → ℕ → A) → List A
grid r n f = tab (r * n) (λ k. f (k / n) (k % n))

module _ (R : RingOn) where
  open R use {V}

  -- a matrix by row and column
  abbrev pub Matrix : Type 0
  Matrix = ℕ → ℕ → V

  -- the matrix whose column 0 is given, each later column the one before it, moved down by one place and around
  abbrev pub circulant : List ℤ → Matrix
  circulant column i j = integer R (slice_index_or column ((length column + i - j) % length column) (pos 0))
