-- Finite sums, and sums of products over equal positions.
use Rattle.std.specs.Prelude.{ℕ, zero, suc, List, [], ◌∷◌}
use Rattle.ring.specs.Rings.{RingOn}

module _ (R : RingOn) where
  open R use {V, nil, add, mul}

  -- f 0 + .. + f (n − 1)
  unfoldable pub sum : ℕ → (ℕ → V) → V
  sum zero f = nil
  sum (suc n) f = add (f zero) (sum n (λ i. f (suc i)))

  -- over the positions that both lists have
  unfoldable pub dot : List V → List V → V
  dot [] ys = nil
  dot (x ∷ xs) [] = nil
  dot (x ∷ xs) (y ∷ ys) = add (mul x y) (dot xs ys)
