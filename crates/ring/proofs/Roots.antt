-- There is one root at most.
use Rattle.std.proofs.Common.{◌≡◌, ℕ, sym, ap, ◌∙◌}
use Rattle.ring.specs.Rings.{RingOn}
use Rattle.ring.specs.Roots.{Root}

pub root_same : (R : RingOn) (d : ℕ) (f g : R.V → R.V) → Root R d f → Root R d g → (v : R.V) → f v ≡ g v
root_same R d f g p q v = ap f (sym (q.power_after v)) ∙ p.root_after (g v)
