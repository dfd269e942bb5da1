-- Powers and roots of four values, position by position.
use Rattle.std.proofs.Common.{◌≡◌, ℕ, zero, suc, sym, ap, ◌∙◌}
use Rattle.ring.specs.Rings.{RingOn, power}
use Rattle.ring.specs.Roots.{Root, RootOf}
use Rattle.ring.proofs.Powers.{power-zero, power-suc}
use Rattle.ring.proofs.Roots.{root_same}
use Rattle.lanes.specs.Fours.{Four, fours, by_one, by_two}

module _ (R : RingOn) where
  pub four_power : (n : ℕ) (x : Four R) → power (fours R) n x ≡ by_one R (power R n) x
  four_power zero x = power-zero (fours R) x ∙ λ i. (sym (power-zero R x.0) i, sym (power-zero R x.1) i, sym (power-zero R x.2) i, sym (power-zero R x.3) i)
  four_power (suc n) x =
      power-suc (fours R) n x
      ∙ ap (by_two R R.mul x) (four_power n x)
      ∙ λ i. (sym (power-suc R n x.0) i, sym (power-suc R n x.1) i, sym (power-suc R n x.2) i, sym (power-suc R n x.3) i)

  pub four_root : (d : ℕ) (f : R.V → R.V) → Root R d f → Root (fours R) d (by_one R f)
  four_root d f h =
      record {
        power_after = λ x. four_power d (by_one R f x) ∙ λ i. (h.power_after x.0 i, h.power_after x.1 i, h.power_after x.2 i, h.power_after x.3 i);
        root_after = λ x. ap (by_one R f) (four_power d x) ∙ λ i. (h.root_after x.0 i, h.root_after x.1 i, h.root_after x.2 i, h.root_after x.3 i);
      }

  -- roots found one by one are those of one root, since there is one at most
  pub four_root_of : (d : ℕ) (x r : Four R) → RootOf R d x.0 r.0 → RootOf R d x.1 r.1 → RootOf R d x.2 r.2 → RootOf R d x.3 r.3 → RootOf (fours R) d x r
  four_root_of d x r a b c e =
      record {
        root = by_one R a.root;
        undoes = four_root d a.root a.undoes;
        gives = λ i. (a.gives i, alike x.1 r.1 b i, alike x.2 r.2 c i, alike x.3 r.3 e i);
      }
    where
      alike : (v w : R.V) (q : RootOf R d v w) → w ≡ a.root v
      alike v w q = q.gives ∙ root_same R d q.root a.root q.undoes a.undoes v
