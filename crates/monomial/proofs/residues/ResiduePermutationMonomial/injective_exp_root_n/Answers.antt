use Rattle.std.proofs.Common.{◌≡◌, ℕ, ◌∙◌, ap, rules}
use Prim.Native.Nat.{Fin}
use Rattle.ring.specs.Rings.{power}
use Rattle.ring.specs.Residues.{residues}
use Rattle.ring.proofs.Fermat.{power_root}
use Rattle.monomial.proofs.residues.ResiduePermutationMonomial.injective_exp_root_n.Goals as goal

pub returns : goal.returns
returns g c =
    let b = g.bound-1 in
    let R = residues g.row.P g.bound-2.big in
    let x : Fin g.row.P = (c.args.self.value, c.args.self.reduced) in
    let exponent : c.from.result ≡ b.ROOT_EXPONENT = search rules in
    record {
      root = power R b.ROOT_EXPONENT;
      undoes = power_root g.row.P g.bound-2.big b.prime b.POWER_EXPONENT b.ROOT_EXPONENT b.turns b.undone;
      gives = c.exp_u64.ensures ∙ ap (λ (n : ℕ). power R n x) exponent;
    }
