use Rattle.std.proofs.Common.{[], ◌∷◌, ap, ◌∙◌}
use Prim.Native.Nat.{Fin}
use Rattle.worked.proofs.Values.{worked_values_lem}
use Rattle.worked.proofs.worked_values.Goals as goal

pub returns : goal.returns
returns c =
    let a = c.as_canonical_u32.ensures.value ∙ ap (λ (w : Fin 17). w.0) (c.from_i64.ensures ∙ worked_values_lem.from_minus_one) in
    let b = c.as_canonical_u32-2.ensures.value ∙ ap (λ (w : Fin 17). w.0) (c.from_i64-2.ensures ∙ worked_values_lem.from_minus_seventeen) in
    let d = c.as_canonical_u32-3.ensures.value ∙ ap (λ (w : Fin 17). w.0) (c.from_i64-3.ensures ∙ worked_values_lem.from_least) in
    record { defined = worked_values_lem; answered = λ i. a i ∷ b i ∷ d i ∷ [] }
