use Rattle.std.proofs.Common.{◌≡◌, suc, ◌+◌, ◌-◌, [], ◌∷◌, ◌++◌, length, take, set, ap, ◌∙◌, arith, length-set, w64, SFits, to_z, of_z, rules}
use Rattle.std.proofs.lemmas.List.{take_more_set}
use Rattle.std.proofs.lemmas.Int.{to_z-of_z}
use Rattle.sheet.specs.Lines.{text_value}
use Rattle.sheet.specs.Places.{line_at}
use Rattle.sheet.proofs.Lines.{after_all, line_some, line_steps}
use Rattle.sheet.proofs.line.read_line.Goals as goal

pub loop-n-preserved : goal.loop-n-preserved
loop-n-preserved c =
    let ns = c.loop-n.numbers in
    let i = c.loop-n.n-index in
    let z = c.in_ok-n.field-0 in
    let fits : SFits w64 z = search rules in
    let z' = to_z w64 (of_z w64 z) in
    let read : take (i + 1) (set ns i z') ≡ take i ns ++ (z ∷ []) = take_more_set ns i z' (omega arith) ∙ ap (λ w. take i ns ++ (w ∷ [])) (to_z-of_z w64 z fits) in
    let m = length (set ns i z') - (i + 1) in
    let l = length-set ns i z' in
    let n : length ns - i ≡ suc m = omega arith in
    let k = c.in_ok-field.ensures.cases in (
      (λ t. after_all (read t) (line_at m (k.1 t))) ∙ line_some m (length ns - i) c.loop-n.rest.now (take i ns) z n (omega (arith, k.2)) (c.in_ok-n.ensures ∙ ap text_value k.0) ∙ c.loop-n.invariant.0,
      grind (arith, line_steps),
    )
