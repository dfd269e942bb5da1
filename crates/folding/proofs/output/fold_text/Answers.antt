use Rattle.std.proofs.Common.{map, vec_items, ap, ◌∙◌}
use Rattle.folding.specs.Columns.{rows_of}
use Rattle.std.proofs.lemmas.Result.{IfOk-weaker}
use Rattle.folding.proofs.Outputs.{printed}
use Rattle.folding.proofs.output.fold_text.Goals as goal

pub returns-in-Ok : goal.returns-in-Ok
returns-in-Ok c =
    let f = c.in-Ok.ensures in
    let n = c.in-Ok.folded.sheet.width in
    let holds = f.0.2 in
    let same = ap (λ l. rows_of n 0 (map (λ x. x.value) l)) c.as_slice.ensures.value in
    let text = printed c.args.bytes.now n (vec_items c.in-Ok.folded.sheet.column) (vec_items c.in-Ok.folded.matrix) f.0.0 f.0.1 holds.width holds.column f.1 in
    IfOk-weaker c.rows_text.result _ _ (λ x h. h ∙ same ∙ text) c.rows_text.ensures.rows
