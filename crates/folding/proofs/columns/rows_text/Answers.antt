use Rattle.std.proofs.Common.{◌≡◌, ◌+◌, ◌%◌, cond, [], ◌∷◌, ◌++◌, string_bytes, ap, ◌∙◌, append_assoc, arith, rules}
use Rattle.std.specs.Prelude.{◌==◌}
use Rattle.folding.specs.Columns.{entry_of, padded}
use Rattle.folding.proofs.Pads.{written, rows_more}
use Rattle.folding.proofs.columns.rows_text.Goals as goal
use Rattle.folding.proofs.columns.rows_text.Goals.{then-is_multiple_of+in_ok-push, else-is_multiple_of}

pub loop-k-preserved : goal.loop-k-preserved
loop-k-preserved g c =
    let k = c.loop-k.k in
    let x = c.index-elements-k.result in
    let n = c.as_canonical_u32.result in
    let ends : string_bytes c.if-is_multiple_of.text ≡ string_bytes c.write.new.self ++ cond ((k + 1) % c.args.width == 0) (10 ∷ []) [] =
    elim c.if-is_multiple_of.branch [ then-is_multiple_of+in_ok-push w ↦ search rules | else-is_multiple_of w ↦ search rules ] in
    let wrote : string_bytes c.write.new.self ≡ string_bytes c.loop-k.text ++ padded n = rw (c.laid_out.ensures, written) at c.in_ok-write.ensures.bytes in
    ends ∙ ap (λ l. l ++ cond ((k + 1) % c.args.width == 0) (10 ∷ []) []) wrote ∙ append_assoc (string_bytes c.loop-k.text) (padded n) _
    ∙ ap (λ l. l ++ entry_of c.args.width k n) c.loop-k.invariant
    ∙ rows_more (λ x. x.value) c.args.width k c.args.elements.now x n (omega arith) c.index-elements-k.is c.as_canonical_u32.ensures.value
