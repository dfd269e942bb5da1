use Rattle.std.proofs.Common.{◌++◌, map, sym, ap, ◌∙◌}
use Rattle.std.proofs.lemmas.List.{map-append}
use Rattle.ring.specs.Rings.{integer}
use Rattle.sheet.specs.Rows.{numbers_of}
use Rattle.sheet.proofs.Rows.{row_more}
use Rattle.sheet.proofs.rounds.Rows.read.Goals as goal

pub loop-row-preserved : goal.loop-row-preserved
loop-row-preserved g c =
    let w = c.loop-row.invariant.2 in
    let row = numbers_of c.in-Ok.row in
    let elements = map (integer g.F.Ring.ring) in (
      tt,
      tt,
      (
        w.0 ++ row,
        row_more w.0 _ _ c.in-Ok.is c.in-Some.ensures.steps w.1,
        c.in_ok-append-in-Ok.ensures ∙ ap (λ l. l ++ elements c.as_slice.result.now) w.2 ∙ ap (λ l. elements w.0 ++ elements l) c.as_slice.ensures ∙ sym (map-append (integer g.F.Ring.ring) w.0 row),
      ),
    )
