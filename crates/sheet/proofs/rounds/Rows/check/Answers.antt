use Rattle.std.proofs.Common.{◌++◌}
use Rattle.sheet.specs.Rows.{numbers_of}
use Rattle.sheet.proofs.Rows.{row_more}
use Rattle.sheet.proofs.rounds.Rows.check.Goals as goal

pub loop-row-preserved : goal.loop-row-preserved
loop-row-preserved c =
    let zs = c.loop-row.invariant.0 in
    (zs ++ numbers_of c.in_ok-row.field-0, row_more zs _ _ c.in_ok-row.was c.in-Some.ensures.steps c.loop-row.invariant.1)
