use Rattle.std.proofs.Common.{◌≡◌, length, Some, Ok, sym, ap, ◌∙◌, rules}
use Rattle.std.proofs.lemmas.List.{length-map}
use Rattle.ring.specs.Rings.{integer}
use Rattle.sheet.specs.declared.error.SheetError.TheVariants.{Memory}
use Rattle.sheet.specs.Lines.{lines}
use Rattle.sheet.specs.Rows.{numbers_of}
use Rattle.sheet.specs.Sheets.{Parameters, sheet_of, with_column}
use Rattle.sheet.proofs.Exits.{stopped}
use Rattle.sheet.proofs.Shapes.{opened, shaped}
use Rattle.sheet.proofs.read_sheet.Goals as goal

pub returns-in_err-column-clause-reads : goal.returns-in_err-column-clause-reads
returns-in_err-column-clause-reads g c =
    let h = stopped g.F.Ring.ring g.F.Ring.value c.args.bytes.now c.in_ok-sizes.field-0 (Memory c.in_err-column.field-0.0) c.in_ok-sizes.ensures tt in
    search rules

pub returns-in_err-constants-clause-reads : goal.returns-in_err-constants-clause-reads
returns-in_err-constants-clause-reads g c =
    let h = stopped g.F.Ring.ring g.F.Ring.value c.args.bytes.now c.in_ok-sizes.field-0 c.in_err-constants.field-0.0 c.in_ok-sizes.ensures c.in_err-constants.ensures in
    search rules

pub returns-clause-shape : goal.returns-clause-shape
returns-clause-shape g c =
    let form = c.in_ok-sizes.field-0 in
    let s = form.sizes in
    let h = c.in_ok-sizes.ensures in
    let k = c.in_ok-constants.ensures in
    let m : Parameters = record { width = s.width; full = s.rounds_f; partial = s.rounds_p; column = numbers_of form.column; constants = k.0 } in
    let e : sheet_of c.args.bytes.now ≡ Ok m = h.says ∙ ap (with_column s.width s.rounds_f s.rounds_p (Some (numbers_of form.column))) k.1 in
    let w = shaped (lines c.args.bytes.now) m (opened (lines c.args.bytes.now) m e) in
    record {
      sizes = s.admitted;
      square = c.in_ok-column.ensures.len ∙ w.square;
      rounds = c.in_ok-constants.constants.ok.0 ∙ sym (length-map _ g.F.Ring.value) ∙ ap length k.2 ∙ length-map k.0 (integer g.F.Ring.ring) ∙ w.rounds;
    }
