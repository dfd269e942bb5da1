use Rattle.std.proofs.Common.{◌≡◌, ◌+◌, ◌*◌, drop, Some, None, ap, ◌∙◌, rules}
use Rattle.sheet.specs.Places.{line_at}
use Rattle.sheet.specs.Rows.{numbers_of, rows_say}
use Rattle.sheet.specs.Sheets.{sheet_of, with_column}
use Rattle.sheet.proofs.Cuts.{later}
use Rattle.sheet.proofs.Exits.{at_first, at_size, at_body, at_column, at_rounds}
use Rattle.sheet.proofs.form.check_form.Goals as goal
use Rattle.sheet.proofs.form.check_form.Goals.{In_ok-sizes, After-new-rounds}

pub returns-in_err-body : goal.returns-in_err-body
returns-in_err-body c = search (rules, at_first)

pub returns-in_err-sizes : goal.returns-in_err-sizes
returns-in_err-sizes c =
    let k : line_at 3 c.args.bytes.now ≡ Some c.read_line.new.numbers = search rules in
    let e = at_size c.args.bytes.now c.read_line.new.numbers _ k c.in_err-sizes.ensures in
    search rules

-- past the sizes
sized : (c : In_ok-sizes) → sheet_of c.args.bytes.now ≡ later c.in_ok-body.body.now c.in_ok-sizes.sizes.width c.in_ok-sizes.sizes.rounds_f c.in_ok-sizes.sizes.rounds_p
sized c =
    let k : (line_at 3 c.args.bytes.now ≡ Some c.read_line.new.numbers) × (c.in_ok-body.body.now ≡ drop 34 c.args.bytes.now) = search rules in
    let s = c.in_ok-sizes.ensures in
    at_body c.args.bytes.now c.read_line.new.numbers _ _ _ c.in_ok-body.body.now k.0 s.passed s.width s.full s.partial k.1

pub returns-in_err-column : goal.returns-in_err-column
returns-in_err-column c =
    let s = c.in_ok-sizes.sizes in
    let none : line_at s.width c.in_ok-body.body.now ≡ None = search rules in
    let e = sized (goal.at.returns-in_err-column c).In_ok-sizes ∙ at_column c.in_ok-body.body.now s.width s.rounds_f s.rounds_p none in
    search rules

-- past the column
columned : (c : After-new-rounds) → sheet_of c.args.bytes.now ≡ later c.in_ok-body.body.now c.in_ok-sizes.sizes.width c.in_ok-sizes.sizes.rounds_f c.in_ok-sizes.sizes.rounds_p → sheet_of c.args.bytes.now ≡ with_column c.in_ok-sizes.sizes.width c.in_ok-sizes.sizes.rounds_f c.in_ok-sizes.sizes.rounds_p (Some (numbers_of c.in_ok-column.column)) (rows_say c.new-rounds.result)
columned c e =
    let s = c.in_ok-sizes.sizes in
    let body = c.in_ok-body.body.now in
    let k : (line_at s.width body ≡ Some (numbers_of c.in_ok-column.column)) × (c.in_ok-column.lines.now ≡ drop (11 * s.width + 1) body) = search rules in
    rw c.new-rounds.ensures (e ∙ at_rounds body c.in_ok-column.lines.now s.width s.rounds_f s.rounds_p (numbers_of c.in_ok-column.column) k.0 k.1)

pub returns-in_err-check : goal.returns-in_err-check
returns-in_err-check c =
    let s = c.in_ok-sizes.sizes in
    let e = columned (goal.at.returns-in_err-check c).After-new-rounds (sized (goal.at.returns-in_err-check c).In_ok-sizes) ∙ ap (with_column s.width s.rounds_f s.rounds_p (Some (numbers_of c.in_ok-column.column))) c.in_err-check.ensures in
    search rules

pub returns : goal.returns
returns c = record { says = columned (goal.at.returns c).After-new-rounds (sized (goal.at.returns c).In_ok-sizes); accepted = c.in_ok-check.ensures }
