use Rattle.std.proofs.Common.{ap, ◌∙◌, arith}
use Rattle.std.specs.Prelude.{slice_get}
use Rattle.tiny_rows.specs.Rows.{rows_seen}
use Rattle.bound_answers.proofs.DataLaws.{data_there, data_past, data_none}
use Rattle.bound_answers.proofs.answers.field_bytes.Goals as goal

pub returns-then-row-field_count : goal.returns-then-row-field_count
returns-then-row-field_count c =
    let count = c.field_count.ensures in
    let test = c.if-row-field_count.true in
    data_past c.args.image.now c.args.row (omega (arith, count, test))

pub returns-in-Some : goal.returns-in-Some
returns-in-Some c =
    let i = c.args.image.now in
    let count = c.field_count.ensures in
    let test = c.if-row-field_count.false in
    data_there i c.args.row c.in-Some.field c.kept_bytes.result.now (omega (arith, count, test)) (c.in-Some.ensures ∙ ap (slice_get (rows_seen i).fields) c.from.ensures) c.kept_bytes.ensures

pub returns-in-None : goal.returns-in-None
returns-in-None c = let i = c.args.image.now in data_none i c.args.row (c.in-None.ensures ∙ ap (slice_get (rows_seen i).fields) c.from.ensures)
