use Rattle.std.proofs.Common.{◌<◌, ◌≤◌, length, ap, ◌∙◌, arith}
use Rattle.std.specs.Option.{option_map}
use Rattle.member_keys.specs.Seen.{class_seen}
use Rattle.tiny_rows.specs.Rows.{rows_seen}
use Rattle.set_names.specs.Names.{seen_all}
use Rattle.bound_answers.proofs.SetLaws.{own_there, own_past, own_missing}
use Rattle.bound_answers.proofs.clauses.own_type.Goals as goal

pub returns-in_err-image : goal.returns-in_err-image
returns-in_err-image c = ap (option_map class_seen) c.from_residual.ensures ∙ own_missing (seen_all c.args.set.now) c.args.file c.args.row c.in_err-image.ensures

pub returns-then-row-type_count : goal.returns-then-row-type_count
returns-then-row-type_count c =
    let p = rows_seen c.in_ok-image.image.now in
    let count = c.type_count.ensures in
    let test = c.if-row-type_count.true in
    let low : c.args.row < length p.types = omega (arith, count, test) in
    own_there (seen_all c.args.set.now) c.args.file c.args.row c.from.result c.from-then-row-type_count.result p c.in_ok-image.ensures low c.from.ensures c.from-then-row-type_count.ensures

pub returns-else-row-type_count : goal.returns-else-row-type_count
returns-else-row-type_count c =
    let p = rows_seen c.in_ok-image.image.now in
    let count = c.type_count.ensures in
    let test = c.if-row-type_count.false in
    let high : length p.types ≤ c.args.row = omega (arith, count, test) in
    own_past (seen_all c.args.set.now) c.args.file c.args.row p c.in_ok-image.ensures high
