use Rattle.std.proofs.Common.{arith}
use Rattle.class_names.proofs.TextLaws.{spaced_length}
use Rattle.class_names.proofs.own.count_row.Goals as goal

pub returns-else-is_empty : goal.returns-else-is_empty
returns-else-is_empty c =
    let row = c.args.row.now in
    let whole = spaced_length row.namespace.now row.name.now c.is_empty.result c.is_empty.ensures c.if-is_empty.false in
    let space = c.count_units-else-is_empty.ensures.count in
    let name = c.count_units-else-is_empty-2.ensures.count in
    omega (arith, whole, space, name)
