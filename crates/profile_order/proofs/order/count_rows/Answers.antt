use Rattle.std.proofs.Common.{ap, ◌∙◌}
use Rattle.file_tables.specs.Metadata.{row_count}
use Rattle.profile_order.proofs.OrderLaws.{count_is}
use Rattle.profile_order.proofs.order.count_rows.Goals as goal

pub returns : goal.returns
returns c =
    c.rows.ensures
    ∙ (ap (row_count c.tables.result.now) c.number.ensures
    ∙ count_is c.args.judge.now.subject.now.world.now c.args.file c.args.table c.tables.result.now c.tables.ensures)
