use Rattle.std.proofs.Common.{◌∙◌}
use Rattle.code_order.proofs.PhaseLaws.{count_is}
use Rattle.code_order.proofs.order.count_methods.Goals as goal

pub returns : goal.returns
returns c = c.rows.ensures ∙ count_is c.args.subject.now.world.now c.args.file c.tables-tables.result.now c.tables-tables.ensures
