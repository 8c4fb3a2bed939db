use Rattle.std.proofs.Common.{◌∙◌}
use Rattle.slot_tests.proofs.PhaseLaws.{count_is}
use Rattle.slot_tests.proofs.added.count_types.Goals as goal

pub returns : goal.returns
returns c = c.rows.ensures ∙ count_is c.args.subject.now.world.now c.args.file c.tables-tables.result.now c.tables-tables.ensures
