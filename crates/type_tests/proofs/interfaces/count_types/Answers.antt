use Rattle.std.proofs.Common.{◌∙◌}
use Rattle.type_tests.proofs.CountLaws.{total_is}
use Rattle.type_tests.proofs.interfaces.count_types.Goals as goal

pub returns : goal.returns
returns c = c.from.ensures ∙ c.requires.setting.above.numbers.total ∙ total_is c.args.subject.now.world.now c.args.subject.now.setting.table.now c.requires.table
