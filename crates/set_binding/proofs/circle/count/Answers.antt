use Rattle.std.proofs.Common.{◌∙◌}
use Rattle.set_binding.proofs.LackingLaws.{types_there, types_missing}
use Rattle.set_binding.proofs.circle.count.Goals as goal

pub returns-in-Some : goal.returns-in-Some
returns-in-Some c = c.from.ensures ∙ c.type_count.ensures ∙ types_there c.args.names.now c.args.file c.in-Some.image.now c.in-Some.ensures

pub returns-in-None : goal.returns-in-None
returns-in-None c = types_missing c.args.names.now c.args.file c.in-None.ensures
