use Rattle.std.proofs.Common.{◌∙◌}
use Rattle.set_table.proofs.SubjectLaws.{class_is}
use Rattle.set_table.proofs.subject.find_named.Goals as goal

pub returns : goal.returns
returns c = c.class_of.ensures ∙ class_is c.args.subject.now c.requires c.args.token.0
