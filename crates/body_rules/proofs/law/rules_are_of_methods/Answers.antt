use Rattle.body_rules.proofs.MethodLaws.{methods_are}
use Rattle.body_rules.proofs.law.rules_are_of_methods.Goals as goal

pub returns : goal.returns
returns c = methods_are
