use Rattle.class_rules.proofs.BaseLaws.{base_is_tested}
use Rattle.class_rules.proofs.law.base_is_tested.Goals as goal

pub returns : goal.returns
returns c = base_is_tested
