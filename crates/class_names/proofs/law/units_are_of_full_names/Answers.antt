use Rattle.class_names.proofs.FullLaws.{full_is}
use Rattle.class_names.proofs.law.units_are_of_full_names.Goals as goal

pub returns : goal.returns
returns c = full_is
