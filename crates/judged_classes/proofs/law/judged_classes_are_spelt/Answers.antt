use Rattle.judged_classes.proofs.JudgedLaws.{spelt}
use Rattle.judged_classes.proofs.law.judged_classes_are_spelt.Goals as goal

pub returns : goal.returns
returns c = spelt
