use Rattle.judged_classes.proofs.JudgedLaws.{tabled}
use Rattle.judged_classes.proofs.law.judged_classes_are_tabled.Goals as goal

pub returns : goal.returns
returns c = tabled
