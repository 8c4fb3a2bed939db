use Rattle.judged_classes.proofs.JudgedLaws.{kept}
use Rattle.judged_classes.proofs.law.judged_classes_keep.Goals as goal

pub returns : goal.returns
returns c = kept
