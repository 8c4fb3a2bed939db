use Rattle.judged_classes.proofs.JudgedLaws.{read}
use Rattle.judged_classes.proofs.law.judged_classes_are_read.Goals as goal

pub returns : goal.returns
returns c = read
