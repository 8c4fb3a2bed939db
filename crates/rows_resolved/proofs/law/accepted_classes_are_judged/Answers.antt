use Rattle.rows_resolved.proofs.Classes.{judged}
use Rattle.rows_resolved.proofs.law.accepted_classes_are_judged.Goals as goal

pub returns : goal.returns
returns c = judged
