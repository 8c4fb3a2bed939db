use Rattle.slot_laws.proofs.UpLaws.{classes_go_up}
use Rattle.slot_laws.proofs.law.classes_go_up.Goals as goal

pub returns : goal.returns
returns c = classes_go_up
