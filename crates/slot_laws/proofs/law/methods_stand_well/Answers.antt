use Rattle.slot_laws.proofs.StandLaws.{methods_stand_well}
use Rattle.slot_laws.proofs.law.methods_stand_well.Goals as goal

pub returns : goal.returns
returns c = methods_stand_well
