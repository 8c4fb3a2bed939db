use Rattle.tiny_except.proofs.Holding.{slots, plan_is_there, class_there}
use Rattle.tiny_except.proofs.law.slots_are_there.Goals as goal

pub returns : goal.returns
returns c = record { slots = slots; plan = plan_is_there; class = class_there }
