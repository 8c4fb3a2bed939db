use Rattle.class_rules.proofs.Slots.{target_found}
use Rattle.class_rules.proofs.DispatchLaws.{dispatches}
use Rattle.class_rules.proofs.law.virtual_calls_find_bodies.Goals as goal

pub returns : goal.returns
returns c = record { target = target_found; dispatches = dispatches }
