use Rattle.method_facts.proofs.Tells.{arguments_up, result_up}
use Rattle.method_facts.proofs.law.places_tell.Goals as goal

pub returns : goal.returns
returns c = record { arguments = arguments_up; result = result_up }
