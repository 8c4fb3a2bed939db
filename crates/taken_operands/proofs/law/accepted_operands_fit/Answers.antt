use Rattle.taken_operands.proofs.AcceptedLaws.{accepted_fit}
use Rattle.taken_operands.proofs.law.accepted_operands_fit.Goals as goal

pub returns : goal.returns
returns c = accepted_fit
