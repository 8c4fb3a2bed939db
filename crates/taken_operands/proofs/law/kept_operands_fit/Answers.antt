use Rattle.taken_operands.proofs.KeptLaws.{kept_fit}
use Rattle.taken_operands.proofs.law.kept_operands_fit.Goals as goal

pub returns : goal.returns
returns c = kept_fit
