use Rattle.taken_operands.proofs.TakenLaws.{taken}
use Rattle.taken_operands.proofs.law.kept_operands_are_taken.Goals as goal

pub returns : goal.returns
returns c = taken
