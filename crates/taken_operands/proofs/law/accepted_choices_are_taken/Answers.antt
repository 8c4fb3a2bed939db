use Rattle.taken_operands.proofs.TakenLaws.{choice_taken}
use Rattle.taken_operands.proofs.law.accepted_choices_are_taken.Goals as goal

pub returns : goal.returns
returns c = choice_taken
