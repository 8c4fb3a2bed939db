use Rattle.bound_answers.proofs.TellLaws.{tells}
use Rattle.bound_answers.proofs.law.sets_tell_of_programs.Goals as goal

pub returns : goal.returns
returns c = tells
