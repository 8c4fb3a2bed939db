use Rattle.bound_answers.proofs.ProgramLaws.{named}
use Rattle.bound_answers.proofs.law.sets_tell_names.Goals as goal

pub returns : goal.returns
returns c = named
