use Rattle.bound_answers.proofs.ProgramLaws.{kept}
use Rattle.bound_answers.proofs.law.sets_tell_bytes.Goals as goal

pub returns : goal.returns
returns c = kept
