use Rattle.bound_answers.proofs.FoundLaws.{found_stand}
use Rattle.bound_answers.proofs.law.found_sets_are_images.Goals as goal

pub returns : goal.returns
returns c = found_stand
