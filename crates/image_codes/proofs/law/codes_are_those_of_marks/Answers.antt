use Rattle.image_codes.proofs.JoinLaws.{same_codes}
use Rattle.image_codes.proofs.law.codes_are_those_of_marks.Goals as goal

pub returns : goal.returns
returns c = same_codes
