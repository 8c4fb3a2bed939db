use Rattle.converted.specs.Choosing.{choice_of}
use Rattle.image_codes.proofs.JoinLaws.{kept_long}
use Rattle.image_codes.proofs.law.lengths_are_those_of_codes.Goals as goal

pub returns : goal.returns
returns c files marks f x token accepted at has = kept_long files accepted f x at has token (choice_of files marks f).methods
