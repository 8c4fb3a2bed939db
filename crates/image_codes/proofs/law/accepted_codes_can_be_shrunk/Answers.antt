use Rattle.image_codes.proofs.JoinLaws.{all_can_shrink}
use Rattle.image_codes.proofs.law.accepted_codes_can_be_shrunk.Goals as goal

pub returns : goal.returns
returns c files f x kept accepted at has = all_can_shrink files accepted f x at has kept
