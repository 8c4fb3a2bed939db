use Rattle.set_found.proofs.SeenLaws.{image_seen}
use Rattle.set_found.proofs.law.images_are_seen.Goals as goal

pub returns : goal.returns
returns c = image_seen
