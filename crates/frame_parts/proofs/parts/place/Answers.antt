use Rattle.std.proofs.Common.{◌∙◌}
use Rattle.frame_parts.proofs.Behind.{place_shown}
use Rattle.frame_parts.proofs.parts.place.Goals as goal

pub returns : goal.returns
returns c = λ m f k e l. c.get.ensures.frame m f k e ∙ place_shown f c.args.index l
