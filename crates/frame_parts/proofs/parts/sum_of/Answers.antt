use Rattle.std.proofs.Common.{ap}
use Rattle.board_types.specs.declared.value.Shape.{Shape}
use Rattle.frame_parts.proofs.parts.sum_of.Goals as goal

pub returns : goal.returns
returns c = λ m f k e. ap (λ (z : Shape). z.count) (c.shape.ensures.frame m f k e)
