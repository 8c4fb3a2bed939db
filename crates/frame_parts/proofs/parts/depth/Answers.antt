use Rattle.std.proofs.Common.{ap, ◌∙◌, arith}
use Rattle.std.specs.Int.{w32, cast_unsigned}
use Rattle.tiny_except.specs.Unwinding.{number_in}
use Rattle.frame_parts.proofs.Behind.{depth_shown}
use Rattle.frame_parts.proofs.parts.depth.Goals as goal

pub returns : goal.returns
returns c = λ m f k e.
    c.bits_of.ensures ∙ ap (λ v. cast_unsigned w32 (number_in v)) (c.held.ensures m f k e (omega arith)) ∙ depth_shown f
