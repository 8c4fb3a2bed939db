use Rattle.std.proofs.Common.{◌==◌, ap, ◌∙◌, arith}
use Rattle.std.specs.Int.{w32, cast_unsigned}
use Rattle.tiny_except.specs.Unwinding.{number_in}
use Rattle.tiny_except.proofs.Tops.{initialiser_bits}
use Rattle.frame_parts.proofs.parts.is_initialiser.Goals as goal

pub returns : goal.returns
returns c = λ m f k e.
    ap (λ n. n == 1) (c.bits_of.ensures ∙ ap (λ v. cast_unsigned w32 (number_in v)) (c.held.ensures m f k e (omega arith))) ∙ initialiser_bits f
