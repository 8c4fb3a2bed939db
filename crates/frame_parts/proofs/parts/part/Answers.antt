use Rattle.std.proofs.Common.{◌%◌, ◌+◌, ap, ◌∙◌}
use Rattle.std.specs.Prelude.{sum}
use Rattle.tiny_except.proofs.Walks.{small}
use Rattle.tiny_except.proofs.Tops.{one_wrap}
use Rattle.frame_parts.proofs.parts.part.Goals as goal

pub returns-clause-index : goal.returns-clause-index
returns-clause-index c = λ m f k e n.
    ap (λ z. (z + c.args.n) % 4294967296) (c.sum_of.ensures m f k e) ∙ one_wrap (sum f.sizes) c.args.n (small c.args.ram.now m c.args.frame f k e) n
