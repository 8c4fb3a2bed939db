use Rattle.std.proofs.Common.{◌≡◌, ◌+◌, ◌%◌, ap, ◌∙◌}
use Rattle.std.specs.Prelude.{sum}
use Rattle.plain_types.specs.declared.elem.Elem.TheVariants.{I4}
use Rattle.board_types.specs.declared.value.Shape.{Shape}
use Rattle.tiny_ram.specs.Memory.{frame_value, shown}
use Rattle.tiny_except.proofs.Walks.{small}
use Rattle.tiny_except.proofs.Tops.{one_wrap}
use Rattle.tiny_except.proofs.frames.behind.Goals as goal

pub returns : goal.returns
returns c = λ m f k e n.
    let count : c.shape.result.count ≡ sum f.sizes = ap (λ (z : Shape). z.count) (c.shape.ensures.frame m f k e) in
    let index : (c.shape.result.count + c.args.n) % 4294967296 ≡ sum f.sizes + c.args.n =
    ap (λ z. (z + c.args.n) % 4294967296) count ∙ one_wrap (sum f.sizes) c.args.n (small c.args.ram.now m c.args.frame f k e) n in
    c.get.ensures.frame m f k e ∙ ap (λ i. shown I4 (frame_value f i)) index
