use Rattle.std.proofs.Common.{◌≡◌, ◌+◌, ◌%◌, pos, sym, ap, ◌∙◌, subst, arith}
use Rattle.std.specs.Prelude.{sum}
use Rattle.plain_types.specs.declared.elem.Elem.TheVariants.{I4}
use Rattle.board_types.specs.declared.value.Value.TheVariants.{Int}
use Rattle.board_types.specs.declared.value.Shape.{Shape}
use Rattle.tiny_ram.specs.Memory.{RamFrame, put_in_frame, with_frame_value, FrameTakes}
use Rattle.tiny_ram.specs.Region.{Keeps}
use Rattle.tiny_except.proofs.Walks.{small}
use Rattle.tiny_except.proofs.Tops.{one_wrap, top_is, put_top, depth_takes, depth_put}
use Rattle.tiny_except.proofs.frames.clear_stack.Goals as goal

pub returns : goal.returns
returns c = λ m f fs k e.
    let top = c.top-frame.ensures m k in
    let is = top_is m c.top-frame.result f fs e top in
    let count : c.shape.result.count ≡ sum f.sizes = ap (λ (z : Shape). z.count) (c.shape.ensures.frame m f k is) in
    let index : (c.shape.result.count + 1) % 4294967296 ≡ sum f.sizes + 1 =
    ap (λ z. (z + 1) % 4294967296) count ∙ one_wrap (sum f.sizes) 1 (small c.args.ram.now m c.top-frame.result f k is) (omega arith) in
    let takes : FrameTakes f ((c.shape.result.count + 1) % 4294967296) (Int (pos 0)) = subst (λ i. FrameTakes f i (Int (pos 0))) (sym index) (depth_takes f) in
    let put : with_frame_value f ((c.shape.result.count + 1) % 4294967296) I4 (Int (pos 0)) ≡ record f { depth = 0 } =
    ap (λ i. with_frame_value f i I4 (Int (pos 0))) index ∙ depth_put f in
    put_top c.put.new.self m c.top-frame.result f (record f { depth = 0 }) fs e top
    (subst (λ (g : RamFrame). Keeps c.put.new.self (put_in_frame m c.top-frame.result g)) put (c.put.ensures.frame m f k is takes))
