use Rattle.std.proofs.Common.{◌≡◌, pos, true, sym, ap, ◌∙◌, subst, arith}
use Rattle.plain_types.specs.declared.elem.Elem.{Elem}
use Rattle.plain_types.specs.declared.elem.Elem.TheVariants.{I4}
use Rattle.board_types.specs.declared.value.Value.TheVariants.{Int}
use Rattle.tiny_ram.specs.Memory.{RamFrame, IsFrame, put_in_frame, with_frame_value, FrameTakes}
use Rattle.tiny_ram.specs.Region.{Keeps}
use Rattle.frame_parts.proofs.Behind.{mark_takes, mark_put}
use Rattle.frame_parts.proofs.parts.mark_initialiser.Goals as goal

pub returns : goal.returns
returns c = λ m f k e.
    let at = c.part-at.result in
    let is : IsFrame m at.thing f = subst (λ z. IsFrame m z f) (sym c.part-at.ensures.thing) e in
    let index = c.part-at.ensures.index m f k e (omega arith) in
    let takes : FrameTakes f at.index (Int (pos 1)) = subst (λ i. FrameTakes f i (Int (pos 1))) (sym index) (mark_takes f) in
    let put : with_frame_value f at.index at.elem (Int (pos 1)) ≡ record f { initialiser = true } =
    ap (λ (z : Elem). with_frame_value f at.index z (Int (pos 1))) c.part-at.ensures.elem
    ∙ ap (λ i. with_frame_value f i I4 (Int (pos 1))) index
    ∙ mark_put f in
    subst (λ z. Keeps c.put.new.self (put_in_frame m z (record f { initialiser = true }))) c.part-at.ensures.thing
    (subst (λ (g : RamFrame). Keeps c.put.new.self (put_in_frame m at.thing g)) put (c.put.ensures.frame m f k is takes))
