use Rattle.std.proofs.Common.{sym, ap, ◌∙◌, subst}
use Rattle.plain_types.specs.declared.elem.Elem.{Elem}
use Rattle.plain_types.specs.declared.elem.Elem.TheVariants.{Class}
use Rattle.tiny_ram.specs.Memory.{frame_value, shown, IsFrame}
use Rattle.tiny_except.proofs.Tops.{slot_shown}
use Rattle.tiny_except.proofs.frames.slot.Goals as goal

pub returns : goal.returns
returns c = λ m f k e l.
    let is : IsFrame m c.slot_place.result.thing f = subst (λ n. IsFrame m n f) (sym c.slot_place.ensures.thing) e in
    c.get.ensures.frame m f k is
    ∙ ap (λ (z : Elem). shown z (frame_value f c.slot_place.result.index)) c.slot_place.ensures.elem
    ∙ ap (λ i. shown Class (frame_value f i)) (c.slot_place.ensures.index m f k e l)
    ∙ slot_shown f c.args.number l
