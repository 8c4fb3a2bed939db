use Rattle.std.proofs.Common.{sym, ap, ◌∙◌, subst}
use Rattle.plain_types.specs.declared.elem.Elem.{Elem}
use Rattle.plain_types.specs.declared.elem.Elem.TheVariants.{I4}
use Rattle.tiny_ram.specs.Memory.{IsFrame, frame_value, shown}
use Rattle.frame_parts.proofs.parts.held.Goals as goal

pub returns : goal.returns
returns c = λ m f k e n.
    let is : IsFrame m c.part.result.thing f = subst (λ z. IsFrame m z f) (sym c.part.ensures.thing) e in
    c.get.ensures.frame m f k is
    ∙ ap (λ (z : Elem). shown z (frame_value f c.part.result.index)) c.part.ensures.elem
    ∙ ap (λ i. shown I4 (frame_value f i)) (c.part.ensures.index m f k e n)
