use Rattle.std.proofs.Common.{◌≡◌, Some, sym, ap, ◌∙◌, subst}
use Rattle.std.specs.Prelude.{slice_set}
use Rattle.plain_types.specs.declared.elem.Elem.{Elem}
use Rattle.plain_types.specs.declared.elem.Elem.TheVariants.{Class}
use Rattle.tiny_ram.specs.Memory.{RamFrame, innermost, IsFrame, put_in_frame, with_frame_value, FrameTakes}
use Rattle.tiny_ram.specs.Region.{Keeps}
use Rattle.tiny_except.specs.Unwinding.{slot_index}
use Rattle.tiny_except.proofs.Tops.{slot_inside, top_is, put_top, slot_takes, slot_put}
use Rattle.tiny_except.proofs.frames.put_slot.Goals as goal

pub returns : goal.returns
returns c = λ m f fs k e l.
    let top = c.top.ensures m k in
    let is = top_is m c.top.result f fs e top in
    let thing : c.slot_place-at.result.thing ≡ innermost m.room m.frames = c.slot_place-at.ensures.thing ∙ top in
    let there : IsFrame m c.slot_place-at.result.thing f = top_is m c.slot_place-at.result.thing f fs e thing in
    let index : c.slot_place-at.result.index ≡ slot_index f c.args.number = c.slot_place-at.ensures.index m f k is l in
    let inside = slot_inside f c.args.number l in
    let takes : FrameTakes f c.slot_place-at.result.index c.args.held = subst (λ i. FrameTakes f i c.args.held) (sym index) (slot_takes f (slot_index f c.args.number) c.args.held inside) in
    let put : with_frame_value f c.slot_place-at.result.index c.slot_place-at.result.elem c.args.held ≡ record f { places = slice_set f.places (slot_index f c.args.number) (Some c.args.held) } =
    ap (λ (z : Elem). with_frame_value f c.slot_place-at.result.index z c.args.held) c.slot_place-at.ensures.elem
    ∙ ap (λ i. with_frame_value f i Class c.args.held) index
    ∙ slot_put f (slot_index f c.args.number) c.args.held inside in
    put_top c.put.new.self m c.slot_place-at.result.thing f (record f { places = slice_set f.places (slot_index f c.args.number) (Some c.args.held) }) fs e thing
    (subst (λ (g : RamFrame). Keeps c.put.new.self (put_in_frame m c.slot_place-at.result.thing g)) put (c.put.ensures.frame m f k there takes))
