use Rattle.std.proofs.Common.{Some, subst}
use Rattle.std.specs.Prelude.{slice_set}
use Rattle.tiny_ram.specs.Memory.{RamFrame, put_in_frame}
use Rattle.tiny_ram.specs.Region.{Keeps}
use Rattle.tiny_except.proofs.Tops.{top_is, put_top, slot_takes, slot_put}
use Rattle.step_places.proofs.Rooms.{variable_inside}
use Rattle.step_places.proofs.places.put_far.Goals as goal

pub returns : goal.returns
returns c =
    λ m f fs keeps e l.
    let u = c.put.new.self in
    let i = c.args.index in
    let v = c.args.value in
    let thing = c.top-thing.result in
    let top = c.top-thing.ensures m keeps in
    let inside = variable_inside f i l in
    let done = c.put.ensures.frame m f keeps (top_is m thing f fs e top) (slot_takes f i v inside) in
    put_top u m thing f (record f { places = slice_set f.places i (Some v) }) fs e top
    (subst (λ (x : RamFrame). Keeps u (put_in_frame m thing x)) (slot_put f i v inside) done)
