use Rattle.std.proofs.Common.{◌∷◌, Some, refl}
use Rattle.std.specs.Prelude.{slice_set}
use Rattle.tiny_ram.specs.Memory.{RamFrame, with_frames}
use Rattle.tiny_except.specs.Unwinding.{slot_index}
use Rattle.tiny_except.proofs.frames.enter.Goals as goal

pub returns : goal.returns
returns c = λ m f fs k e l.
    let one : RamFrame = record f { places = slice_set f.places (slot_index f c.args.stop.number) (Some c.args.held) } in
    let two : RamFrame = record f { places = slice_set f.places (slot_index f c.args.stop.number) (Some c.args.held); depth = 0 } in
    c.go_to.ensures (with_frames m (two ∷ fs)) two fs (c.clear_stack.ensures (with_frames m (one ∷ fs)) one fs (c.put_slot.ensures m f fs k e l) refl) refl
