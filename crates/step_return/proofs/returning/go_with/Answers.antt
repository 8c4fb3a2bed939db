use Rattle.std.proofs.Common.{◌∷◌, refl, sym}
use Rattle.tiny_ram.specs.Memory.{with_frames}
use Rattle.step_ends.proofs.Going.{moved, top_of}
use Rattle.step_return.specs.Returns.{pushed_result}
use Rattle.step_return.proofs.Ended.{no_room, gone_on}
use Rattle.step_return.proofs.returning.go_with.Goals as goal

pub returns-then-not-push_result : goal.returns-then-not-push_result
returns-then-not-push_result c = λ p outer m s f fs g gs v b is.
    let top = top_of p outer m s f fs g gs b.ram_frames b.frames b.alike in
    no_room p outer m s f fs g gs b.alike top.frame top.callers c.args.value v is (sym (c.if-not-push_result.ensures.room m f fs b.keeps b.ram_frames)) c.args.next

pub returns : goal.returns
returns c = λ p outer m s f fs g gs v b is.
    let top = top_of p outer m s f fs g gs b.ram_frames b.frames b.alike in
    let u = c.go_to.new.self in
    let x = pushed_result f c.args.value in
    let done = c.if-not-push_result.ensures.done m f fs b.keeps b.ram_frames in
    gone_on p outer m s f fs g gs b.alike top.frame top.callers u c.args.value v is (sym (c.if-not-push_result.ensures.room m f fs b.keeps b.ram_frames)) c.args.next c.ranges.next.fits
    (moved u m x fs c.args.next c.cast_signed.result c.ranges.next.fits c.cast_signed.ensures (c.go_to.ensures (with_frames m (x ∷ fs)) x fs done refl))
