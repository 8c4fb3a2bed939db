use Rattle.std.proofs.Common.{◌∷◌, ◌<◌, length, refl, sym, arith}
use Rattle.std.specs.Prelude.{slice_index}
use Rattle.std.proofs.lemmas.Bool.{ltb-true, ltb-false}
use Rattle.tiny_ram.specs.Memory.{with_frames, pushed}
use Rattle.memory_states.proofs.Frames.{stack_size}
use Rattle.step_ends.proofs.Going.{moved, top_of, full, pushed_on}
use Rattle.step_numbers.proofs.stack.go_with.Goals as goal

pub returns-then-not-push : goal.returns-then-not-push
returns-then-not-push c =
    λ p outer m s f fs g gs v b is.
    let top = top_of p outer m s f fs g gs b.ram_frames b.frames b.alike in
    let k = top.frame in
    let over = ltb-false f.depth (slice_index f.sizes 2) (sym (c.if-not-push.ensures.room m f fs b.keeps b.ram_frames)) in
    let size = stack_size p outer s.heap m.room f fs g gs k in
    let depth = k.depth in
    full p outer s g gs k.of c.args.next (v ∷ g.stack) k.is (omega (arith, over, size, depth))

pub returns : goal.returns
returns c =
    λ p outer m s f fs g gs v b is.
    let top = top_of p outer m s f fs g gs b.ram_frames b.frames b.alike in
    let k = top.frame in
    let room = ltb-true f.depth (slice_index f.sizes 2) (sym (c.if-not-push.ensures.room m f fs b.keeps b.ram_frames)) in
    let size = stack_size p outer s.heap m.room f fs g gs k in
    let depth = k.depth in
    let below : length g.stack < k.of.max_stack = omega (arith, room, size, depth) in
    let r = c.args.value in
    let u = c.go_to.new.self in
    let done = c.if-not-push.ensures.done m f fs b.keeps b.ram_frames in
    pushed_on p outer u m s f fs g gs b.alike k top.callers r v is below c.args.next c.ranges.next.fits
    (moved u m (pushed f r) fs c.args.next c.cast_signed.result c.ranges.next.fits c.cast_signed.ensures (c.go_to.ensures (with_frames m (pushed f r ∷ fs)) (pushed f r) fs done refl))
