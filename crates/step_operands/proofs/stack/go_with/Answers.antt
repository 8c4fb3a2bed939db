use Rattle.std.proofs.Common.{◌∷◌, ◌<◌, length, refl, sym, ◌∙◌, arith}
use Rattle.std.specs.Prelude.{slice_index}
use Rattle.std.proofs.lemmas.Bool.{ltb-true, ltb-false}
use Rattle.machine.specs.Throw.{goes}
use Rattle.tiny_ram.specs.Memory.{with_frames, pushed}
use Rattle.memory_states.proofs.Frames.{stack_size}
use Rattle.step_ends.specs.declared.acted.Acted.TheVariants.{Done}
use Rattle.step_ends.proofs.Going.{moved, full}
use Rattle.step_operands.specs.Below.{stacked}
use Rattle.step_operands.proofs.Ending.{same_goes, moves_so, went_with}
use Rattle.step_operands.proofs.stack.go_with.Goals as goal

pub returns-then-not-push : goal.returns-then-not-push
returns-then-not-push c =
    λ p outer m s fs gs h g rest v b is.
    let k = b.frame in
    let less = with_frames m (h ∷ fs) in
    let over = ltb-false h.depth (slice_index h.sizes 2) (sym (c.if-not-push.ensures.room less h fs b.keeps refl)) in
    let size = stack_size p outer s.heap m.room h fs (stacked g rest) gs k in
    let depth = k.depth in
    sym (same_goes p s g gs rest c.args.next (v ∷ rest)) ∙ full p outer s (stacked g rest) gs k.of c.args.next (v ∷ rest) k.is (omega (arith, over, size, depth))

pub returns : goal.returns
returns c =
    λ p outer m s fs gs h g rest v b is.
    let k = b.frame in
    let less = with_frames m (h ∷ fs) in
    let room = ltb-true h.depth (slice_index h.sizes 2) (sym (c.if-not-push.ensures.room less h fs b.keeps refl)) in
    let size = stack_size p outer s.heap m.room h fs (stacked g rest) gs k in
    let depth = k.depth in
    let below : length rest < k.of.max_stack = omega (arith, room, size, depth) in
    let r = c.args.value in
    let u = c.go_to.new.self in
    let n = c.args.next in
    let done = c.if-not-push.ensures.done less h fs b.keeps refl in
    moves_so p outer s u m.room (goes p s (stacked g (v ∷ rest)) gs n (v ∷ rest)) (goes p s g gs n (v ∷ rest)) Done (same_goes p s g gs (v ∷ rest) n (v ∷ rest))
    (went_with p outer u m s fs gs c.args.ram.now h (stacked g rest) b r v is below n c.ranges.next.fits c.push.new.self done
    (moved u less (pushed h r) fs n c.cast_signed.result c.ranges.next.fits c.cast_signed.ensures (c.go_to.ensures (with_frames m (pushed h r ∷ fs)) (pushed h r) fs done refl)))
