use Rattle.std.proofs.Common.{◌≡◌, suc, ◌+◌, ◌-◌, ◌<◌, List, ◌∷◌, length, Some, None, refl, sym, ap, ◌∙◌, subst, arith}
use Rattle.std.specs.Prelude.{slice_set, slice_index}
use Rattle.std.proofs.lemmas.Bool.{ltb-true, ltb-false}
use Rattle.machine.specs.Data.{Value}
use Rattle.machine.specs.Throw.{goes}
use Rattle.machine.specs.Rows.{on_top}
use Rattle.tiny_ram.specs.Memory.{with_frames, variables, top_value, popped, pushed}
use Rattle.memory_states.proofs.Frames.{value_over, pushed_is, stack_size}
use Rattle.step_ends.specs.Ends.{GoesOn}
use Rattle.step_ends.proofs.Going.{moved, top_of, full, went_on}
use Rattle.step_ends.proofs.Popping.{topmost, no_top, popped_is}
use Rattle.step_stack.proofs.stack.duplicate.Goals as goal

pub returns-in_default : goal.returns-in_default
returns-in_default c =
    λ p outer m s f fs g gs b.
    let top = top_of p outer m s f fs g gs b.ram_frames b.frames b.alike in
    let value = c.pop.ensures.value m f fs b.keeps b.ram_frames in
    let none : top_value f ≡ None = cc (value, c.in_default.is) in
    ap (λ (xs : List Value). on_top xs (λ v rest. goes p s g gs c.args.next (v ∷ v ∷ rest))) (no_top p outer s.heap m.room f fs g gs top.frame none)

pub returns-then-not-push : goal.returns-then-not-push
returns-then-not-push c =
    λ p outer m s f fs g gs b.
    let top = top_of p outer m s f fs g gs b.ram_frames b.frames b.alike in
    let value = c.pop.ensures.value m f fs b.keeps b.ram_frames in
    let some : top_value f ≡ Some c.in-Some.top = cc (value, c.in-Some.is) in
    let t = topmost p outer s.heap m.room f fs g gs top.frame c.in-Some.top some in
    let over = ltb-false (popped f).depth (slice_index f.sizes 2) (sym (c.if-not-push.ensures.room (with_frames m (popped f ∷ fs)) (popped f) fs (c.pop.ensures.popped m f fs b.keeps b.ram_frames) refl)) in
    let size = stack_size p outer s.heap m.room f fs g gs top.frame in
    let depth = top.frame.depth in
    let most = top.frame.most in
    let long : length g.stack ≡ suc (length t.rest) = ap length t.stack in
    absurd (omega (arith, over, size, depth, most, long))

pub returns-then-not-push-2 : goal.returns-then-not-push-2
returns-then-not-push-2 c =
    λ p outer m s f fs g gs b.
    let top = top_of p outer m s f fs g gs b.ram_frames b.frames b.alike in
    let r = c.in-Some.top in
    let value = c.pop.ensures.value m f fs b.keeps b.ram_frames in
    let some : top_value f ≡ Some r = cc (value, c.in-Some.is) in
    let t = topmost p outer s.heap m.room f fs g gs top.frame r some in
    let one = c.if-not-push.ensures.done (with_frames m (popped f ∷ fs)) (popped f) fs (c.pop.ensures.popped m f fs b.keeps b.ram_frames) refl in
    let over = ltb-false (pushed (popped f) r).depth (slice_index f.sizes 2) (sym (c.if-not-push-2.ensures.room (with_frames m (pushed (popped f) r ∷ fs)) (pushed (popped f) r) fs one refl)) in
    let size = stack_size p outer s.heap m.room f fs g gs top.frame in
    let depth = top.frame.depth in
    let long : length g.stack ≡ suc (length t.rest) = ap length t.stack in
    ap (λ (xs : List Value). on_top xs (λ v rest. goes p s g gs c.args.next (v ∷ v ∷ rest))) t.stack
    ∙ full p outer s g gs top.frame.of c.args.next (t.value ∷ t.value ∷ t.rest) top.frame.is (omega (arith, over, size, depth, long))

pub returns : goal.returns
returns c =
    λ p outer m s f fs g gs b.
    let top = top_of p outer m s f fs g gs b.ram_frames b.frames b.alike in
    let r = c.in-Some.top in
    let value = c.pop.ensures.value m f fs b.keeps b.ram_frames in
    let some : top_value f ≡ Some r = cc (value, c.in-Some.is) in
    let t = topmost p outer s.heap m.room f fs g gs top.frame r some in
    let f1 = popped f in
    let f2 = pushed f1 r in
    let k1 = popped_is p outer s.heap m.room f fs g gs top.frame t.value t.rest t.stack in
    let is1 = value_over m.room f fs f.places f.place (f.depth - 1) r t.value t.is in
    let popped1 = c.pop.ensures.popped m f fs b.keeps b.ram_frames in
    let room1 = ltb-true f1.depth (slice_index f.sizes 2) (sym (c.if-not-push.ensures.room (with_frames m (f1 ∷ fs)) f1 fs popped1 refl)) in
    let size1 = stack_size p outer s.heap m.room f1 fs (record g { stack = t.rest }) gs k1 in
    let depth1 = k1.depth in
    let below1 : length t.rest < k1.of.max_stack = omega (arith, room1, size1, depth1) in
    let k2 = pushed_is p outer s.heap m.room f1 fs (record g { stack = t.rest }) gs k1 r t.value is1 below1 in
    let is2 = value_over m.room f1 fs (slice_set f1.places (variables f1 + f1.depth) (Some r)) f1.place (f1.depth + 1) r t.value is1 in
    let pushed1 = c.if-not-push.ensures.done (with_frames m (f1 ∷ fs)) f1 fs popped1 refl in
    let room2 = ltb-true f2.depth (slice_index f.sizes 2) (sym (c.if-not-push-2.ensures.room (with_frames m (f2 ∷ fs)) f2 fs pushed1 refl)) in
    let size2 = stack_size p outer s.heap m.room f2 fs (record g { stack = t.value ∷ t.rest }) gs k2 in
    let depth2 = k2.depth in
    let below2 : length (t.value ∷ t.rest) < k2.of.max_stack = omega (arith, room2, size2, depth2) in
    let k3 = pushed_is p outer s.heap m.room f2 fs (record g { stack = t.value ∷ t.rest }) gs k2 r t.value is2 below2 in
    let pushed2 = c.if-not-push-2.ensures.done (with_frames m (f2 ∷ fs)) f2 fs pushed1 refl in
    let u = c.go_to.new.self in
    let gone = c.go_to.ensures (with_frames m (pushed f2 r ∷ fs)) (pushed f2 r) fs pushed2 refl in
    subst (λ (xs : List Value). GoesOn p outer s u m.room (on_top xs (λ v rest. goes p s g gs c.args.next (v ∷ v ∷ rest)))) (sym t.stack)
    (went_on p outer u m s (pushed f2 r) fs g gs (t.value ∷ t.value ∷ t.rest) b.alike k3 top.callers c.args.next c.ranges.next.fits (moved u m (pushed f2 r) fs c.args.next c.cast_signed.result c.ranges.next.fits c.cast_signed.ensures gone))
