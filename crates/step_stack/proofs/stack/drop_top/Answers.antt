use Rattle.std.proofs.Common.{◌≡◌, List, ◌∷◌, Some, None, refl, sym, ap, subst}
use Rattle.machine.specs.Data.{Value}
use Rattle.machine.specs.Throw.{goes}
use Rattle.machine.specs.Rows.{on_top}
use Rattle.tiny_ram.specs.Memory.{with_frames, top_value, popped}
use Rattle.step_ends.specs.Ends.{GoesOn}
use Rattle.step_ends.proofs.Going.{moved, top_of, went_on}
use Rattle.step_ends.proofs.Popping.{topmost, no_top, popped_is}
use Rattle.step_stack.proofs.stack.drop_top.Goals as goal

pub returns-in_default : goal.returns-in_default
returns-in_default c =
    λ p outer m s f fs g gs b.
    let top = top_of p outer m s f fs g gs b.ram_frames b.frames b.alike in
    let value = c.pop.ensures.value m f fs b.keeps b.ram_frames in
    let none : top_value f ≡ None = cc (value, c.in_default.is) in
    ap (λ (xs : List Value). on_top xs (λ v rest. goes p s g gs c.args.next rest)) (no_top p outer s.heap m.room f fs g gs top.frame none)

pub returns : goal.returns
returns c =
    λ p outer m s f fs g gs b.
    let top = top_of p outer m s f fs g gs b.ram_frames b.frames b.alike in
    let r = c.in-Some.field-0 in
    let value = c.pop.ensures.value m f fs b.keeps b.ram_frames in
    let some : top_value f ≡ Some r = cc (value, c.in-Some.is) in
    let t = topmost p outer s.heap m.room f fs g gs top.frame r some in
    let k = popped_is p outer s.heap m.room f fs g gs top.frame t.value t.rest t.stack in
    let u = c.go_to.new.self in
    let gone = c.go_to.ensures (with_frames m (popped f ∷ fs)) (popped f) fs (c.pop.ensures.popped m f fs b.keeps b.ram_frames) refl in
    subst (λ (xs : List Value). GoesOn p outer s u m.room (on_top xs (λ v rest. goes p s g gs c.args.next rest))) (sym t.stack)
    (went_on p outer u m s (popped f) fs g gs t.rest b.alike k top.callers c.args.next c.ranges.next.fits (moved u m (popped f) fs c.args.next c.cast_signed.result c.ranges.next.fits c.cast_signed.ensures gone))
