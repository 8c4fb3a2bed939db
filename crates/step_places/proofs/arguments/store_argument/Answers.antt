use Rattle.std.proofs.Common.{◌≡◌, ◌-◌, ◌<◌, ◌∷◌, length, Option, Some, None, refl, sym, ◌∙◌, subst}
use Rattle.std.specs.Prelude.{slice_set}
use Rattle.machine.specs.Data.{State}
use Rattle.machine.specs.Numbers.{kept}
use Rattle.machine.specs.Program.{Method}
use Rattle.tiny_ram.specs.Memory.{with_frames, top_value, popped}
use Rattle.memory_states.proofs.Frames.{value_over}
use Rattle.kept_values.specs.Keeping.{kind_seen}
use Rattle.step_ends.specs.Ends.{GoesOn}
use Rattle.step_ends.proofs.Going.{moved, top_of, went_on}
use Rattle.step_ends.proofs.Popping.{topmost, no_top, popped_is}
use Rattle.step_places.proofs.Zeros.{kept_is, not_kept}
use Rattle.step_places.proofs.Variables.{put, argument_put}
use Rattle.step_places.proofs.ArgumentActs.{argument_there, no_argument_type, argument_below, no_type_stores, empty_stores, stores}
use Rattle.step_places.proofs.arguments.store_argument.Goals as goal

some_same : {A : Type 0} (x y : A) → Some x ≡ Some y → x ≡ y
some_same x y e = cc e

pub returns-in_default : goal.returns-in_default
returns-in_default c =
    λ p outer m s f fs g gs of b is e.
    let top = top_of p outer m s f fs g gs b.ram_frames b.frames b.alike in
    no_type_stores p outer m s f fs g gs top.frame c.args.n c.args.next (no_argument_type p outer m s f fs g gs top.frame c.args.n of is c.args.place e c.in_default.is)

pub returns-in_default-pop : goal.returns-in_default-pop
returns-in_default-pop c =
    λ p outer m s f fs g gs of b is e.
    let top = top_of p outer m s f fs g gs b.ram_frames b.frames b.alike in
    let there = argument_there p outer m s f fs g gs top.frame c.args.n of is c.args.place e c.in-Some.kind c.in-Some.is in
    let value = c.pop.ensures.value m f fs b.keeps b.ram_frames in
    let none : top_value f ≡ None = cc (value, c.in_default-pop.is) in
    empty_stores p outer m s f fs g gs top.frame c.args.n c.args.next there.type there.typed (no_top p outer s.heap m.room f fs g gs top.frame none)

pub returns-in_default-keep : goal.returns-in_default-keep
returns-in_default-keep c =
    λ p outer m s f fs g gs of b is e.
    let top = top_of p outer m s f fs g gs b.ram_frames b.frames b.alike in
    let there = argument_there p outer m s f fs g gs top.frame c.args.n of is c.args.place e c.in-Some.kind c.in-Some.is in
    let value = c.pop.ensures.value m f fs b.keeps b.ram_frames in
    let r = c.in-Some-pop.value in
    let some : top_value f ≡ Some r = cc (value, c.in-Some-pop.is) in
    let t = topmost p outer s.heap m.room f fs g gs top.frame r some in
    let kept_none = not_kept m.room (f ∷ fs) (kept there.type t.value) (c.in_default-keep.ensures.alike m.room (f ∷ fs) there.type t.value (sym there.kind_is) t.is) in
    stores p outer m s f fs g gs top.frame c.args.n c.args.next there.type there.typed t.value t.rest t.stack None kept_none

pub returns : goal.returns
returns c =
    λ p outer m s f fs g gs of b is e.
    let top = top_of p outer m s f fs g gs b.ram_frames b.frames b.alike in
    let k = top.frame in
    let kind = kind_seen c.in-Some.kind in
    let there = argument_there p outer m s f fs g gs k c.args.n of is c.args.place e c.in-Some.kind c.in-Some.is in
    let value = c.pop.ensures.value m f fs b.keeps b.ram_frames in
    let r = c.in-Some-pop.value in
    let some : top_value f ≡ Some r = cc (value, c.in-Some-pop.is) in
    let t = topmost p outer s.heap m.room f fs g gs k r some in
    let held = c.in-Some-keep.held in
    let w = kept_is m.room (f ∷ fs) held (kept there.type t.value) (c.in-Some-keep.ensures.alike m.room (f ∷ fs) there.type t.value (sym there.kind_is) t.is) in
    let f1 = popped f in
    let k1 = popped_is p outer s.heap m.room f fs g gs k t.value t.rest t.stack in
    let over = value_over m.room f fs f.places f.place (f.depth - 1) held w.0 w.2 in
    let same : k.of ≡ k1.of = some_same k.of k1.of (sym k.is ∙ k1.is) in
    let within : c.args.n < length k1.of.arguments = subst (λ (x : Method). c.args.n < length x.arguments) same there.within in
    let below = argument_below p outer m s f fs g gs k c.args.n kind there in
    let k2 = argument_put p outer s.heap m.room f1 fs (record g { stack = t.rest }) gs k1 c.args.n held w.0 over within in
    let gone1 = c.pop.ensures.popped m f fs b.keeps b.ram_frames in
    let u1 = c.put_at.new.ram in
    let put1 = c.put_at.ensures (with_frames m (f1 ∷ fs)) f1 fs gone1 refl below in
    let f2 = put f1 c.args.n held in
    let u = c.go_to.new.self in
    let gone = c.go_to.ensures (with_frames m (f2 ∷ fs)) f2 fs put1 refl in
    let went = went_on p outer u m s f2 fs (record g { arguments = slice_set g.arguments c.args.n w.0 }) gs t.rest b.alike k2 top.callers c.args.next c.ranges.next.fits (moved u m f2 fs c.args.next c.cast_signed.result c.ranges.next.fits c.cast_signed.ensures gone) in
    subst (λ (o : Option State). GoesOn p outer s u m.room o) (sym (stores p outer m s f fs g gs k c.args.n c.args.next there.type there.typed t.value t.rest t.stack (Some w.0) w.1)) went
