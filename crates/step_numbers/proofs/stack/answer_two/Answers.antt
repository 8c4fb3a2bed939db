use Rattle.std.proofs.Common.{◌≡◌, ◌∷◌, refl, sym, ap, ◌∙◌, subst, arith}
use Rattle.machine.specs.Numbers.{Raises, NoCase}
use Rattle.machine.specs.Throw.{goes}
use Rattle.machine.specs.Rows.{answered}
use Rattle.tiny_ops.specs.declared.answer.OpEnd.{OpEnd}
use Rattle.tiny_ram.specs.Memory.{RamFrame, with_frames, popped, pushed}
use Rattle.tiny_ram.specs.Region.{Keeps}
use Rattle.step_numbers.specs.Taken.{IsAnswer, stacked, with_top}
use Rattle.step_numbers.proofs.Sights.{nowhere, given_is}
use Rattle.step_numbers.proofs.Ending.{same_goes, moved_ends, same_frames}
use Rattle.step_numbers.proofs.stack.answer_two.Goals as goal

pub returns-in-Gives : goal.returns-in-Gives
returns-in-Gives c =
    λ p outer m s f fs g gs answer t e is.
    let h = popped (popped f) in
    let x = given_is m.room (h ∷ fs) c.in-Gives.value answer (subst (λ (z : OpEnd). IsAnswer z answer) c.in-Gives.is is) in
    let after = with_top s (stacked g t.rest) gs in
    let went = c.go_with.ensures p outer (with_frames m (h ∷ fs)) after h fs (stacked g t.rest) gs x.0 t.below x.2 in
    moved_ends p outer m s (stacked g t.rest) gs c.go_with.new.ram (goes p after (stacked g t.rest) gs c.args.next (x.0 ∷ t.rest)) (answered p s g gs c.args.next t.rest answer) c.go_with.result
    (same_goes p s g gs t.rest c.args.next (x.0 ∷ t.rest) ∙ sym (ap (answered p s g gs c.args.next t.rest) x.1)) went

pub returns-in-Throws : goal.returns-in-Throws
returns-in-Throws c =
    λ p outer m s f fs g gs answer t e is.
    let h = popped (popped f) in
    let raised : Raises c.in-Throws.known ≡ answer = subst (λ (z : OpEnd). IsAnswer z answer) c.in-Throws.is is nowhere in
    let room = t.room in
    let one = c.put_back.ensures (with_frames m (h ∷ fs)) h fs t.below.keeps refl (omega (arith, room)) in
    let first = subst (λ (z : RamFrame). Keeps c.put_back.new.ram (with_frames m (z ∷ fs))) t.back one in (
      same_frames c.put_back-in-Throws.new.ram m f (pushed (popped f) c.args.taken.second) fs e t.back_second (c.put_back-in-Throws.ensures (with_frames m (popped f ∷ fs)) (popped f) fs first refl t.room),
      ap (answered p s g gs c.args.next t.rest) (sym raised),
    )

pub returns-in-NoCase : goal.returns-in-NoCase
returns-in-NoCase c =
    λ p outer m s f fs g gs answer t e is.
    let none : NoCase ≡ answer = subst (λ (z : OpEnd). IsAnswer z answer) c.in-NoCase.is is nowhere in
    ap (answered p s g gs c.args.next t.rest) (sym none)
