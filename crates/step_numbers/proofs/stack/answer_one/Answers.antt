use Rattle.std.proofs.Common.{◌≡◌, ◌∷◌, refl, sym, ap, ◌∙◌, subst}
use Rattle.machine.specs.Numbers.{Raises, NoCase}
use Rattle.machine.specs.Throw.{goes}
use Rattle.machine.specs.Rows.{answered}
use Rattle.tiny_ops.specs.declared.answer.OpEnd.{OpEnd}
use Rattle.tiny_ram.specs.Memory.{with_frames, popped, pushed}
use Rattle.step_numbers.specs.Taken.{IsAnswer, stacked, with_top}
use Rattle.step_numbers.proofs.Sights.{nowhere, given_is}
use Rattle.step_numbers.proofs.Ending.{same_goes, moved_ends, same_frames}
use Rattle.step_numbers.proofs.stack.answer_one.Goals as goal

pub returns-in-Gives : goal.returns-in-Gives
returns-in-Gives c =
    λ p outer m s f fs g gs answer t e is.
    let x = given_is m.room (popped f ∷ fs) c.in-Gives.value answer (subst (λ (z : OpEnd). IsAnswer z answer) c.in-Gives.is is) in
    let after = with_top s (stacked g t.rest) gs in
    let went = c.go_with.ensures p outer (with_frames m (popped f ∷ fs)) after (popped f) fs (stacked g t.rest) gs x.0 t.below x.2 in
    moved_ends p outer m s (stacked g t.rest) gs c.go_with.new.ram (goes p after (stacked g t.rest) gs c.args.next (x.0 ∷ t.rest)) (answered p s g gs c.args.next t.rest answer) c.go_with.result
    (same_goes p s g gs t.rest c.args.next (x.0 ∷ t.rest) ∙ sym (ap (answered p s g gs c.args.next t.rest) x.1)) went

pub returns-in-Throws : goal.returns-in-Throws
returns-in-Throws c =
    λ p outer m s f fs g gs answer t e is.
    let raised : Raises c.in-Throws.known ≡ answer = subst (λ (z : OpEnd). IsAnswer z answer) c.in-Throws.is is nowhere in (
      same_frames c.put_back.new.ram m f (pushed (popped f) c.args.x) fs e t.back (c.put_back.ensures (with_frames m (popped f ∷ fs)) (popped f) fs t.below.keeps refl t.room),
      ap (answered p s g gs c.args.next t.rest) (sym raised),
    )

pub returns-in-NoCase : goal.returns-in-NoCase
returns-in-NoCase c =
    λ p outer m s f fs g gs answer t e is.
    let none : NoCase ≡ answer = subst (λ (z : OpEnd). IsAnswer z answer) c.in-NoCase.is is nowhere in
    ap (answered p s g gs c.args.next t.rest) (sym none)
