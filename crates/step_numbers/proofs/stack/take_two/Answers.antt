use Rattle.std.proofs.Common.{◌∷◌}
use Rattle.tiny_ram.specs.Memory.{with_frames, popped}
use Rattle.step_numbers.specs.Taken.{stacked, with_top}
use Rattle.step_numbers.proofs.Taking.{took_two, short_none, short_one}
use Rattle.step_numbers.proofs.stack.take_two.Goals as goal

pub returns-in_default : goal.returns-in_default
returns-in_default c =
    λ p outer m s f fs g gs b.
    short_none g.stack (c.in_default.ensures p outer m s f fs g gs b)

pub returns-in_default-take : goal.returns-in_default-take
returns-in_default-take c =
    λ p outer m s f fs g gs b.
    let one = c.in-Some.ensures p outer m s f fs g gs b in
    let none = c.in_default-take.ensures p outer (with_frames m (popped f ∷ fs)) (with_top s (stacked g one.rest) gs) (popped f) fs (stacked g one.rest) gs one.below in
    short_one p outer c.take-2.new.ram c.take.new.ram m s f fs g gs c.in-Some.second one none

pub returns : goal.returns
returns c =
    λ p outer m s f fs g gs b.
    let one = c.in-Some.ensures p outer m s f fs g gs b in
    let two = c.in-Some-take.ensures p outer (with_frames m (popped f ∷ fs)) (with_top s (stacked g one.rest) gs) (popped f) fs (stacked g one.rest) gs one.below in
    took_two p outer c.take-2.new.ram c.take.new.ram m s f fs g gs c.in-Some-take.first c.in-Some.second one two
