use Rattle.tiny_ram.specs.Memory.{popped}
use Rattle.machine.specs.Rows.{on_two}
use Rattle.step_operands.specs.Below.{stacked}
use Rattle.step_operands.proofs.Taking.{took_three, no_three}
use Rattle.step_operands.proofs.stack.take_three.Goals as goal

pub returns-in_default : goal.returns-in_default
returns-in_default c =
    λ p outer m s fs gs h k b go.
    c.in_default.ensures p outer m s fs gs h k b (λ z below. on_two below (λ x y rest. go x y z rest))

pub returns-in_default-take_two : goal.returns-in_default-take_two
returns-in_default-take_two c =
    λ p outer m s fs gs h k b.
    let one = c.in-Some.ensures p outer m s fs gs h k b in
    no_three p outer c.take.new.ram c.take.new.ram m s fs gs h k c.in-Some.third one (c.in_default-take_two.ensures p outer m s fs gs (popped h) (stacked k one.rest) one.below)

pub returns : goal.returns
returns c =
    λ p outer m s fs gs h k b.
    let one = c.in-Some.ensures p outer m s fs gs h k b in
    took_three p outer c.take_two.new.ram c.take.new.ram m s fs gs h k c.in-Some-take_two.pair c.in-Some.third one (c.in-Some-take_two.ensures p outer m s fs gs (popped h) (stacked k one.rest) one.below)
