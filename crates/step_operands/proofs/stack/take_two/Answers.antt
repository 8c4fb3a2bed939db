use Rattle.machine.specs.Rows.{on_top}
use Rattle.tiny_ram.specs.Memory.{popped}
use Rattle.step_operands.specs.Below.{stacked}
use Rattle.step_operands.proofs.Taking.{took_two, no_two}
use Rattle.step_operands.proofs.stack.take_two.Goals as goal

pub returns-in_default : goal.returns-in_default
returns-in_default c =
    λ p outer m s fs gs h k b go.
    c.in_default.ensures p outer m s fs gs h k b (λ y below. on_top below (λ x rest. go x y rest))

pub returns-in_default-take : goal.returns-in_default-take
returns-in_default-take c =
    λ p outer m s fs gs h k b.
    let one = c.in-Some.ensures p outer m s fs gs h k b in
    no_two p outer c.take.new.ram c.take.new.ram m s fs gs h k c.in-Some.second one (c.in_default-take.ensures p outer m s fs gs (popped h) (stacked k one.rest) one.below)

pub returns : goal.returns
returns c =
    λ p outer m s fs gs h k b.
    let one = c.in-Some.ensures p outer m s fs gs h k b in
    took_two p outer c.take-2.new.ram c.take.new.ram m s fs gs h k c.in-Some-take.first c.in-Some.second one (c.in-Some-take.ensures p outer m s fs gs (popped h) (stacked k one.rest) one.below)
