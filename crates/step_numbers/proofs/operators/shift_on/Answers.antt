use Rattle.std.proofs.Common.{List, Option, sym, ◌∙◌, ◌∷◌, ap}
use Rattle.machine.specs.Data.{Value, State}
use Rattle.machine.specs.Numbers.{shift}
use Rattle.machine.specs.Throw.{on_some, goes}
use Rattle.machine.specs.Rows.{on_two, answered}
use Rattle.tiny_ops.specs.Operators.{given}
use Rattle.step_numbers.proofs.Sights.{shift_seen}
use Rattle.step_numbers.proofs.Ending.{two_are, no_two_are, ends_so, given_goes}
use Rattle.step_numbers.proofs.operators.shift_on.Goals as goal

pub returns-in_default : goal.returns-in_default
returns-in_default c =
    λ p outer m s f fs g gs b.
    let go : Value → Value → List Value → Option State = λ v w rest. on_some (shift c.args.operator v w) (λ x. goes p s g gs c.args.next (x ∷ rest)) in
    no_two_are g.stack go (c.in_default.ensures p outer m s f fs g gs b)

pub returns : goal.returns
returns c =
    λ p outer m s f fs g gs b.
    let go : Value → Value → List Value → Option State = λ v w rest. on_some (shift c.args.operator v w) (λ x. goes p s g gs c.args.next (x ∷ rest)) in
    let t = c.in-Some.ensures p outer m s f fs g gs b in
    ends_so p outer m s c.answer_two.new.ram (answered p s g gs c.args.next t.rest (given (shift c.args.operator t.first t.second))) (on_two g.stack go) c.answer_two.result
    (given_goes p s g gs c.args.next t.rest (shift c.args.operator t.first t.second) ∙ sym (two_are g.stack t.first t.second t.rest go t.stack))
    (c.answer_two.ensures p outer m s f fs g gs (given (shift c.args.operator t.first t.second)) t b.ram_frames (λ l. c.shift.ensures l ∙ ap given (shift_seen l c.in-Some.taken.first t.first t.seen c.in-Some.taken.second t.second t.seen_second c.args.operator)))
