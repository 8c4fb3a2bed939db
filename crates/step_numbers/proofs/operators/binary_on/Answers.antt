use Rattle.std.proofs.Common.{List, Option, sym, ◌∙◌}
use Rattle.machine.specs.Data.{Value, State}
use Rattle.machine.specs.Numbers.{binary}
use Rattle.machine.specs.Rows.{on_two, answered}
use Rattle.step_numbers.proofs.Sights.{binary_seen}
use Rattle.step_numbers.proofs.Ending.{two_are, no_two_are, ends_so}
use Rattle.step_numbers.proofs.operators.binary_on.Goals as goal

pub returns-in_default : goal.returns-in_default
returns-in_default c =
    λ p outer m s f fs g gs b.
    let go : Value → Value → List Value → Option State = λ v w rest. answered p s g gs c.args.next rest (binary c.args.operator v w) in
    no_two_are g.stack go (c.in_default.ensures p outer m s f fs g gs b)

pub returns : goal.returns
returns c =
    λ p outer m s f fs g gs b.
    let go : Value → Value → List Value → Option State = λ v w rest. answered p s g gs c.args.next rest (binary c.args.operator v w) in
    let t = c.in-Some.ensures p outer m s f fs g gs b in
    ends_so p outer m s c.answer_two.new.ram (answered p s g gs c.args.next t.rest (binary c.args.operator t.first t.second)) (on_two g.stack go) c.answer_two.result
    (sym (two_are g.stack t.first t.second t.rest go t.stack))
    (c.answer_two.ensures p outer m s f fs g gs (binary c.args.operator t.first t.second) t b.ram_frames (λ l. c.calculate.ensures l ∙ binary_seen l c.in-Some.taken.first t.first t.seen c.in-Some.taken.second t.second t.seen_second c.args.operator))
