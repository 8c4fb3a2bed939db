use Rattle.std.proofs.Common.{List, Option, sym, ◌∙◌, ◌∷◌, ap}
use Rattle.machine.specs.Data.{Value, State}
use Rattle.machine.specs.Numbers.{convert}
use Rattle.machine.specs.Throw.{on_some, goes}
use Rattle.machine.specs.Rows.{on_top, answered}
use Rattle.tiny_ops.specs.Operators.{given}
use Rattle.step_numbers.proofs.Sights.{convert_seen}
use Rattle.step_numbers.proofs.Ending.{top_is, no_top_is, ends_so, given_goes}
use Rattle.step_numbers.proofs.operators.convert_on.Goals as goal

pub returns-in_default : goal.returns-in_default
returns-in_default c =
    λ p outer m s f fs g gs b.
    let go : Value → List Value → Option State = λ v rest. on_some (convert c.args.integer v) (λ x. goes p s g gs c.args.next (x ∷ rest)) in
    no_top_is g.stack go (c.in_default.ensures p outer m s f fs g gs b)

pub returns : goal.returns
returns c =
    λ p outer m s f fs g gs b.
    let go : Value → List Value → Option State = λ v rest. on_some (convert c.args.integer v) (λ x. goes p s g gs c.args.next (x ∷ rest)) in
    let t = c.in-Some.ensures p outer m s f fs g gs b in
    ends_so p outer m s c.answer_one.new.ram (answered p s g gs c.args.next t.rest (given (convert c.args.integer t.value))) (on_top g.stack go) c.answer_one.result
    (given_goes p s g gs c.args.next t.rest (convert c.args.integer t.value) ∙ sym (top_is g.stack t.value t.rest go t.stack))
    (c.answer_one.ensures p outer m s f fs g gs (given (convert c.args.integer t.value)) t b.ram_frames (λ l. c.convert.ensures l ∙ ap given (convert_seen l c.in-Some.x t.value t.seen c.args.integer)))
