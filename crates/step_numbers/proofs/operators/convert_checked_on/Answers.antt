use Rattle.std.proofs.Common.{List, Option, sym, ◌∙◌}
use Rattle.machine.specs.Data.{Value, State}
use Rattle.machine.specs.Numbers.{convert_checked}
use Rattle.machine.specs.Rows.{on_top, answered}
use Rattle.step_numbers.proofs.Sights.{convert_checked_seen}
use Rattle.step_numbers.proofs.Ending.{top_is, no_top_is, ends_so}
use Rattle.step_numbers.proofs.operators.convert_checked_on.Goals as goal

pub returns-in_default : goal.returns-in_default
returns-in_default c =
    λ p outer m s f fs g gs b.
    let go : Value → List Value → Option State = λ v rest. answered p s g gs c.args.next rest (convert_checked c.args.integer c.args.source v) in
    no_top_is g.stack go (c.in_default.ensures p outer m s f fs g gs b)

pub returns : goal.returns
returns c =
    λ p outer m s f fs g gs b.
    let go : Value → List Value → Option State = λ v rest. answered p s g gs c.args.next rest (convert_checked c.args.integer c.args.source v) in
    let t = c.in-Some.ensures p outer m s f fs g gs b in
    ends_so p outer m s c.answer_one.new.ram (answered p s g gs c.args.next t.rest (convert_checked c.args.integer c.args.source t.value)) (on_top g.stack go) c.answer_one.result
    (sym (top_is g.stack t.value t.rest go t.stack))
    (c.answer_one.ensures p outer m s f fs g gs (convert_checked c.args.integer c.args.source t.value) t b.ram_frames (λ l. c.convert_checked.ensures l ∙ convert_checked_seen l c.in-Some.x t.value t.seen c.args.integer c.args.source))
