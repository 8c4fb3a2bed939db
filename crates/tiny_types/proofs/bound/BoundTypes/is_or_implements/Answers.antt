use Rattle.std.proofs.Common.{◌≡◌, ◌∙◌, List, Some, None, sym, ap}
use Rattle.std.specs.List.{list_any}
use Rattle.std.specs.Option.{option_copied}
use Rattle.machine.specs.Data.{id_eq}
use Rattle.classes.specs.Queries.{is_or_implements}
use Rattle.member_keys.specs.declared.keys.ClassId.{ClassId}
use Rattle.member_keys.specs.Seen.{class_seen}
use Rattle.class_table.specs.declared.rows.ClassTable.{ClassTable}
use Rattle.class_table.specs.Seen.{classes_seen}
use Rattle.class_order.proofs.ReachLaws.{any_seen}
use Rattle.tiny_types.specs.declared.answers.FileAnswers.{FileAnswers}
use Rattle.tiny_types.specs.Answers.{answer_at}
use Rattle.tiny_types.proofs.AnswerLaws.{answered, reach_missing}
use Rattle.tiny_types.proofs.bound.BoundTypes.is_or_implements.Goals as goal

pub returns-in-Some : goal.returns-in-Some
returns-in-Some c =
    let at = class_seen c.args.class in
    let to = class_seen c.args.other in
    let all = c.self.inside.answers.items in
    let there : answer_at all at ≡ Some c.in-Some.answer.now = ap (λ (xs : List FileAnswers). answer_at xs at) (sym c.deref.ensures.value) ∙ sym c.answer_of.ensures ∙ ap option_copied c.in-Some.is in
    c.is_among.ensures
    ∙ ap (list_any (λ (x : ClassId). id_eq to (class_seen x))) c.deref-in-Some.ensures.value
    ∙ sym (any_seen to c.in-Some.answer.now.reached.items)
    ∙ (answered c.self.inside.table.now all c.self.invariant.answers at c.in-Some.answer.now there).reached to
    ∙ ap (λ (t : ClassTable). is_or_implements (classes_seen t) at to) c.self.view_is

pub returns-in-None : goal.returns-in-None
returns-in-None c =
    let at = class_seen c.args.class in
    let to = class_seen c.args.other in
    let all = c.self.inside.answers.items in
    let gone : answer_at all at ≡ None = ap (λ (xs : List FileAnswers). answer_at xs at) (sym c.deref.ensures.value) ∙ sym c.answer_of.ensures ∙ ap option_copied c.in-None.is in
    c.is_same.ensures
    ∙ sym (reach_missing c.self.inside.table.now all c.self.invariant.answers at to gone)
    ∙ ap (λ (t : ClassTable). is_or_implements (classes_seen t) at to) c.self.view_is
