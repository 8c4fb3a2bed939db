use Rattle.std.proofs.Common.{◌≡◌, ◌∙◌, List, length, Some, None, sym, ap}
use Rattle.std.specs.Option.{option_copied}
use Rattle.classes.specs.Queries.{instance_fields}
use Rattle.member_keys.specs.Seen.{class_seen}
use Rattle.class_table.specs.declared.rows.ClassTable.{ClassTable}
use Rattle.class_table.specs.Seen.{classes_seen}
use Rattle.tiny_types.specs.declared.answers.FileAnswers.{FileAnswers}
use Rattle.tiny_types.specs.Answers.{answer_at}
use Rattle.tiny_types.proofs.AnswerLaws.{answered, fields_missing}
use Rattle.tiny_types.proofs.bound.BoundTypes.count_fields.Goals as goal

pub returns-in-Some : goal.returns-in-Some
returns-in-Some c =
    let at = class_seen c.args.class in
    let all = c.self.inside.answers.items in
    let there : answer_at all at ≡ Some c.in-Some.answer.now = ap (λ (xs : List FileAnswers). answer_at xs at) (sym c.deref.ensures.value) ∙ sym c.answer_of.ensures ∙ ap option_copied c.in-Some.is in
    (answered c.self.inside.table.now all c.self.invariant.answers at c.in-Some.answer.now there).fields
    ∙ ap (λ (t : ClassTable). length (instance_fields (classes_seen t) at)) c.self.view_is

pub returns-in-None : goal.returns-in-None
returns-in-None c =
    let at = class_seen c.args.class in
    let all = c.self.inside.answers.items in
    let gone : answer_at all at ≡ None = ap (λ (xs : List FileAnswers). answer_at xs at) (sym c.deref.ensures.value) ∙ sym c.answer_of.ensures ∙ ap option_copied c.in-None.is in
    sym (fields_missing c.self.inside.table.now all c.self.invariant.answers at gone)
    ∙ ap (λ (t : ClassTable). length (instance_fields (classes_seen t) at)) c.self.view_is
