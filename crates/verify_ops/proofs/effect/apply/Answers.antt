use Rattle.std.proofs.Common.{◌≡◌, List, ◌++◌, take, length, Ok, Err, sym, ap, ◌∙◌, subst}
use Rattle.ecma_types.specs.declared.stack.StackType.{StackType as WorldType}
use Rattle.place_types.specs.Types.{from_top}
use Rattle.verify_ops.specs.Acts.{Judged, kept_below}
use Rattle.stack_acts.specs.Acts.{types_given}
use Rattle.verify_ops.specs.Effects.{shape_of}
use Rattle.verify_ops.specs.Facts.{program_by}
use Rattle.verify_ops.proofs.Choices.{effect_left, effect_refused}
use Rattle.verify_ops.proofs.effect.apply.Goals as goal

pub returns : goal.returns
returns g c =
    λ fits agrees.
    let kept : c.truncate.new.self.items ≡ take (kept_below c.in-Ok.row (length c.args.stack.now.items)) c.args.stack.now.items =
    c.truncate.ensures.items ∙ ap (λ n. take n c.args.stack.now.items) (c.kept.ensures ∙ ap (kept_below c.in-Ok.row) (c.len.ensures ∙ (sym c.as_slice.ensures.len ∙ ap length c.as_slice.ensures.value))) in
    let e : from_top c.push_given.new.stack.items ≡ types_given c.in-Ok-judge.given ++ from_top (take (kept_below c.in-Ok.row (length c.args.stack.now.items)) c.args.stack.now.items) =
    c.in_ok-push_given.ensures ∙ ap (λ (xs : List WorldType). types_given c.in-Ok-judge.given ++ from_top xs) kept in
    let j : Judged (program_by fits c.args.facts.now.operand) c.in-Ok.row c.args.facts.now.max_stack c.args.stack.now.items (Ok c.in-Ok-judge.given) =
    subst (λ (xs : List WorldType). Judged (program_by fits c.args.facts.now.operand) c.in-Ok.row c.args.facts.now.max_stack xs (Ok c.in-Ok-judge.given)) c.as_slice.ensures.value
    (c.in-Ok-judge.ensures.exact (program_by fits c.args.facts.now.operand) agrees) in
    effect_left c.args.facts.now (shape_of c.args.op.now.op) c.args.op.now.operand fits c.in-Ok.row c.args.stack.now.items c.push_given.new.stack.items _ c.in-Ok.ensures j e

pub returns-in-Err-judge : goal.returns-in-Err-judge
returns-in-Err-judge g c =
    λ fits agrees.
    effect_refused (Unit {0}) c.args.facts.now (shape_of c.args.op.now.op) c.args.op.now.operand fits c.in-Ok.row c.args.stack.now.items c.in-Err-judge.refusal c.in-Ok.ensures
    (subst (λ (xs : List WorldType). Judged (program_by fits c.args.facts.now.operand) c.in-Ok.row c.args.facts.now.max_stack xs (Err c.in-Err-judge.refusal)) c.as_slice.ensures.value
    (c.in-Err-judge.ensures.exact (program_by fits c.args.facts.now.operand) agrees))
