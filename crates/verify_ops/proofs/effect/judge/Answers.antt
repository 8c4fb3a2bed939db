use Rattle.std.proofs.Common.{sym, ap, ◌∙◌}
use Rattle.std.specs.Option.{option_map}
use Rattle.stack_acts.specs.Acts.{types_given}
use Rattle.verify_ops.proofs.Judging.{too_few, too_deep_there, wrong_there, left_there, never_there, given_so, sliced}
use Rattle.verify_ops.proofs.effect.judge.Goals as goal

pub returns-then-stack-row-clause-exact : goal.returns-then-stack-row-clause-exact
returns-then-stack-row-clause-exact g c = λ p agrees. too_few p c.args.row.now c.args.max_stack c.args.stack.now c.if-stack-row.true

pub returns-then-is_too_deep-clause-exact : goal.returns-then-is_too_deep-clause-exact
returns-then-is_too_deep-clause-exact g c = λ p agrees. too_deep_there p c.args.row.now c.args.max_stack c.args.stack.now c.if-stack-row.false (sym c.is_too_deep.ensures ∙ c.if-is_too_deep.true)

pub returns-in_default-clause-exact : goal.returns-in_default-clause-exact
returns-in_default-clause-exact g c =
    λ p agrees. wrong_there p c.args.row.now c.args.max_stack c.args.stack.now c.if-stack-row.false (sym c.is_too_deep.ensures ∙ c.if-is_too_deep.false)
    (sliced p c.args.row.now c.args.stack.now _ (sym (ap (option_map types_given) c.in_default.is) ∙ c.in_ok-given.ensures p agrees))

pub returns-then-is_left-clause-exact : goal.returns-then-is_left-clause-exact
returns-then-is_left-clause-exact g c =
    λ p agrees. left_there p c.args.row.now c.args.max_stack c.args.stack.now (types_given c.in-Some.given) c.if-stack-row.false (sym c.is_too_deep.ensures ∙ c.if-is_too_deep.false)
    (sliced p c.args.row.now c.args.stack.now _ (sym (ap (option_map types_given) c.in-Some.is) ∙ c.in_ok-given.ensures p agrees)) (sym c.is_left.ensures ∙ c.if-is_left.true)

pub returns-then-is_never-clause-exact : goal.returns-then-is_never-clause-exact
returns-then-is_never-clause-exact g c =
    λ p agrees. never_there p c.args.row.now c.args.max_stack c.args.stack.now (types_given c.in-Some.given) c.if-stack-row.false (sym c.is_too_deep.ensures ∙ c.if-is_too_deep.false)
    (sliced p c.args.row.now c.args.stack.now _ (sym (ap (option_map types_given) c.in-Some.is) ∙ c.in_ok-given.ensures p agrees)) (sym c.is_left.ensures ∙ c.if-is_left.false) (sym c.is_never.ensures ∙ c.if-is_never.true)

pub returns-clause-exact : goal.returns-clause-exact
returns-clause-exact g c =
    λ p agrees. given_so p c.args.row.now c.args.max_stack c.args.stack.now (types_given c.in-Some.given) c.if-stack-row.false (sym c.is_too_deep.ensures ∙ c.if-is_too_deep.false)
    (sliced p c.args.row.now c.args.stack.now _ (sym (ap (option_map types_given) c.in-Some.is) ∙ c.in_ok-given.ensures p agrees)) (sym c.is_left.ensures ∙ c.if-is_left.false) (sym c.is_never.ensures ∙ c.if-is_never.false)
