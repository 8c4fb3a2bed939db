use Rattle.std.proofs.Common.{◌≡◌, ◌∙◌, suc, ◌+◌, ◌-◌, sym, ap, arith}
use Rattle.std.specs.Option.{option_map}
use Rattle.machine.specs.Throw.{on_some}
use Rattle.member_keys.specs.Seen.{class_seen}
use Rattle.class_table.specs.Seen.{classes_seen}
use Rattle.class_order.specs.Order.{climbed}
use Rattle.class_order.proofs.chains.climb.Goals as goal

pub returns-in_err-class : goal.returns-in_err-class
returns-in_err-class c =
    let n = c.args.steps - c.loop-step._step - 1 in
    let left : suc n + c.loop-step._step ≡ c.args.steps = omega (arith, c.loop-step-test.true) in
    ap (option_map class_seen) c.from_residual.ensures
    ∙ sym (ap (λ o. on_some o (climbed n (classes_seen c.args.table.now))) (sym c.superclass.ensures ∙ ap (option_map class_seen) c.in_err-class.was))
    ∙ c.loop-step.invariant (suc n) left

pub loop-step-preserved : goal.loop-step-preserved
loop-step-preserved c =
    λ n e.
    sym (ap (λ o. on_some o (climbed n (classes_seen c.args.table.now))) (sym c.superclass.ensures ∙ ap (option_map class_seen) c.in_ok-class.was))
    ∙ c.loop-step.invariant (suc n) (omega (arith, e))

pub returns : goal.returns
returns c = c.loop-step.invariant 0 (omega (arith, c.loop-step-test.false, c.loop-step.auto._step-end))
