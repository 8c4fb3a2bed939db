use Rattle.std.proofs.Common.{◌≡◌, ◌∙◌, suc, ◌+◌, ◌-◌, sym, ap, arith}
use Rattle.std.specs.Option.{option_map}
use Rattle.member_keys.specs.Seen.{class_seen}
use Rattle.class_table.specs.Seen.{classes_seen}
use Rattle.class_queries.proofs.SubLaws.{reach_here, reach_up, reach_top}
use Rattle.class_queries.proofs.below.is_sub.Goals as goal

pub returns-then-is_same : goal.returns-then-is_same
returns-then-is_same c =
    let left : c.args.table.now.size - c.loop-step._step + c.loop-step._step ≡ c.args.table.now.size = omega (arith, c.loop-step-test.true) in
    sym
    (reach_here (classes_seen c.args.table.now) (class_seen c.loop-step.class) (class_seen c.args.other) (c.args.table.now.size - c.loop-step._step) (sym c.is_same.ensures ∙ c.if-is_same.true))
    ∙ c.loop-step.invariant (c.args.table.now.size - c.loop-step._step) left

pub returns-in-None : goal.returns-in-None
returns-in-None c =
    let left : c.args.table.now.size - c.loop-step._step + c.loop-step._step ≡ c.args.table.now.size = omega (arith, c.loop-step-test.true) in
    sym
    (reach_top (classes_seen c.args.table.now) (class_seen c.loop-step.class) (class_seen c.args.other) (c.args.table.now.size - c.loop-step._step) (sym c.is_same.ensures ∙ c.if-is_same.false) (sym c.superclass.ensures ∙ ap (option_map class_seen) c.in-None.is))
    ∙ c.loop-step.invariant (c.args.table.now.size - c.loop-step._step) left

pub loop-step-preserved : goal.loop-step-preserved
loop-step-preserved c =
    λ n e.
    sym
    (reach_up (classes_seen c.args.table.now) (class_seen c.loop-step.class) (class_seen c.args.other) n (class_seen c.in-Some.next) (sym c.is_same.ensures ∙ c.if-is_same.false) (sym c.superclass.ensures ∙ ap (option_map class_seen) c.in-Some.is))
    ∙ c.loop-step.invariant (suc n) (omega (arith, e))

pub returns : goal.returns
returns c = c.is_same-2.ensures ∙ c.loop-step.invariant 0 (omega (arith, c.loop-step-test.false, c.loop-step.auto._step-end))
