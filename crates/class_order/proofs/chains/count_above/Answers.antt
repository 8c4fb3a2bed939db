use Rattle.std.proofs.Common.{◌≡◌, ◌∙◌, suc, ◌+◌, ◌-◌, sym, ap, arith}
use Rattle.std.specs.Option.{option_map}
use Rattle.member_keys.specs.Seen.{class_seen}
use Rattle.class_table.specs.Seen.{classes_seen}
use Rattle.class_order.proofs.ChainLaws.{within_up, within_top}
use Rattle.class_order.proofs.chains.count_above.Goals as goal

pub loop-step-preserved : goal.loop-step-preserved
loop-step-preserved c =
    λ n e.
    let up = within_up (classes_seen c.args.table.now) n (class_seen c.loop-step.class) (class_seen c.in-Some.next) (sym c.superclass.ensures ∙ ap (option_map class_seen) c.in-Some.is) in
    let before = c.loop-step.invariant (suc n) (omega (arith, e)) in
    omega (arith, up, before)

pub returns-in-None : goal.returns-in-None
returns-in-None c =
    let n = c.args.table.now.size - c.loop-step.step in
    let left : n + c.loop-step.step ≡ c.args.table.now.size = omega (arith, c.loop-step-test.true) in
    let top = within_top (classes_seen c.args.table.now) n (class_seen c.loop-step.class) (sym c.superclass.ensures ∙ ap (option_map class_seen) c.in-None.is) in
    let before = c.loop-step.invariant n left in
    omega (arith, top, before)

pub returns : goal.returns
returns c =
    let before = c.loop-step.invariant 0 (omega (arith, c.loop-step-test.false, c.loop-step.auto.step-end)) in
    omega (arith, before, c.loop-step-test.false, c.loop-step.auto.step-end)
