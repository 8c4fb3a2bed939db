use Rattle.std.proofs.Common.{◌-◌, ◌+◌, ◌<◌, length, sym, ◌∙◌, arith}
use Rattle.code_shrink.specs.Limits.{first_wide}
use Rattle.code_shrink.specs.Shrunk.{instrs_in}
use Rattle.code_shrink.proofs.OnSteps.{on_step, wide_found, wide_none}
use Rattle.code_shrink.proofs.limits.first_wide.Goals as goal

pub too_many-requires : goal.too_many-requires
too_many-requires c =
    (on_step c.args.code.now c.walk.at c.step_at-step.result (λ k. (c.type_inv.code k).fits) c.walk.invariant.whole c.step_at-step.ensures).saves

pub returns-in-Some : goal.returns-in-Some
returns-in-Some c =
    let o = on_step c.args.code.now c.walk.at c.step_at-step.result (λ k. (c.type_inv.code k).fits) c.walk.invariant.whole c.step_at-step.ensures in
    wide_found c.args.code.now c.walk.at c.step_at-step.result o c.in-Some.targets (first_wide (instrs_in c.args.code.now)) c.walk.invariant.none (sym c.in-Some.is ∙ c.too_many.ensures)

pub overflow_add-at : goal.overflow_add-at
overflow_add-at c =
    let o = on_step c.args.code.now c.walk.at c.step_at-step.result (λ k. (c.type_inv.code k).fits) c.walk.invariant.whole c.step_at-step.ensures in
    record { fits = omega (arith, o.inside, c.requires.small) }

pub walk-smaller : goal.walk-smaller
walk-smaller c =
    let o = on_step c.args.code.now c.walk.at c.step_at-step.result (λ k. (c.type_inv.code k).fits) c.walk.invariant.whole c.step_at-step.ensures in
    let less : length c.args.code.now - (c.walk.at + c.step_at-step.result.instr.length) < length c.args.code.now - c.walk.at = omega (arith, o.some, o.inside) in
    less

pub walk-preserved : goal.walk-preserved
walk-preserved c =
    let o = on_step c.args.code.now c.walk.at c.step_at-step.result (λ k. (c.type_inv.code k).fits) c.walk.invariant.whole c.step_at-step.ensures in
    record {
      inside = o.inside;
      whole = o.whole;
      none = wide_none c.args.code.now c.walk.at c.step_at-step.result o (first_wide (instrs_in c.args.code.now)) c.walk.invariant.none (sym c.in_default.is ∙ c.too_many.ensures);
    }
