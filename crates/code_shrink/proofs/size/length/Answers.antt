use Rattle.std.proofs.Common.{◌-◌, ◌+◌, ◌<◌, length, ap, ◌∙◌, arith}
use Rattle.cil_code.specs.Walk.{code_fault}
use Rattle.short_code.specs.Short.{short_end}
use Rattle.code_shrink.specs.Shrunk.{pieces_of}
use Rattle.code_shrink.proofs.OnSteps.{on_step, summed}
use Rattle.code_shrink.proofs.Walking.{whole_of}
use Rattle.code_shrink.proofs.size.length.Goals as goal

pub walk-init : goal.walk-init
walk-init c =
    record {
      inside = omega arith;
      whole = whole_of c.code-code.result.now (ap code_fault c.code-code.ensures ∙ c.requires);
      small = omega arith;
      total = omega arith;
    }

pub short_size-requires : goal.short_size-requires
short_size-requires c =
    (on_step c.code-code.result.now c.walk.at c.step_at-step.result (λ k. (c.type_inv.code k).fits) c.walk.invariant.whole c.step_at-step.ensures).saves

pub overflow_add-at : goal.overflow_add-at
overflow_add-at c =
    let o = on_step c.code-code.result.now c.walk.at c.step_at-step.result (λ k. (c.type_inv.code k).fits) c.walk.invariant.whole c.step_at-step.ensures in
    record { fits = omega (arith, o.inside, ap length c.code-code.ensures, c.code_size-size.ensures) }

pub walk-smaller : goal.walk-smaller
walk-smaller c =
    let o = on_step c.code-code.result.now c.walk.at c.step_at-step.result (λ k. (c.type_inv.code k).fits) c.walk.invariant.whole c.step_at-step.ensures in
    let less : length c.code-code.result.now - (c.walk.at + c.step_at-step.result.instr.length) < length c.code-code.result.now - c.walk.at = omega (arith, o.some, o.inside) in
    less

pub walk-preserved : goal.walk-preserved
walk-preserved c =
    let o = on_step c.code-code.result.now c.walk.at c.step_at-step.result (λ k. (c.type_inv.code k).fits) c.walk.invariant.whole c.step_at-step.ensures in
    let sum = summed c.code-code.result.now c.walk.at c.step_at-step.result o c.walk.short (short_end (pieces_of c.code-code.result.now)) c.walk.invariant.total in
    record {
      inside = o.inside;
      whole = o.whole;
      small = omega (arith, c.short_size.ensures, c.from-short.ensures, c.walk.invariant.small);
      total = omega (arith, sum, c.short_size.ensures, c.from-short.ensures);
    }
