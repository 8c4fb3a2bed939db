use Rattle.std.proofs.Common.{◌-◌, ◌+◌, ◌++◌, ◌<◌, [], List, ℕ, length, ap, ◌∙◌, arith}
use Rattle.cil_opcodes.specs.Rows.{row_of}
use Rattle.image_form.specs.Codes.{instrs_onto, short}
use Rattle.code_shrink.specs.Shrunk.{instrs_in, instrs_from}
use Rattle.code_shrink.specs.Starts.{place_in}
use Rattle.code_shrink.proofs.OnSteps.{on_step, can_parts, written}
use Rattle.code_shrink.proofs.Walking.{rest}
use Rattle.code_shrink.proofs.write.bytes.Goals as goal

pub push_step-requires-clause-can : goal.push_step-requires-clause-can
push_step-requires-clause-can g c =
    let o = on_step c.args.code.now c.walk.at c.step_at-step.result (λ k. (c.type_inv.code k).fits) c.walk.invariant.whole c.step_at-step.ensures in
    (can_parts c.args.code.now c.walk.at c.step_at-step.result o (place_in c.args.starts.now) c.walk.invariant.can).0

pub overflow_add-at : goal.overflow_add-at
overflow_add-at g c =
    let o = on_step c.args.code.now c.walk.at c.step_at-step.result (λ k. (c.type_inv.code k).fits) c.walk.invariant.whole c.step_at-step.ensures in
    record { fits = omega (arith, o.inside, c.requires.small) }

pub walk-smaller : goal.walk-smaller
walk-smaller g c =
    let o = on_step c.args.code.now c.walk.at c.step_at-step.result (λ k. (c.type_inv.code k).fits) c.walk.invariant.whole c.step_at-step.ensures in
    let less : length c.args.code.now - (c.walk.at + c.step_at-step.result.instr.length) < length c.args.code.now - c.walk.at = omega (arith, o.some, o.inside) in
    less

pub walk-preserved : goal.walk-preserved
walk-preserved g c =
    let o = on_step c.args.code.now c.walk.at c.step_at-step.result (λ k. (c.type_inv.code k).fits) c.walk.invariant.whole c.step_at-step.ensures in
    let place = place_in c.args.starts.now in
    let token = g.N.Renumber.numbered c.args.renumber.now in
    let whole = instrs_onto row_of short (instrs_from place token 0 (instrs_in c.args.code.now)) [] in
    let later = instrs_onto row_of short (instrs_from place token (c.walk.at + c.step_at-step.result.instr.length) (rest c.args.code.now (c.walk.at + c.step_at-step.result.instr.length))) [] in
    record {
      inside = o.inside;
      whole = o.whole;
      can = (can_parts c.args.code.now c.walk.at c.step_at-step.result o place c.walk.invariant.can).1;
      all = ap (λ (l : List ℕ). l ++ later) (c.in_ok-push_step.ensures {u = tt}) ∙ written c.args.code.now c.walk.at c.step_at-step.result o place token c.walk.out.items whole c.walk.invariant.all;
    }
