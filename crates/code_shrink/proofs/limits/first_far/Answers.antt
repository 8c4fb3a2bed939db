use Rattle.std.proofs.Common.{◌-◌, ◌+◌, ◌<◌, length, sym, ap, ◌∙◌, arith, rules}
use Rattle.std.specs.Prelude.{ℤ, Some, FitsSigned}
use Rattle.std.specs.Int.{w64}
use Rattle.std.proofs.lemmas.Int.{to_z-of_z}
use Rattle.code_shrink.specs.Limits.{far_from}
use Rattle.code_shrink.specs.Shrunk.{instrs_in}
use Rattle.code_shrink.specs.Starts.{place_in}
use Rattle.code_shrink.proofs.OnSteps.{on_step, near_parts, far_found, far_none}
use Rattle.code_shrink.proofs.limits.first_far.Goals as goal

pub far_of-requires-clause-near : goal.far_of-requires-clause-near
far_of-requires-clause-near c =
    let o = on_step c.args.code.now c.walk.at c.step_at-step.result (λ k. (c.type_inv.code k).fits) c.walk.invariant.whole c.step_at-step.ensures in
    (near_parts c.args.code.now c.walk.at c.step_at-step.result o c.walk.invariant.near).0

pub returns-in-Some : goal.returns-in-Some
returns-in-Some c =
    let o = on_step c.args.code.now c.walk.at c.step_at-step.result (λ k. (c.type_inv.code k).fits) c.walk.invariant.whole c.step_at-step.ensures in
    let place = place_in c.args.starts.now in
    let fd : FitsSigned w64 c.in-Some.distance = search rules in
    ap (λ (z : ℤ). Some z) (to_z-of_z w64 c.in-Some.distance fd)
    ∙ far_found c.args.code.now c.walk.at c.step_at-step.result o place c.in-Some.distance (far_from place 0 (instrs_in c.args.code.now)) c.walk.invariant.none (sym c.in-Some.is ∙ c.far_of.ensures)

pub overflow_add-at : goal.overflow_add-at
overflow_add-at c =
    let o = on_step c.args.code.now c.walk.at c.step_at-step.result (λ k. (c.type_inv.code k).fits) c.walk.invariant.whole c.step_at-step.ensures in
    record { fits = omega (arith, o.inside, c.requires.small) }

pub walk-smaller : goal.walk-smaller
walk-smaller c =
    let o = on_step c.args.code.now c.walk.at c.step_at-step.result (λ k. (c.type_inv.code k).fits) c.walk.invariant.whole c.step_at-step.ensures in
    let less : length c.args.code.now - (c.walk.at + c.step_at-step.result.instr.length) < length c.args.code.now - c.walk.at = omega (arith, o.some, o.inside) in
    less

pub walk-preserved : goal.walk-preserved
walk-preserved c =
    let o = on_step c.args.code.now c.walk.at c.step_at-step.result (λ k. (c.type_inv.code k).fits) c.walk.invariant.whole c.step_at-step.ensures in
    let place = place_in c.args.starts.now in
    record {
      inside = o.inside;
      whole = o.whole;
      near = (near_parts c.args.code.now c.walk.at c.step_at-step.result o c.walk.invariant.near).1;
      none = far_none c.args.code.now c.walk.at c.step_at-step.result o place (far_from place 0 (instrs_in c.args.code.now)) c.walk.invariant.none (sym c.in_default.is ∙ c.far_of.ensures);
    }
