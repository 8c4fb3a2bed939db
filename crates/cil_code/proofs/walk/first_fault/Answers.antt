use Rattle.std.proofs.Common.{sym, ap, ◌∙◌}
use Rattle.cil_code.specs.Walk.{fault_behind}
use Rattle.cil_code.proofs.Walked.{walk_ends, walk_fails, walk_goes}
use Rattle.cil_code.proofs.walk.first_fault.Goals as goal

pub returns-in-Err : goal.returns-in-Err
returns-in-Err c =
    let code = c.args.code.now in
    let fails = walk_fails code c.walk.at c.in-Err.fault c.walk-test.true (sym c.in-Err.ensures.exact) in
    sym (ap (fault_behind c.walk.reached) fails) ∙ c.walk.invariant.1

pub walk-preserved : goal.walk-preserved
walk-preserved c =
    let code = c.args.code.now in
    let goes = walk_goes code c.walk.at c.in-Ok.instr (sym c.in-Ok.ensures.exact) in
    (c.in-Ok.ensures.inside, rw c.told_behind-reached.ensures (sym (ap (fault_behind c.walk.reached) goes) ∙ c.walk.invariant.1))

pub returns : goal.returns
returns c =
    let ends = walk_ends c.args.code.now c.walk.at c.walk-test.false in
    let told = sym (ap (fault_behind c.walk.reached) ends) ∙ c.walk.invariant.1 in
    rw c.in_ok-offset.was at told

pub returns-in_err-offset : goal.returns-in_err-offset
returns-in_err-offset c =
    let ends = walk_ends c.args.code.now c.walk.at c.walk-test.false in
    let told = sym (ap (fault_behind c.walk.reached) ends) ∙ c.walk.invariant.1 in
    rw c.from_residual.ensures (rw c.in_err-offset.was at told)
