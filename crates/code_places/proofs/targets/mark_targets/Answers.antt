use Rattle.std.proofs.Common.{◌≤◌, length, arith}
use Rattle.cil_code.specs.Walk.{Placed}
use Rattle.code_places.specs.Places.{targets_at}
use Rattle.code_places.proofs.MarkLaws.{marks_none, marks_more, marks_done}
use Rattle.code_places.proofs.targets.mark_targets.Goals as goal

pub loop-k-init : goal.loop-k-init
loop-k-init c = marks_none _

pub target-requires-clause-counted : goal.target-requires-clause-counted
target-requires-clause-counted c = let n = c.target_count-k-end.ensures c.args.code.now c.args.at in omega (arith, n, c.loop-k-test.true)

pub loop-k-preserved : goal.loop-k-preserved
loop-k-preserved c = marks_more _ c.loop-k.k c.target.result _ _ _ c.target.ensures c.loop-k.invariant c.insert.ensures

pub returns : goal.returns
returns c =
    let p : Placed = record { at = c.args.at; instr = c.args.instr.now } in
    let n = c.target_count-k-end.ensures c.args.code.now c.args.at in
    let past : length (targets_at c.args.code.now p) ≤ c.loop-k.k = omega (arith, n, c.loop-k-test.false) in
    marks_done (targets_at c.args.code.now p) c.loop-k.k _ _ past c.loop-k.invariant
