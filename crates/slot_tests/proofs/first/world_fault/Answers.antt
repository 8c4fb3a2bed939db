use Rattle.std.proofs.Common.{sym, ◌∙◌, arith}
use Rattle.slot_tests.proofs.PhaseLaws.{phase_kept, phase_broken}
use Rattle.slot_tests.proofs.first.world_fault.Goals as goal

pub returns-in-Some : goal.returns-in-Some
returns-in-Some c =
    sym
    (phase_broken c.args.subject.now.world.now c.loop-file.file c.in-Some.fault
    (omega (arith, c.loop-file-test.true, c.files-file-end.ensures.count))
    (sym c.in_ok-fault.ensures ∙ c.in-Some.is)
    c.loop-file.invariant)

pub returns : goal.returns
returns c =
    sym
    (phase_kept c.args.subject.now.world.now c.files-file-end.result c.files-file-end.ensures.count
    (λ n below. c.loop-file.invariant n (omega (arith, below, c.loop-file-test.false))))
