use Rattle.std.proofs.Common.{sym, ◌∙◌, arith}
use Rattle.profile_order.proofs.OrderLaws.{phase_kept, phase_broken}
use Rattle.profile_order.proofs.order.phase_fault.Goals as goal

pub returns-in-Some : goal.returns-in-Some
returns-in-Some c =
    sym
    (phase_broken c.args.judge.now.subject.now.world.now c.args.phase c.loop-file.file c.in-Some.fault
    (omega (arith, c.loop-file-test.true, c.files-file-end.ensures.count))
    (sym c.in_ok-fault.ensures ∙ c.in-Some.is)
    c.loop-file.invariant)

pub returns : goal.returns
returns c =
    sym
    (phase_kept c.args.judge.now.subject.now.world.now c.args.phase c.files-file-end.result c.files-file-end.ensures.count
    (λ n below. c.loop-file.invariant n (omega (arith, below, c.loop-file-test.false))))
