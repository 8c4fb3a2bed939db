use Rattle.std.proofs.Common.{sym, ◌∙◌, arith}
use Rattle.code_order.proofs.PhaseLaws.{phase_kept, phase_broken}
use Rattle.code_order.proofs.order.first_fault.Goals as goal

pub returns-in-Some : goal.returns-in-Some
returns-in-Some c =
    λ judged.
    sym
    (phase_broken c.args.subject.now.world.now c.loop-file.file c.in-Some.fault
    (omega (arith, c.loop-file-test.true, c.files-file-end.ensures.count))
    (sym (c.in_ok-fault.ensures judged) ∙ c.in-Some.is)
    (c.loop-file.invariant judged))

pub returns : goal.returns
returns c =
    λ judged.
    sym
    (phase_kept c.args.subject.now.world.now c.files-file-end.result c.files-file-end.ensures.count
    (λ n below. c.loop-file.invariant judged n (omega (arith, below, c.loop-file-test.false))))
