use Rattle.std.proofs.Common.{sym, ◌∙◌, arith}
use Rattle.slot_tests.proofs.PhaseLaws.{file_kept, file_broken}
use Rattle.slot_tests.proofs.first.file_fault.Goals as goal

pub returns-in-Some : goal.returns-in-Some
returns-in-Some c =
    sym
    (file_broken c.args.subject.now.world.now c.args.file c.loop-n.n c.in-Some.fault c.requires.file
    (omega (arith, c.loop-n-test.true, c.count_types-count.ensures))
    (sym c.in_ok-fault.ensures ∙ c.in-Some.is)
    c.loop-n.invariant)

pub returns : goal.returns
returns c =
    sym
    (file_kept c.args.subject.now.world.now c.args.file c.requires.file
    (λ n below. c.loop-n.invariant n (omega (arith, below, c.loop-n-test.false, c.count_types-count.ensures))))
