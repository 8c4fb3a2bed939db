use Rattle.std.proofs.Common.{sym, ◌∙◌, arith}
use Rattle.code_order.proofs.PhaseLaws.{file_kept, file_broken}
use Rattle.code_order.proofs.order.file_fault.Goals as goal

pub returns-in-Some : goal.returns-in-Some
returns-in-Some c =
    λ judged.
    sym
    (file_broken c.args.judge.now.subject.now.world.now c.args.file c.loop-n.n c.in-Some.fault c.requires.file
    (omega (arith, c.loop-n-test.true, c.count_methods-count.ensures))
    (sym (c.in_ok-fault.ensures.told judged) ∙ c.in-Some.is)
    (c.loop-n.invariant.kept judged))

pub returns : goal.returns
returns c =
    λ judged.
    sym
    (file_kept c.args.judge.now.subject.now.world.now c.args.file c.requires.file
    (λ n below. c.loop-n.invariant.kept judged n (omega (arith, below, c.loop-n-test.false, c.count_methods-count.ensures))))
