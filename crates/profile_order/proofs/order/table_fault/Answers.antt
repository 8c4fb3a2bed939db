use Rattle.std.proofs.Common.{sym, ◌∙◌, arith}
use Rattle.profile_order.proofs.OrderLaws.{table_kept, table_broken}
use Rattle.profile_order.proofs.order.table_fault.Goals as goal

pub returns-in-Some : goal.returns-in-Some
returns-in-Some c = sym (table_broken c.args.judge.now.subject.now.world.now c.args.file c.args.table c.loop-n.n c.in-Some.fault (sym c.in_ok-fault.ensures ∙ c.in-Some.is) c.loop-n.invariant)

pub returns : goal.returns
returns c =
    sym
    (table_kept c.args.judge.now.subject.now.world.now c.args.file c.args.table c.count_rows-count.result c.count_rows-count.ensures
    (λ n below. c.loop-n.invariant n (omega (arith, below, c.loop-n-test.false))))
