use Rattle.std.proofs.Common.{sym, ◌∙◌, arith}
use Rattle.profile_order.proofs.OrderLaws.{tables_kept, tables_broken, tables_more}
use Rattle.profile_order.proofs.order.tables_fault.Goals as goal

pub returns-in-Some : goal.returns-in-Some
returns-in-Some c = sym (tables_broken c.args.judge.now.subject.now.world.now c.args.file c.args.tables.now c.loop-table.table-index _ c.in-Some.fault c.loop-table-test.true (sym c.in_ok-fault.ensures ∙ c.in-Some.is) c.loop-table.invariant)

pub loop-table-preserved : goal.loop-table-preserved
loop-table-preserved c = tables_more c.args.judge.now.subject.now.world.now c.args.file c.args.tables.now c.loop-table.table-index _ c.loop-table-test.true (sym c.in_ok-fault.ensures ∙ c.in-None.is) c.loop-table.invariant

pub returns : goal.returns
returns c = sym (tables_kept c.args.judge.now.subject.now.world.now c.args.file c.args.tables.now c.loop-table.table-index c.loop-table-test.false c.loop-table.invariant)
