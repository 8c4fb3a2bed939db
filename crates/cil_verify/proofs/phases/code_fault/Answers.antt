use Rattle.std.proofs.Common.{arith}
use Rattle.cil_verify.proofs.OrderLaws.{table_in_order}
use Rattle.cil_verify.proofs.phases.code_fault.Goals as goal

pub order_of-order-requires-clause-few : goal.order_of-order-requires-clause-few
order_of-order-requires-clause-few c = omega (arith, c.requires.subject.setting.above.numbers.few)

pub order_of-order-requires-clause-order : goal.order_of-order-requires-clause-order
order_of-order-requires-clause-order c =
    table_in_order c.args.subject.now.world.now c.requires.profile (omega (arith, c.files-base.ensures.base, c.files-base.ensures.count)) c.args.subject.now.setting.table.now c.requires.subject.table
