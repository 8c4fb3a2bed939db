use Rattle.profile_order.specs.declared.tables.ProfileTable.TheVariants.{InterfaceImpls}
use Rattle.profile_order.proofs.OrderLaws.{row_by}
use Rattle.profile_order.proofs.rows.interface_row.Goals as goal

pub returns : goal.returns
returns c = row_by c.args.judge.now.subject.now.world.now c.args.file InterfaceImpls c.args.n _ c.requires.row.file_there (λ x e. c.interface_fault.ensures x e)
