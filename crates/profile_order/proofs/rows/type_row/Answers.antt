use Rattle.profile_order.specs.declared.tables.ProfileTable.TheVariants.{TypeDefs}
use Rattle.profile_order.proofs.OrderLaws.{row_by}
use Rattle.profile_order.proofs.rows.type_row.Goals as goal

pub returns : goal.returns
returns c = row_by c.args.judge.now.subject.now.world.now c.args.file TypeDefs c.args.n _ c.requires.row.file_there (λ x e. c.type_fault.ensures x e)
