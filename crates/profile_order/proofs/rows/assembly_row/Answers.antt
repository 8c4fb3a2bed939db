use Rattle.profile_order.specs.declared.tables.ProfileTable.TheVariants.{Assemblies}
use Rattle.profile_order.proofs.OrderLaws.{row_by}
use Rattle.profile_order.proofs.rows.assembly_row.Goals as goal

pub returns : goal.returns
returns c = row_by c.args.judge.now.subject.now.world.now c.args.file Assemblies c.args.n _ c.requires.row.file_there (λ x e. c.assembly_fault.ensures x e)
