use Rattle.tiny_rows.proofs.RowLaws.{assemblies_counted}
use Rattle.tiny_rows.proofs.assembly.assembly_ref_count.Goals as goal

pub returns : goal.returns
returns c = assemblies_counted c.args.image.now c.has_rows.ensures c.rows.result c.rows.ensures
