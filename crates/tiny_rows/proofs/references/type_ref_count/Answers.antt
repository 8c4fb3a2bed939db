use Rattle.tiny_rows.proofs.RowLaws.{refs_counted}
use Rattle.tiny_rows.proofs.references.type_ref_count.Goals as goal

pub returns : goal.returns
returns c = refs_counted c.args.image.now c.has_rows.ensures c.rows.result c.rows.ensures
