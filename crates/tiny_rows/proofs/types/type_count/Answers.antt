use Rattle.tiny_rows.proofs.RowLaws.{types_counted}
use Rattle.tiny_rows.proofs.types.type_count.Goals as goal

pub returns : goal.returns
returns c = types_counted c.args.image.now c.has_rows.ensures c.rows.result c.rows.ensures
