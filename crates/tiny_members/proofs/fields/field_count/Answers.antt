use Rattle.tiny_members.proofs.RowLaws.{fields_counted}
use Rattle.tiny_members.proofs.fields.field_count.Goals as goal

pub returns : goal.returns
returns c = fields_counted c.args.image.now c.has_rows.ensures c.rows.result c.rows.ensures
