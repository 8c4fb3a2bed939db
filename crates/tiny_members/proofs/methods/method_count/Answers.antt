use Rattle.tiny_members.proofs.RowLaws.{methods_counted}
use Rattle.tiny_members.proofs.methods.method_count.Goals as goal

pub returns : goal.returns
returns c = methods_counted c.args.image.now c.has_rows.ensures c.rows.result c.rows.ensures
