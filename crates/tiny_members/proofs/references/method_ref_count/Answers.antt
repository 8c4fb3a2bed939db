use Rattle.tiny_members.proofs.RowLaws.{method_refs_counted}
use Rattle.tiny_members.proofs.references.method_ref_count.Goals as goal

pub returns : goal.returns
returns c = method_refs_counted c.args.image.now c.has_rows.ensures c.rows.result c.rows.ensures
