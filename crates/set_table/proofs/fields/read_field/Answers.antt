use Rattle.set_table.proofs.RowLaws.{field_made}
use Rattle.set_table.proofs.fields.read_field.Goals as goal

pub returns-clause-row : goal.returns-clause-row
returns-clause-row c = field_made c.args.subject.now c.requires.subject c.args.n c.in-Some.of _ c.requires.row c.in-Some.ensures c.field_type.ensures
