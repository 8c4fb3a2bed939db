use Rattle.set_table.proofs.RowLaws.{method_made}
use Rattle.set_table.proofs.methods.read_method.Goals as goal

pub returns-clause-row : goal.returns-clause-row
returns-clause-row c = method_made c.args.subject.now c.requires.subject c.args.n c.in-Some.of _ c.requires.row c.in-Some.ensures c.in_ok-signature.ensures
