use Rattle.signature_tests.proofs.RowLaws.{own_fits, no_field}
use Rattle.signature_tests.proofs.rows.field_fits.Goals as goal

pub returns-in-Some : goal.returns-in-Some
returns-in-Some c =
    own_fits c.args.subject.now.world.now c.args.file c.args.n c.args.subject.now.setting.table.now c.requires.subject.table c.requires.file c.in-Some.field.now c.field_signature_fits.result c.in-Some.ensures (c.field_signature_fits.ensures c.args.file c.args.n)

pub returns-in-None : goal.returns-in-None
returns-in-None c = no_field c.args.subject.now.world.now c.args.file c.args.n c.args.subject.now.setting.table.now c.requires.subject.table c.requires.file c.in-None.ensures
