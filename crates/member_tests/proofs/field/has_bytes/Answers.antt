use Rattle.member_tests.proofs.FieldLaws.{data_bytes}
use Rattle.member_tests.proofs.field.has_bytes.Goals as goal

pub returns-in-Data : goal.returns-in-Data
returns-in-Data c = data_bytes c.args.field.now.kind c.in-Data.bytes c.is_some.result c.in-Data.is c.is_some.ensures
