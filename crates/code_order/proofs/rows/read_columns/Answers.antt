use Rattle.std.proofs.Common.{ap, ◌∙◌}
use Rattle.member_tests.specs.Rows.{def_of}
use Rattle.member_tests.proofs.MethodLaws.{row_read}
use Rattle.code_order.proofs.rows.read_columns.Goals as goal

pub returns : goal.returns
returns c = λ row e. c.read_row.ensures ∙ ap def_of (row_read c.args.tables.now c.args.n row e)
