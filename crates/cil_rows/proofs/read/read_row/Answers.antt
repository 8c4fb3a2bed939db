use Rattle.std.proofs.Common.{ap, ◌∙◌}
use Rattle.std.proofs.Math.Path.{fun_ext}
use Rattle.cil_rows.proofs.read.read_row.Goals as goal

pub returns : goal.returns
returns g c = c.from_row.ensures ∙ rw (← c.TABLE.ensures) (ap g.R.TableRow.of_columns (fun_ext c.row.ensures))
