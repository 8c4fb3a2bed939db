use Rattle.std.proofs.Common.{arith}
use Rattle.cil_layout.specs.Layout.{all_spelled}
use Rattle.cil_layout.specs.declared.rows.TheConstants.{TABLES}
use Rattle.cil_bytes.proofs.Pieces.{grown_at}
use Rattle.cil_bytes.proofs.tables.push_tables.Goals as goal

pub loop-table-preserved : goal.loop-table-preserved
loop-table-preserved c = grown_at (all_spelled c.args.widths c.args.source.name.now c.args.source.version c.args.source.rows.now) c.args.out.now.items TABLES c.loop-table.table-index 0 c.push_table.new.out.items c.loop-table.out.items (omega arith) c.loop-table.invariant c.in_ok-push_table.ensures
