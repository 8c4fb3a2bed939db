use Rattle.std.proofs.Common.{get_or, arith}
use Rattle.cil_layout.specs.Layout.{four}
use Rattle.cil_layout.specs.declared.rows.TheConstants.{TABLES}
use Rattle.cil_bytes.proofs.Pieces.{grown_at}
use Rattle.cil_bytes.proofs.layout.push_counts.Goals as goal

pub loop-table-preserved : goal.loop-table-preserved
loop-table-preserved c = grown_at (λ t. four (get_or c.args.counts.now t 0)) c.args.out.now.items TABLES c.loop-table.table-index 0 c.push_four.new.out.items c.loop-table.out.items (omega arith) c.loop-table.invariant c.in_ok-push_four.ensures
