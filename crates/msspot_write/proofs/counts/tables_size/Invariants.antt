use Rattle.std.proofs.Common.{◌≡◌, ◌+◌, drop}
use Rattle.image_bytes.specs.Layout.{widths, total}
use Rattle.msspot_write.proofs.counts.tables_size.Given as goal

abbrev pub invariant-loop-table : goal.invariant-loop-table
invariant-loop-table l = l.size + total (drop l.table widths) (drop l.table l.rows) ≡ total widths l.rows
