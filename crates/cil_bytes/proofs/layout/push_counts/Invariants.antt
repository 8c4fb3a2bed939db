use Rattle.std.proofs.Common.{◌≡◌, ◌++◌, take, slice_index}
use Rattle.std.specs.List.{flat_map}
use Rattle.cil_layout.specs.Layout.{four}
use Rattle.cil_layout.specs.declared.rows.TheConstants.{TABLES}
use Rattle.cil_bytes.proofs.layout.push_counts.Given as goal

abbrev pub invariant-loop-table : goal.invariant-loop-table
invariant-loop-table l = l.out.items ≡ l.fn.out.items ++ flat_map (λ t. four (slice_index l.counts t)) (take l.table-index TABLES)
