use Rattle.std.proofs.Common.{◌≡◌, ◌++◌, take}
use Rattle.std.specs.List.{flat_map}
use Rattle.cil_layout.specs.Layout.{all_spelled}
use Rattle.cil_layout.specs.declared.rows.TheConstants.{TABLES}
use Rattle.cil_bytes.proofs.tables.push_tables.Given as goal

abbrev pub invariant-loop-table : goal.invariant-loop-table
invariant-loop-table l = l.out.items ≡ l.fn.out.items ++ flat_map (all_spelled l.widths l.source.name.now l.source.version l.source.rows.now) (take l.table-index TABLES)
