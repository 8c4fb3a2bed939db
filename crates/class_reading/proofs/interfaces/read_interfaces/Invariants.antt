use Rattle.std.proofs.Common.{◌≡◌, length, map, take}
use Rattle.file_tables.specs.Metadata.{rows_of}
use Rattle.world_rows.specs.Tokens.{interface_impls}
use Rattle.class_reading.specs.Interfaces.{HasInterfaces}
use Rattle.class_reading.proofs.interfaces.read_interfaces.Given as goal

abbrev pub invariant-loop-n : goal.invariant-loop-n
invariant-loop-n l = record {
  size : length l.lists.items ≡ l.count;
  has : HasInterfaces l.names l.file l.tables (take l.n (rows_of l.tables interface_impls)) (map (λ list. list.items) l.lists.items);
}
