use Rattle.std.proofs.Common.{◌≡◌, ℕ, ◌+◌, length, map, take, List, Some}
use Rattle.std.specs.Prelude.{slice_get}
use Rattle.std.specs.Vec.Iter.{into_iter_items, into_iter_len}
use Rattle.file_tables.specs.Metadata.{rows_of, row_count}
use Rattle.assemblies.specs.Binding.{numbered}
use Rattle.world_rows.specs.Tokens.{type_defs, interface_impls}
use Rattle.member_keys.specs.declared.keys.ClassId.{ClassId}
use Rattle.member_keys.specs.Seen.{class_seen}
use Rattle.class_table.specs.Outlines.{outline_seen}
use Rattle.class_reading.specs.Interfaces.{found_by}
use Rattle.class_reading.specs.Types.{row_outline}
use Rattle.class_reading.proofs.files.read_file.Given as goal

abbrev pub invariant-loop-interfaces : goal.invariant-loop-interfaces
invariant-loop-interfaces l = record {
  count : length l.rows.items + length (into_iter_items l.interfaces-iterator) ≡ row_count l.tables type_defs;
  len : into_iter_len l.interfaces-iterator ≡ length (into_iter_items l.interfaces-iterator);
  rows : map outline_seen l.rows.items ≡ numbered (row_outline l.kinds l.file l.tables) 0 (take (length l.rows.items) (rows_of l.tables type_defs));
  rest : (k : ℕ) (list : List ClassId) → slice_get (map (λ list. list.items) (into_iter_items l.interfaces-iterator)) k ≡ Some list → map class_seen list ≡ found_by l.kinds l.file l.tables (rows_of l.tables interface_impls) (length l.rows.items + k);
}
