use Rattle.std.proofs.Common.{◌≡◌, ℕ, Some, [], map, take, length}
use Rattle.std.specs.Prelude.{slice_get, unwrap_or}
use Rattle.file_tables.specs.Metadata.{rows_of}
use Rattle.assemblies.specs.Binding.{id_at, numbered, own_field}
use Rattle.world_rows.specs.Tokens.{fields}
use Rattle.world_rows.specs.Rows.{field_row}
use Rattle.world_rows.specs.Kinds.{data_of}
use Rattle.world_rows.specs.World.{rows_alone, assemblies_of}
use Rattle.class_table.specs.declared.rows.FieldRow.{FieldRow}
use Rattle.class_table.specs.Seen.{field_seen}
use Rattle.class_table.specs.Whole.{HasData}
use Rattle.member_reading.specs.Meant.{scopes}
use Rattle.member_reading.proofs.field.read_fields.Given as goal

abbrev pub invariant-loop-n : goal.invariant-loop-n
invariant-loop-n l = record {
  count : length l.rows.items ≡ l.n;
  rows : numbered (field_seen l.file) 0 l.rows.items
      ≡ numbered (λ n row. own_field (scopes l.types.names.now) (assemblies_of l.types.names.now) l.file n (field_row l.tables (λ k. unwrap_or (data_of (scopes l.types.names.now) l.types.names.now (rows_alone l.types.names.now) (id_at l.file k)) []) n row)) 0 (take l.n (rows_of l.tables fields));
  bytes : (k : ℕ) (row : FieldRow) → slice_get l.rows.items k ≡ Some row → HasData row.kind (data_of (scopes l.types.names.now) l.types.names.now (rows_alone l.types.names.now) (id_at l.file k));
  owners : map (λ row. row.owner) l.rows.items ≡ take l.n l.owners.items;
}
