use Rattle.std.proofs.Common.{◌≡◌, Some, map, take, length, slice_get}
use Rattle.file_tables.specs.Metadata.{rows_of}
use Rattle.file_tables.specs.File.{FilePart}
use Rattle.assemblies.specs.Binding.{id_at, numbered, own_method}
use Rattle.world_rows.specs.Tokens.{methods}
use Rattle.world_rows.specs.Rows.{method_row}
use Rattle.world_rows.specs.Natives.{body_of_native}
use Rattle.world_rows.specs.World.{rows_alone, assemblies_of}
use Rattle.class_table.specs.Seen.{method_seen}
use Rattle.member_reading.specs.Meant.{scopes}
use Rattle.member_reading.proofs.method.read_methods.Given as goal

abbrev pub invariant-loop-n : goal.invariant-loop-n
invariant-loop-n l = record {
  count : length l.rows.items ≡ l.n;
  rows : (f : FilePart) → slice_get l.types.names.now l.file ≡ Some f → numbered (method_seen l.file) 0 l.rows.items
      ≡ numbered (λ n row. own_method (scopes l.types.names.now) (assemblies_of l.types.names.now) l.file n (method_row f (λ k. body_of_native (scopes l.types.names.now) (rows_alone l.types.names.now) (id_at l.file k)) n row)) 0 (take l.n (rows_of f.metadata methods));
  owners : map (λ row. row.owner) l.rows.items ≡ take l.n l.owners.items;
}
