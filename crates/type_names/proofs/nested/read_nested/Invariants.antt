use Rattle.std.proofs.Common.{◌≡◌, map, take, slice_index, length}
use Rattle.file_tables.specs.Metadata.{rows_of}
use Rattle.world_rows.specs.Tokens.{nested_classes}
use Rattle.type_names.proofs.nested.read_nested.Given as goal

abbrev pub invariant-loop-n : goal.invariant-loop-n
invariant-loop-n l = record { types : l.types.items ≡ map (λ row. slice_index row 0) (take l.n (rows_of l.tables nested_classes)); count : length l.types.items ≡ l.n }
