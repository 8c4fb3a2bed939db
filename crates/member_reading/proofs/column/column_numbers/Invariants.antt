use Rattle.std.proofs.Common.{◌≡◌, map, take, slice_index, length}
use Rattle.file_tables.specs.Metadata.{rows_of}
use Rattle.member_reading.proofs.column.column_numbers.Given as goal

abbrev pub invariant-loop-n : goal.invariant-loop-n
invariant-loop-n l = record { numbers : l.numbers.items ≡ map (λ row. slice_index row l.column) (take l.n (rows_of l.tables l.table)); count : length l.numbers.items ≡ l.n }
