use Rattle.std.proofs.Common.{take}
use Rattle.std.specs.Prelude.{slice_index}
use Rattle.std.specs.List.{flat_map}
use Rattle.file_tables.specs.Metadata.{rows_of}
use Rattle.cil_sig.specs.Reading.{whole_field}
use Rattle.world_rows.specs.Tokens.{fields, bytes_at}
use Rattle.world_rows.specs.Looked.{named_by_field}
use Rattle.looked_rows.specs.Looked.{Looks}
use Rattle.looked_rows.proofs.rows.mark_fields.Given as goal

abbrev pub invariant-loop-n : goal.invariant-loop-n
invariant-loop-n l = Looks (flat_map (λ row. named_by_field (whole_field (bytes_at l.tables (slice_index row 2)))) (take l.n (rows_of l.tables fields))) l.fn.looked l.looked
