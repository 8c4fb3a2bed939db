use Rattle.std.proofs.Common.{take}
use Rattle.std.specs.Prelude.{slice_index}
use Rattle.std.specs.List.{flat_map}
use Rattle.file_tables.specs.Metadata.{rows_of}
use Rattle.cil_sig.specs.Reading.{whole_method}
use Rattle.world_rows.specs.Tokens.{methods, bytes_at}
use Rattle.world_rows.specs.Looked.{named_by_method}
use Rattle.looked_rows.specs.Looked.{Looks}
use Rattle.looked_rows.proofs.rows.mark_methods.Given as goal

abbrev pub invariant-loop-n : goal.invariant-loop-n
invariant-loop-n l = Looks (flat_map (λ row. named_by_method (whole_method (bytes_at l.tables (slice_index row 4)))) (take l.n (rows_of l.tables methods))) l.fn.looked l.looked
