use Rattle.std.proofs.Common.{take}
use Rattle.std.specs.Prelude.{slice_index}
use Rattle.std.specs.List.{flat_map}
use Rattle.file_tables.specs.Metadata.{rows_of}
use Rattle.cil_sig.specs.Reading.{whole_locals}
use Rattle.world_rows.specs.Tokens.{locals_signatures, bytes_at}
use Rattle.world_rows.specs.Looked.{named_by_locals}
use Rattle.looked_rows.specs.Looked.{Looks}
use Rattle.looked_rows.proofs.rows.mark_all_locals.Given as goal

abbrev pub invariant-loop-n : goal.invariant-loop-n
invariant-loop-n l = Looks (flat_map (λ row. named_by_locals (whole_locals (bytes_at l.tables (slice_index row 0)))) (take l.n (rows_of l.tables locals_signatures))) l.fn.looked l.looked
