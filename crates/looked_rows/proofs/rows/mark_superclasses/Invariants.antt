use Rattle.std.proofs.Common.{take}
use Rattle.std.specs.Prelude.{slice_index}
use Rattle.std.specs.List.{flat_map}
use Rattle.file_tables.specs.Metadata.{rows_of}
use Rattle.world_rows.specs.Tokens.{type_defs}
use Rattle.world_rows.specs.Looked.{named_by_extends}
use Rattle.looked_rows.specs.Looked.{Looks}
use Rattle.looked_rows.proofs.rows.mark_superclasses.Given as goal

abbrev pub invariant-loop-n : goal.invariant-loop-n
invariant-loop-n l = Looks (flat_map (λ row. named_by_extends (slice_index row 3)) (take l.n (rows_of l.tables type_defs))) l.fn.looked l.looked
