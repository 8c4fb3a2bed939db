use Rattle.std.proofs.Common.{take, ◌≡◌}
use Rattle.std.specs.Prelude.{slice_index}
use Rattle.std.specs.List.{flat_map}
use Rattle.file_tables.specs.Metadata.{rows_of}
use Rattle.world_rows.specs.Tokens.{methods}
use Rattle.world_rows.specs.Lines.{body_part}
use Rattle.world_rows.specs.Looked.{named_by_body}
use Rattle.looked_rows.specs.Looked.{Looks, file_with}
use Rattle.looked_rows.proofs.rows.mark_bodies.Given as goal

abbrev pub invariant-loop-n : goal.invariant-loop-n
invariant-loop-n l = record { same : l.sections ≡ l.pe; looks : Looks (flat_map (λ row. named_by_body (body_part (file_with l.pe l.tables) (slice_index row 0))) (take l.n (rows_of l.tables methods))) l.fn.looked l.looked }
