use Rattle.std.proofs.Common.{take, ◌∷◌, []}
use Rattle.std.specs.Prelude.{slice_index}
use Rattle.std.specs.List.{flat_map}
use Rattle.file_tables.specs.declared.schema.Coded.TheVariants.{TypeDefOrRef}
use Rattle.file_tables.specs.Metadata.{rows_of}
use Rattle.world_rows.specs.Tokens.{interface_impls}
use Rattle.world_rows.specs.Looked.{token_from}
use Rattle.looked_rows.specs.Looked.{Looks}
use Rattle.looked_rows.proofs.rows.mark_interfaces.Given as goal

abbrev pub invariant-loop-n : goal.invariant-loop-n
invariant-loop-n l = Looks (flat_map (λ row. token_from TypeDefOrRef (slice_index row 1) ∷ []) (take l.n (rows_of l.tables interface_impls))) l.fn.looked l.looked
