use Rattle.std.proofs.Common.{map, take}
use Rattle.file_tables.specs.Metadata.{rows_of, row_count}
use Rattle.world_rows.specs.Tokens.{interface_impls, type_defs}
use Rattle.image_rows.specs.Types.{AreColumns}
use Rattle.image_rows.proofs.interfaces.interface_columns.Given as goal

abbrev pub invariant-loop-n : goal.invariant-loop-n
invariant-loop-n l = AreColumns (take l.n (rows_of l.tables interface_impls)) (row_count l.tables type_defs) (map (λ list. list.items) l.lists.items)
