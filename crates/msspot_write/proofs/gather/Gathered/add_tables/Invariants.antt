use Rattle.std.proofs.Common.{take}
use Rattle.std.specs.List.{flat_map}
use Rattle.msspot_write.specs.Parts.{rows_of, tables, in_rows, names, signatures, data_bytes}
use Rattle.msspot_write.specs.Gathers.{Grows}
use Rattle.msspot_write.proofs.gather.Gathered.add_tables.Given as goal

abbrev pub invariant-loop-table : goal.invariant-loop-table
invariant-loop-table l = Grows l.fn.self l.self (flat_map (λ t. in_rows names (rows_of l.parts t)) (take l.table-index tables)) (flat_map (λ t. in_rows signatures (rows_of l.parts t)) (take l.table-index tables)) (flat_map (λ t. in_rows data_bytes (rows_of l.parts t)) (take l.table-index tables))
