use Rattle.std.proofs.Common.{take}
use Rattle.std.specs.List.{flat_map}
use Rattle.msspot_write.specs.Parts.{names, signatures, data_bytes}
use Rattle.msspot_write.specs.Gathers.{Grows}
use Rattle.msspot_write.proofs.gather.Gathered.add_row.Given as goal

abbrev pub invariant-loop-column : goal.invariant-loop-column
invariant-loop-column l = Grows l.fn.self l.self (flat_map names (take l.column-index l.row.columns)) (flat_map signatures (take l.column-index l.row.columns)) (flat_map data_bytes (take l.column-index l.row.columns))
