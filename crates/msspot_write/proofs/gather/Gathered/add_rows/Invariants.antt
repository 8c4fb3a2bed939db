use Rattle.std.proofs.Common.{take}
use Rattle.std.specs.List.{flat_map}
use Rattle.msspot_write.specs.Parts.{in_row, names, signatures, data_bytes}
use Rattle.msspot_write.specs.Gathers.{Grows}
use Rattle.msspot_write.proofs.gather.Gathered.add_rows.Given as goal

abbrev pub invariant-loop-row : goal.invariant-loop-row
invariant-loop-row l = Grows l.fn.self l.self (flat_map (in_row names) (take l.row-index l.rows)) (flat_map (in_row signatures) (take l.row-index l.rows)) (flat_map (in_row data_bytes) (take l.row-index l.rows))
