use Rattle.std.proofs.Common.{arith}
use Rattle.cil_layout.proofs.Sizes.{reach_after}
use Rattle.cil_bytes.proofs.tables.next_places.Goals as goal

pub overflow_add-result : goal.overflow_add-result
overflow_add-result c = omega (arith, reach_after c.args.at c.args.row.now, c.strings_len.ensures)
