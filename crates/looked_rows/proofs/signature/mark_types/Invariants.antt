use Rattle.std.proofs.Common.{take}
use Rattle.world_rows.specs.Looked.{named_by_types}
use Rattle.looked_rows.specs.Looked.{Looks}
use Rattle.looked_rows.proofs.signature.mark_types.Given as goal

abbrev pub invariant-loop-of : goal.invariant-loop-of
invariant-loop-of l = Looks (named_by_types (take l.of-index l.types)) l.fn.looked l.looked
