use Rattle.std.proofs.Common.{take}
use Rattle.std.specs.List.{flat_map}
use Rattle.world_rows.specs.Looked.{named_by_clause}
use Rattle.looked_rows.specs.Looked.{Looks}
use Rattle.looked_rows.proofs.code.mark_clauses.Given as goal

abbrev pub invariant-loop-clause : goal.invariant-loop-clause
invariant-loop-clause l = Looks (flat_map named_by_clause (take l.clause-index l.clauses)) l.fn.looked l.looked
