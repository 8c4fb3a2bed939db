use Rattle.std.proofs.Common.{take}
use Rattle.code_places.specs.Marks.{Marks}
use Rattle.code_places.specs.Places.{targets_at}
use Rattle.code_places.proofs.targets.mark_targets.Given as goal

abbrev pub invariant-loop-k : goal.invariant-loop-k
invariant-loop-k l = Marks (take l.k (targets_at l.code (record { at = l.at; instr = l.instr }))) l.fn.targets l.targets
