use Rattle.std.proofs.Common.{◌≡◌, true, false, take}
use Rattle.std.specs.Prelude.{slice_index_or}
use Rattle.std.specs.List.{list_all}
use Rattle.code_places.specs.Places.{targets_at}
use Rattle.code_places.proofs.targets.targets_stand.Given as goal

abbrev pub invariant-loop-k : goal.invariant-loop-k
invariant-loop-k l = list_all (λ place. slice_index_or l.starts place false) (take l.k (targets_at l.code (record { at = l.at; instr = l.instr }))) ≡ true
