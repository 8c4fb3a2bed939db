use Rattle.std.proofs.Common.{◌≡◌, true, take}
use Rattle.std.specs.List.{list_all}
use Rattle.classes.specs.Clauses as lie
use Rattle.code_places.specs.Clauses.{clause_seen}
use Rattle.code_places.proofs.clauses.lies_behind.Given as goal

abbrev pub invariant-loop-other : goal.invariant-loop-other
invariant-loop-other l = list_all (λ c. lie.lies_well (clause_seen c) (clause_seen l.clause)) (take l.other-index l.before) ≡ true
