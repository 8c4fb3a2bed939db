use Rattle.std.proofs.Common.{◌≡◌, true, take}
use Rattle.std.specs.List.{list_all}
use Rattle.classes.specs.Clauses as lie
use Rattle.code_places.specs.Clauses.{clause_seen}
use Rattle.code_places.proofs.clauses.all_let.Given as goal

abbrev pub invariant-loop-clause : goal.invariant-loop-clause
invariant-loop-clause l = list_all (λ c. lie.clause_lets l.from l.to (clause_seen c)) (take l.clause-index l.clauses) ≡ true
