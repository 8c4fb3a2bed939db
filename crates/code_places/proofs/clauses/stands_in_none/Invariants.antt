use Rattle.std.proofs.Common.{◌≡◌, true, take}
use Rattle.std.specs.List.{list_all}
use Rattle.std.specs.Prelude.{◌&&◌, not}
use Rattle.classes.specs.Listed.{in_try, in_handler}
use Rattle.code_places.specs.Clauses.{clause_seen}
use Rattle.code_places.proofs.clauses.stands_in_none.Given as goal

abbrev pub invariant-loop-clause : goal.invariant-loop-clause
invariant-loop-clause l = list_all (λ c. not (in_try (clause_seen c) l.at) && not (in_handler (clause_seen c) l.at)) (take l.clause-index l.clauses) ≡ true
