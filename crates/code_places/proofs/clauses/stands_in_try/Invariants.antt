use Rattle.std.proofs.Common.{◌≡◌, false, take}
use Rattle.std.specs.List.{list_any}
use Rattle.classes.specs.Listed.{in_try}
use Rattle.code_places.specs.Clauses.{clause_seen}
use Rattle.code_places.proofs.clauses.stands_in_try.Given as goal

abbrev pub invariant-loop-clause : goal.invariant-loop-clause
invariant-loop-clause l = list_any (λ c. in_try (clause_seen c) l.at) (take l.clause-index l.clauses) ≡ false
