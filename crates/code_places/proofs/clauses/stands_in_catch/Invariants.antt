use Rattle.std.proofs.Common.{◌≡◌, false, take}
use Rattle.std.specs.List.{list_any}
use Rattle.std.specs.Prelude.{◌&&◌}
use Rattle.classes.specs.Listed.{in_handler, is_catch_kind}
use Rattle.code_places.specs.Clauses.{clause_seen}
use Rattle.code_places.proofs.clauses.stands_in_catch.Given as goal

abbrev pub invariant-loop-clause : goal.invariant-loop-clause
invariant-loop-clause l = list_any (λ c. is_catch_kind (clause_seen c).kind && in_handler (clause_seen c) l.at) (take l.clause-index l.clauses) ≡ false
