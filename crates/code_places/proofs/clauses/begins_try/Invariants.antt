use Rattle.std.proofs.Common.{◌≡◌, false, nat_eq, take}
use Rattle.std.specs.List.{list_any}
use Rattle.cil_code.specs.declared.clause.Clause.{Clause}
use Rattle.code_places.proofs.clauses.begins_try.Given as goal

abbrev pub invariant-loop-clause : goal.invariant-loop-clause
invariant-loop-clause l = list_any (λ (c : Clause). nat_eq c.try_start l.at) (take l.clause-index l.clauses) ≡ false
