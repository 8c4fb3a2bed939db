use Rattle.std.proofs.Common.{◌≡◌, drop}
use Rattle.code_tests.specs.Tests.{clause_keeps, first_wrong}
use Rattle.code_tests.proofs.clauses.clause_wrong.Given as goal

abbrev pub invariant-loop-n : goal.invariant-loop-n
invariant-loop-n l = first_wrong (clause_keeps l.handled l.listing) l.n (drop l.n l.listing.clauses) ≡ first_wrong (clause_keeps l.handled l.listing) 0 l.listing.clauses
