use Rattle.std.proofs.Common.{◌≡◌, ◌++◌, length}
use Rattle.cil_code.specs.Sections.{clauses_in}
use Rattle.cil_code.proofs.sections.all_clauses.Given as goal

abbrev pub invariant-sections : goal.invariant-sections
invariant-sections l =
    (l.left ≡ length (clauses_in l.rest)) × (l.all.items ++ clauses_in l.rest ≡ clauses_in l.fn.sections)

abbrev pub decreases-sections : goal.decreases-sections
decreases-sections l = length l.rest
