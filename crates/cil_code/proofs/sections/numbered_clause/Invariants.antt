use Rattle.std.proofs.Common.{◌≡◌, ◌<◌, length}
use Rattle.std.specs.Prelude.{slice_get}
use Rattle.cil_code.specs.Sections.{clauses_in}
use Rattle.cil_code.proofs.sections.numbered_clause.Given as goal

abbrev pub invariant-sections : goal.invariant-sections
invariant-sections l =
    (l.left < length (clauses_in l.rest)) × (slice_get (clauses_in l.rest) l.left ≡ slice_get (clauses_in l.fn.sections) l.fn.k)

abbrev pub decreases-sections : goal.decreases-sections
decreases-sections l = length l.rest
