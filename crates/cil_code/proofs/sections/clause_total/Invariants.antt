use Rattle.std.proofs.Common.{◌≡◌, ◌+◌, ◌*◌, ◌≤◌, length}
use Rattle.cil_code.proofs.Unrolled.{count_behind}
use Rattle.cil_code.proofs.sections.clause_total.Given as goal

abbrev pub invariant-sections : goal.invariant-sections
invariant-sections l =
    (count_behind l.total l.rest ≡ count_behind 0 l.fn.sections) × (12 * l.total + length l.rest ≤ length l.fn.sections)

abbrev pub decreases-sections : goal.decreases-sections
decreases-sections l = length l.rest
