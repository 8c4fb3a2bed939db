use Rattle.std.proofs.Common.{◌≡◌, ◌-◌, ◌≤◌, length}
use Rattle.cil_code.specs.Walk.{walk_from, fault_behind, code_fault}
use Rattle.cil_code.proofs.walk.first_fault.Given as goal

abbrev pub invariant-walk : goal.invariant-walk
invariant-walk l =
    (l.at ≤ length l.code) × (fault_behind l.reached (walk_from l.code l.at) ≡ code_fault l.code)

abbrev pub decreases-walk : goal.decreases-walk
decreases-walk l = length l.code - l.at
