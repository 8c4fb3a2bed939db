use Rattle.std.proofs.Common.{◌≤◌, ◌-◌, length}
use Rattle.looked_rows.proofs.CodeLaws.{LeadsOn}
use Rattle.looked_rows.proofs.code.mark_lines.Given as goal

abbrev pub invariant-walk : goal.invariant-walk
invariant-walk l = record { inside : l.at ≤ length l.code; leads : LeadsOn l.code l.fn.looked l.at l.looked }

abbrev pub decreases-walk : goal.decreases-walk
decreases-walk l = length l.code - l.at
