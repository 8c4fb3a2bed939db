use Rattle.std.proofs.Common.{◌≤◌, ◌-◌, length}
use Rattle.row_rules.specs.Links.{row_at}
use Rattle.body_rules.proofs.CodeLaws.{LeadsOn}
use Rattle.body_rules.proofs.code.keep_lines.Given as goal

abbrev pub invariant-walk : goal.invariant-walk
invariant-walk l = record { inside : l.at ≤ length l.code; leads : LeadsOn (row_at l.place) l.place.file l.tables l.code l.fn.rules l.at l.rules }

abbrev pub decreases-walk : goal.decreases-walk
decreases-walk l = length l.code - l.at
