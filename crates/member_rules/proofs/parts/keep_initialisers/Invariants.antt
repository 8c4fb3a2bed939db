use Rattle.std.proofs.Common.{take}
use Rattle.kept_rules.specs.Row.{MethodAt}
use Rattle.row_rules.specs.Links.{row_at, keeps_each, Adds}
use Rattle.member_rules.specs.Members.{is_initialiser, passing_rows}
use Rattle.member_rules.proofs.parts.keep_initialisers.Given as goal

abbrev pub invariant-loop-n : goal.invariant-loop-n
invariant-loop-n l = Adds (keeps_each (row_at l.place) (passing_rows (MethodAt l.place.file) is_initialiser l.first (take l.n l.methods))) l.fn.rules l.rules
