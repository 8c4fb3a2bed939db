use Rattle.std.proofs.Common.{take}
use Rattle.classes.specs.Classes.{Classes}
use Rattle.kept_rules.specs.Row.{MethodAt}
use Rattle.row_rules.specs.Links.{links_from, Adds}
use Rattle.member_rules.specs.Members.{kept_by_method}
use Rattle.member_rules.specs.Thrown.{IsThrown}
use Rattle.member_rules.proofs.members.add_methods.Given as goal

abbrev pub invariant-loop-n : goal.invariant-loop-n
invariant-loop-n l = (cs : Classes) → IsThrown cs l.thrown → Adds (links_from (MethodAt l.file) (kept_by_method cs l.file) 0 (take l.n l.rows.methods.items)) l.fn.rules l.rules
