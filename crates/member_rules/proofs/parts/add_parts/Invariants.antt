use Rattle.std.proofs.Common.{take}
use Rattle.kept_rules.specs.Row.{TypeAt}
use Rattle.row_rules.specs.Links.{links_from, Adds}
use Rattle.member_rules.specs.Members.{parts_of}
use Rattle.member_rules.proofs.parts.add_parts.Given as goal

abbrev pub invariant-loop-n : goal.invariant-loop-n
invariant-loop-n l = Adds (links_from (TypeAt l.file) (parts_of l.file l.rows) 0 (take l.n l.rows.classes.items)) l.fn.rules l.rules
