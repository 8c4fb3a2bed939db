use Rattle.std.proofs.Common.{take}
use Rattle.class_table.specs.declared.rows.ClassRow.{ClassRow}
use Rattle.kept_rules.specs.Row.{TypeAt, in_option, enclosing_row}
use Rattle.row_rules.specs.Links.{links_from, Adds}
use Rattle.member_rules.proofs.nesting.add_enclosing.Given as goal

abbrev pub invariant-loop-n : goal.invariant-loop-n
invariant-loop-n l = Adds (links_from (TypeAt l.file) (λ (k : ClassRow). in_option (enclosing_row l.file) k.enclosing) 0 (take l.n l.rows.classes.items)) l.fn.rules l.rules
