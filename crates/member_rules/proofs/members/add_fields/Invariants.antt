use Rattle.std.proofs.Common.{take}
use Rattle.class_table.specs.declared.rows.FieldRow.{FieldRow}
use Rattle.kept_rules.specs.Row.{FieldAt, in_option, enclosing_row}
use Rattle.row_rules.specs.Links.{links_from, Adds}
use Rattle.member_rules.proofs.members.add_fields.Given as goal

abbrev pub invariant-loop-n : goal.invariant-loop-n
invariant-loop-n l = Adds (links_from (FieldAt l.file) (λ (y : FieldRow). in_option (enclosing_row l.file) y.owner) 0 (take l.n l.rows.fields.items)) l.fn.rules l.rules
