use Rattle.std.proofs.Common.{◌≡◌, drop, map}
use Rattle.member_keys.specs.Seen.{class_seen}
use Rattle.class_table.specs.Seen.{classes_seen}
use Rattle.class_fields.specs.Fields.{instance_seen}
use Rattle.class_fields.proofs.FieldLaws.{fields_up}
use Rattle.class_fields.proofs.fields.field_list.Given as goal

abbrev pub invariant-loop-place : goal.invariant-loop-place
invariant-loop-place l = map instance_seen l.fields.items ≡ fields_up (classes_seen l.table) (map class_seen (drop l.place l.classes.items))
