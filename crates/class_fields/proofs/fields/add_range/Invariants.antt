use Rattle.std.proofs.Common.{◌≡◌, ℕ, ◌+◌, ◌≤◌, ◌++◌, map}
use Rattle.class_fields.specs.Fields.{instance_seen}
use Rattle.class_fields.proofs.FieldLaws.{instances_from}
use Rattle.class_fields.proofs.fields.add_range.Given as goal

abbrev pub invariant-loop-place : goal.invariant-loop-place
invariant-loop-place l = record {
  low : l.place ≤ l.start + l.count;
  told : (n : ℕ) → n + l.place ≡ l.start + l.count → map instance_seen l.fields.items ++ instances_from l.file l.rows l.place n ≡ map instance_seen l.initial.fields.items ++ instances_from l.file l.rows l.start l.count;
}
