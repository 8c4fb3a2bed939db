use Rattle.std.proofs.Common.{◌≡◌, ◌≤◌, length, take}
use Rattle.class_checks.specs.Fields.{instance_rows, last_signature}
use Rattle.class_checks.proofs.values.find_instances.Given as goal

abbrev pub invariant-loop-field : goal.invariant-loop-field
invariant-loop-field l = record {
  count : l.found.count ≡ length (instance_rows (take l.field-index l.fields));
  last : l.found.last ≡ last_signature (instance_rows (take l.field-index l.fields));
  few : l.found.count ≤ l.field-index;
}
