use Rattle.std.proofs.Common.{◌≡◌, ◌+◌, ◌≤◌, map}
use Rattle.std.specs.List.{range_with_len}
use Rattle.body_rules.specs.References.{fields_before}
use Rattle.body_rules.proofs.references.count_fields.Given as goal

abbrev pub invariant-loop-n : goal.invariant-loop-n
invariant-loop-n l = record {
  counted : l.count ≡ fields_before l.tables l.n;
  few : l.count ≤ l.n;
  made : l.counts.items ≡ map (fields_before l.tables) (range_with_len 0 (l.n + 1));
}
