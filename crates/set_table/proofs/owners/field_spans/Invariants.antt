use Rattle.std.proofs.Common.{◌≡◌, map, take}
use Rattle.set_table.specs.Subject.{field_span}
use Rattle.set_table.proofs.owners.field_spans.Given as goal

abbrev pub invariant-loop-row : goal.invariant-loop-row
invariant-loop-row l = l.spans.items ≡ map field_span (take l.row-index l.classes)
