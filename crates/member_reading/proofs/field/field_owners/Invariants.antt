use Rattle.std.proofs.Common.{◌≡◌, map, take}
use Rattle.member_reading.specs.Members.{field_span}
use Rattle.member_reading.proofs.field.field_owners.Given as goal

abbrev pub invariant-loop-row : goal.invariant-loop-row
invariant-loop-row l = l.spans.items ≡ map field_span (take l.row-index l.row-items)
