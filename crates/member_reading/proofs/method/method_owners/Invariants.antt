use Rattle.std.proofs.Common.{◌≡◌, map, take}
use Rattle.member_reading.specs.Members.{method_span}
use Rattle.member_reading.proofs.method.method_owners.Given as goal

abbrev pub invariant-loop-row : goal.invariant-loop-row
invariant-loop-row l = l.spans.items ≡ map method_span (take l.row-index l.row-items)
