use Rattle.std.proofs.Common.{◌≡◌, map, take, drop}
use Rattle.std.specs.List.{filter_map}
use Rattle.member_keys.specs.Seen.{class_seen}
use Rattle.tiny_members.specs.Rows.{interfaces_seen}
use Rattle.set_table.specs.Subject.{class_in}
use Rattle.set_table.proofs.types.read_interfaces.Given as goal

abbrev pub invariant-loop-k : goal.invariant-loop-k
invariant-loop-k l = map class_seen l.found.items ≡ filter_map (class_in l.subject) (take l.k (drop l.fn.range.first (interfaces_seen l.subject.image.now)))
