use Rattle.std.proofs.Common.{◌≡◌, map}
use Rattle.member_keys.specs.Seen.{class_seen}
use Rattle.class_queries.specs.Edges.{first_classes}
use Rattle.class_queries.proofs.graph.list_classes.Given as goal

abbrev pub invariant-loop-file : goal.invariant-loop-file
invariant-loop-file l = record { listed : map class_seen l.classes.items ≡ first_classes l.table l.file }
