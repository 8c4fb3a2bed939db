use Rattle.std.proofs.Common.{◌≡◌, ◌++◌, map}
use Rattle.member_keys.specs.Seen.{class_seen}
use Rattle.class_queries.specs.Edges.{file_classes}
use Rattle.class_queries.proofs.graph.list_file.Given as goal

abbrev pub invariant-loop-row : goal.invariant-loop-row
invariant-loop-row l = record { listed : map class_seen l.classes.items ≡ map class_seen l.initial.classes.items ++ file_classes l.file l.row }
