use Rattle.std.proofs.Common.{◌-◌, take, drop}
use Rattle.std.specs.Option.{option_map}
use Rattle.member_keys.specs.Seen.{class_seen}
use Rattle.class_table.specs.Seen.{classes_seen}
use Rattle.class_reach.specs.Found.{Adds}
use Rattle.class_reach.specs.Levels.{all_nexts}
use Rattle.class_reach.specs.Until.{parents_until}
use Rattle.class_reach.proofs.reach.add_level.Given as goal

abbrev pub invariant-loop-place : goal.invariant-loop-place
invariant-loop-place l = record { adds : Adds (all_nexts (parents_until (classes_seen l.table) (option_map class_seen l.top)) (take (l.place - l.start) (drop l.start l.initial.found.items.items))) l.initial.found l.found }
