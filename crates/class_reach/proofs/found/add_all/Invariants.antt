use Rattle.std.proofs.Common.{map, take}
use Rattle.member_keys.specs.Seen.{class_seen}
use Rattle.class_reach.specs.Found.{Adds}
use Rattle.class_reach.proofs.found.add_all.Given as goal

abbrev pub invariant-loop-class : goal.invariant-loop-class
invariant-loop-class l = record { adds : Adds (map class_seen (take l.class-index l.classes)) l.initial.found l.found }
