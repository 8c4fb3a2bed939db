use Rattle.std.proofs.Common.{take, map}
use Rattle.std.specs.List.{flat_map}
use Rattle.member_keys.specs.Seen.{class_seen}
use Rattle.class_table.specs.Seen.{classes_seen}
use Rattle.row_rules.specs.Links.{Adds}
use Rattle.slot_links.specs.Slots.{implements}
use Rattle.slot_links.proofs.fills.add_reached.Given as goal

abbrev pub invariant-loop-above : goal.invariant-loop-above
invariant-loop-above l =
    Adds (flat_map (implements (classes_seen l.methods.table) (class_seen l.class)) (take l.above-index (map class_seen l.reached))) l.fn.rules l.rules
