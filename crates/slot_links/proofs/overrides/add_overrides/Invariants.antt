use Rattle.std.proofs.Common.{◌-◌, take}
use Rattle.std.specs.List.{flat_map}
use Rattle.classes.specs.Queries.{methods_of}
use Rattle.member_keys.specs.Seen.{class_seen}
use Rattle.class_table.specs.Seen.{classes_seen}
use Rattle.row_rules.specs.Links.{Adds}
use Rattle.slot_links.specs.Slots.{overrides}
use Rattle.slot_links.proofs.overrides.add_overrides.Given as goal

abbrev pub invariant-loop-row : goal.invariant-loop-row
invariant-loop-row l =
    Adds (flat_map (overrides (classes_seen l.methods.table) (class_seen l.class)) (take (l.row - l.initial.row) (methods_of (classes_seen l.methods.table) (class_seen l.class)))) l.fn.rules l.rules
