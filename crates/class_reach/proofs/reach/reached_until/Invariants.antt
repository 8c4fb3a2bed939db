use Rattle.std.proofs.Common.{◌≡◌, Some}
use Rattle.std.specs.Prelude.{slice_get}
use Rattle.std.specs.Option.{option_map}
use Rattle.member_keys.specs.Seen.{class_seen}
use Rattle.class_table.specs.Seen.{classes_seen}
use Rattle.class_reach.specs.Found.{IsFound}
use Rattle.class_reach.specs.Levels.{AreReached}
use Rattle.class_reach.specs.Until.{parents_until}
use Rattle.class_reach.proofs.reach.reached_until.Given as goal

abbrev pub invariant-loop-round : goal.invariant-loop-round
invariant-loop-round l = record {
  found : IsFound l.found;
  first : slice_get l.found.items.items 0 ≡ Some l.fn.class;
  reached : AreReached (parents_until (classes_seen l.table) (option_map class_seen l.fn.top)) (class_seen l.fn.class) l._round l.start l.found.items.items;
}
