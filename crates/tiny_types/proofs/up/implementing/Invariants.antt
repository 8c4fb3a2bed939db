use Rattle.std.proofs.Common.{◌≡◌}
use Rattle.classes.specs.Classes.{OwnMethod}
use Rattle.member_keys.specs.Seen.{class_seen}
use Rattle.class_table.specs.Seen.{classes_seen}
use Rattle.tiny_types.specs.Named.{IsRowOf}
use Rattle.class_targets.proofs.DownLaws.{first_up}
use Rattle.tiny_types.proofs.up.implementing.Given as goal

abbrev pub invariant-up : goal.invariant-up
invariant-up l = record {
  rest :
      (m : OwnMethod) → IsRowOf l.wanted m
      → first_up (classes_seen l.table) m (classes_seen l.table).size (class_seen l.fn.class)
      ≡ first_up (classes_seen l.table) m l.left (class_seen l.class);
}

abbrev pub decreases-up : goal.decreases-up
decreases-up l = l.left
