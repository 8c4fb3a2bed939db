use Rattle.std.proofs.Common.{◌≡◌}
use Rattle.classes.specs.Classes.{OwnMethod}
use Rattle.member_keys.specs.Seen.{class_seen}
use Rattle.class_table.specs.Seen.{classes_seen}
use Rattle.class_targets.specs.Virtual.{IsKeyOf}
use Rattle.class_targets.proofs.DownLaws.{first_up}
use Rattle.class_targets.proofs.up.implementing.Given as goal

abbrev pub invariant-up : goal.invariant-up
invariant-up l = record {
  rest :
      (m : OwnMethod) → IsKeyOf l.key m
      → first_up (classes_seen l.methods.table) m (classes_seen l.methods.table).size (class_seen l.fn.class)
      ≡ first_up (classes_seen l.methods.table) m l.left (class_seen l.class);
}

abbrev pub decreases-up : goal.decreases-up
decreases-up l = l.left
