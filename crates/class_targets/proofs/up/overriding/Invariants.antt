use Rattle.std.proofs.Common.{◌≡◌}
use Rattle.std.specs.Option.{option_map}
use Rattle.classes.specs.Classes.{OwnMethod}
use Rattle.classes.specs.Queries.{search_body}
use Rattle.member_keys.specs.Seen.{class_seen}
use Rattle.class_table.specs.Seen.{classes_seen}
use Rattle.class_targets.specs.Virtual.{IsKeyOf}
use Rattle.class_targets.specs.Down.{settled}
use Rattle.class_targets.proofs.DownLaws.{search}
use Rattle.class_targets.proofs.up.overriding.Given as goal

abbrev pub invariant-up : goal.invariant-up
invariant-up l = record {
  rest :
      (m : OwnMethod) → IsKeyOf l.key m → m.id ≡ class_seen l.method
      → option_map search_body (search (classes_seen l.methods.table) m (class_seen l.owner) (classes_seen l.methods.table).size (class_seen l.fn.class))
      ≡ option_map (settled (option_map class_seen l.decided)) (search (classes_seen l.methods.table) m (class_seen l.owner) l.left (class_seen l.class));
}

abbrev pub decreases-up : goal.decreases-up
decreases-up l = l.left
