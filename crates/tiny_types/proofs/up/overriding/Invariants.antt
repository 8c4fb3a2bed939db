use Rattle.std.proofs.Common.{◌≡◌}
use Rattle.std.specs.Option.{option_map}
use Rattle.classes.specs.Classes.{OwnMethod}
use Rattle.classes.specs.Queries.{search_body}
use Rattle.member_keys.specs.Seen.{class_seen}
use Rattle.board_ids.specs.Ids.{id_of}
use Rattle.class_table.specs.Seen.{classes_seen}
use Rattle.tiny_types.specs.Named.{IsRowOf}
use Rattle.class_targets.specs.Down.{settled}
use Rattle.class_targets.proofs.DownLaws.{search}
use Rattle.tiny_types.proofs.up.overriding.Given as goal

abbrev pub invariant-up : goal.invariant-up
invariant-up l = record {
  rest :
      (m : OwnMethod) → IsRowOf l.wanted m → m.id ≡ id_of l.method
      → option_map search_body (search (classes_seen l.table) m (class_seen l.owner) (classes_seen l.table).size (class_seen l.fn.class))
      ≡ option_map (settled (option_map id_of l.decided)) (search (classes_seen l.table) m (class_seen l.owner) l.left (class_seen l.class));
}

abbrev pub decreases-up : goal.decreases-up
decreases-up l = l.left
