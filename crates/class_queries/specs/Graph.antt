-- What a graph of classes holds.
use Rattle.std.specs.Prelude.{◌≡◌, map}
use Rattle.member_keys.specs.Seen.{class_seen}
use Rattle.class_queries.specs.declared.graph.Graph.TheInside.{Inside}
use Rattle.class_queries.specs.Numbers.{AreNumbers}
use Rattle.class_queries.specs.Edges.{all_classes}

pub record IsGraph (g : Inside) : Type 0 where
  pub numbers : AreNumbers g.table.now g.numbers.now
  pub classes : map class_seen g.classes.now ≡ all_classes g.table.now
