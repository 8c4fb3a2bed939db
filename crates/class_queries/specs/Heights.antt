-- The heights of classes.
use Rattle.std.specs.Prelude.{◌≡◌, length}
use Rattle.ways.specs.Heights.{AreHeights as OfGraph}
use Rattle.class_table.specs.declared.rows.ClassTable.{ClassTable}
use Rattle.class_queries.specs.declared.chains.Way.{Way}
use Rattle.class_queries.specs.declared.chains.Heights.{Heights}
use Rattle.class_queries.specs.Numbers.{AreNumbers}
use Rattle.class_queries.specs.Edges.{graph_size, graph_next}

pub record AreHeights (t : ClassTable) (w : Way) (h : Heights) : Type 0 where
  pub numbers : AreNumbers t h.numbers
  pub size : length h.of.items ≡ graph_size t
  pub heights : OfGraph (graph_next t w) h.of.items
