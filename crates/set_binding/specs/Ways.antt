-- The ways between the classes of a table.
use Rattle.class_table.specs.declared.rows.ClassTable.{ClassTable}
use Rattle.class_queries.specs.declared.chains.Way.TheVariants as way
use Rattle.class_queries.specs.Heights.{AreHeights}
use Rattle.set_binding.specs.declared.circle.Ways.{Ways}

pub record AreWays (t : ClassTable) (w : Ways) : Type 0 where
  pub above : AreHeights t way.Above w.above
  pub interfaces : AreHeights t way.Interfaces w.interfaces
  pub around : AreHeights t way.Around w.around
