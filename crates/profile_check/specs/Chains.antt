-- What the rules of a table's classes stand on, of which a setting is made.
use Rattle.std.specs.Prelude.{◌≡◌, Some}
use Rattle.plain_types.specs.declared.elem.Elem.TheVariants as elem
use Rattle.machine.specs.Data.{Id}
use Rattle.classes.specs.Queries.{basic}
use Rattle.class_table.specs.declared.rows.ClassTable.{ClassTable}
use Rattle.class_table.specs.Seen.{classes_seen}
use Rattle.class_queries.specs.declared.chains.Way.TheVariants as way
use Rattle.class_queries.specs.Heights.{AreHeights}
use Rattle.class_queries.specs.Below.{AreBelow}
use Rattle.class_checks.specs.Library.{IsLibrary}
use Rattle.profile_check.specs.declared.chains.Chains.{Chains}

pub record AreChains (t : ClassTable) (c : Chains) : Type 0 where
  pub library : IsLibrary t c.library
  pub above : AreHeights t way.Above c.above
  pub interfaces : AreHeights t way.Interfaces c.interfaces
  pub around : AreHeights t way.Around c.around
  pub under : (object : Id) → basic (classes_seen t) elem.Object ≡ Some object → AreBelow t object c.under.items
