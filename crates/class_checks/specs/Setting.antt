-- What the rules of a table's classes stand on.
use Rattle.std.specs.Prelude.{◌≡◌, Some}
use Rattle.plain_types.specs.declared.elem.Elem.TheVariants as elem
use Rattle.machine.specs.Data.{Id}
use Rattle.classes.specs.Queries.{basic}
use Rattle.class_table.specs.Seen.{classes_seen}
use Rattle.class_queries.specs.declared.chains.Way.TheVariants as way
use Rattle.class_queries.specs.Heights.{AreHeights}
use Rattle.class_queries.specs.Below.{AreBelow}
use Rattle.class_checks.specs.declared.setting.Setting.{Setting}
use Rattle.class_checks.specs.Library.{IsLibrary}

pub record IsSetting (s : Setting) : Type 0 where
  pub library : IsLibrary s.table.now s.library
  pub above : AreHeights s.table.now way.Above s.above.now
  pub interfaces : AreHeights s.table.now way.Interfaces s.interfaces.now
  pub around : AreHeights s.table.now way.Around s.around.now
  pub under : (object : Id) → basic (classes_seen s.table.now) elem.Object ≡ Some object → AreBelow s.table.now object s.under.now
