-- What is known of which classes are a class or below it: where something stands at a class's number, it is so.
use Rattle.std.specs.Prelude.{◌≡◌, ℕ, Bool, List, Option, Some, length, slice_get}
use Rattle.machine.specs.Data.{Id}
use Rattle.classes.specs.Queries.{is_sub}
use Rattle.class_table.specs.declared.rows.ClassTable.{ClassTable}
use Rattle.class_table.specs.Seen.{classes_seen}
use Rattle.class_queries.specs.Numbers.{total_of}
use Rattle.class_queries.specs.Edges.{all_classes}

pub record AreBelow (t : ClassTable) (other : Id) (known : List (Option Bool)) : Type 0 where
  pub count : length known ≡ total_of t
  pub told : (n : ℕ) (c : Id) (b : Bool) → slice_get (all_classes t) n ≡ Some c → slice_get known n ≡ Some (Some b) → is_sub (classes_seen t) c other ≡ b
