-- The types of a table, and what is known of them.
use Rattle.class_order.specs.Basic.{AreBasic}
use Rattle.tiny_types.specs.declared.bound.BoundTypes.TheInside.{Inside}
use Rattle.tiny_types.specs.Answers.{AreAnswers}
use Rattle.tiny_types.specs.Small.{IsSmall}

-- the rows are few, and the answers are the table's
pub record AreTypes (b : Inside) : Type 0 where
  pub small : IsSmall b.table.now
  pub basic : AreBasic b.table.now b.basic
  pub answers : AreAnswers b.table.now b.answers.items
