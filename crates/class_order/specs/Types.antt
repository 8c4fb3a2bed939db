-- Types without arrays as the machine has them.
use Rattle.machine.specs.Data.{CliType, Basic, EnumOf, ClassOf, ValueOf}
use Rattle.member_keys.specs.Seen.{class_seen}
use Rattle.class_table.specs.Seen.{classes_seen}
use Rattle.class_order.specs.declared.order.Order.{Order}
use Rattle.class_order.specs.declared.types.BaseType.{BaseType}
use Rattle.class_order.specs.declared.types.BaseType.TheVariants as base
use Rattle.class_order.specs.Basic.{AreBasic}
use Rattle.class_order.specs.Order.{InOrder}

abbrev pub base_seen : BaseType → CliType
base_seen (base.Basic e) = Basic e
base_seen (base.EnumOf e c) = EnumOf e (class_seen c)
base_seen (base.ClassOf c) = ClassOf (class_seen c)
base_seen (base.ValueOf c) = ValueOf (class_seen c)

pub record AreOrdered (o : Order) : Type 0 where
  pub basic : AreBasic o.table.now o.basic
  pub order : InOrder (classes_seen o.table.now)
