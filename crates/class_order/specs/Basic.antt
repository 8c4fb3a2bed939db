-- The base library's classes by their elements.
use Rattle.std.specs.Prelude.{◌≡◌}
use Rattle.std.specs.Option.{option_map}
use Rattle.plain_types.specs.declared.elem.Elem.TheVariants as elem
use Rattle.classes.specs.Queries.{basic, array}
use Rattle.member_keys.specs.Seen.{class_seen}
use Rattle.class_table.specs.declared.rows.ClassTable.{ClassTable}
use Rattle.class_table.specs.Seen.{classes_seen}
use Rattle.class_order.specs.declared.basic.BasicClasses.{BasicClasses}

pub record AreBasic (t : ClassTable) (b : BasicClasses) : Type 0 where
  pub boolean : option_map class_seen b.boolean ≡ basic (classes_seen t) elem.Bool
  pub char : option_map class_seen b.char ≡ basic (classes_seen t) elem.Char
  pub sbyte : option_map class_seen b.sbyte ≡ basic (classes_seen t) elem.I1
  pub byte : option_map class_seen b.byte ≡ basic (classes_seen t) elem.U1
  pub int16 : option_map class_seen b.int16 ≡ basic (classes_seen t) elem.I2
  pub uint16 : option_map class_seen b.uint16 ≡ basic (classes_seen t) elem.U2
  pub int32 : option_map class_seen b.int32 ≡ basic (classes_seen t) elem.I4
  pub uint32 : option_map class_seen b.uint32 ≡ basic (classes_seen t) elem.U4
  pub int64 : option_map class_seen b.int64 ≡ basic (classes_seen t) elem.I8
  pub uint64 : option_map class_seen b.uint64 ≡ basic (classes_seen t) elem.U8
  pub string : option_map class_seen b.string ≡ basic (classes_seen t) elem.String
  pub object : option_map class_seen b.object ≡ basic (classes_seen t) elem.Object
  pub array : option_map class_seen b.array ≡ array (classes_seen t)
