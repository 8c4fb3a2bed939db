-- The base library's classes by exceptions, by elements, and that of arrays.
use Rattle.std.specs.Prelude.{◌≡◌, Option, None}
use Rattle.std.specs.Option.{option_map}
use Rattle.board_types.specs.declared.board.Known.{Known}
use Rattle.board_types.specs.declared.board.Known.TheVariants as exception
use Rattle.plain_types.specs.declared.elem.Elem.{Elem}
use Rattle.plain_types.specs.declared.elem.Elem.TheVariants as elem
use Rattle.machine.specs.Data.{Id}
use Rattle.classes.specs.Classes.{Classes}
use Rattle.classes.specs.Queries.{known, basic, array}
use Rattle.board_ids.specs.Ids.{id_of}
use Rattle.bound_set.specs.declared.library.KnownClasses.{KnownClasses}
use Rattle.bound_set.specs.declared.library.BasicRows.{BasicRows}

abbrev pub known_in : KnownClasses → Known → Option Id
known_in k exception.NullReference = option_map id_of k.null_reference
known_in k exception.IndexOutOfRange = option_map id_of k.index_out_of_range
known_in k exception.Overflow = option_map id_of k.overflow
known_in k exception.Arithmetic = option_map id_of k.arithmetic
known_in k exception.DivideByZero = option_map id_of k.divide_by_zero
known_in k exception.InvalidCast = option_map id_of k.invalid_cast
known_in k exception.ArrayTypeMismatch = option_map id_of k.array_type_mismatch
known_in k exception.Argument = option_map id_of k.argument
known_in k exception.ArgumentNull = option_map id_of k.argument_null
known_in k exception.ArgumentOutOfRange = option_map id_of k.argument_out_of_range

abbrev pub basic_in : BasicRows → Elem → Option Id
basic_in b elem.Bool = option_map id_of b.boolean
basic_in b elem.Char = option_map id_of b.char
basic_in b elem.I1 = option_map id_of b.sbyte
basic_in b elem.U1 = option_map id_of b.byte
basic_in b elem.I2 = option_map id_of b.int16
basic_in b elem.U2 = option_map id_of b.uint16
basic_in b elem.I4 = option_map id_of b.int32
basic_in b elem.U4 = option_map id_of b.uint32
basic_in b elem.I8 = option_map id_of b.int64
basic_in b elem.U8 = option_map id_of b.uint64
basic_in b elem.String = option_map id_of b.string
basic_in b elem.Object = option_map id_of b.object
basic_in b elem.Void = None
basic_in b elem.Class = None
basic_in b elem.Value = None

pub record AreKnown (cs : Classes) (k : KnownClasses) : Type 0 where
  pub null_reference : option_map id_of k.null_reference ≡ known cs exception.NullReference
  pub index_out_of_range : option_map id_of k.index_out_of_range ≡ known cs exception.IndexOutOfRange
  pub overflow : option_map id_of k.overflow ≡ known cs exception.Overflow
  pub arithmetic : option_map id_of k.arithmetic ≡ known cs exception.Arithmetic
  pub divide_by_zero : option_map id_of k.divide_by_zero ≡ known cs exception.DivideByZero
  pub invalid_cast : option_map id_of k.invalid_cast ≡ known cs exception.InvalidCast
  pub array_type_mismatch : option_map id_of k.array_type_mismatch ≡ known cs exception.ArrayTypeMismatch
  pub argument : option_map id_of k.argument ≡ known cs exception.Argument
  pub argument_null : option_map id_of k.argument_null ≡ known cs exception.ArgumentNull
  pub argument_out_of_range : option_map id_of k.argument_out_of_range ≡ known cs exception.ArgumentOutOfRange

pub record AreBasic (cs : Classes) (b : BasicRows) : Type 0 where
  pub boolean : option_map id_of b.boolean ≡ basic cs elem.Bool
  pub char : option_map id_of b.char ≡ basic cs elem.Char
  pub sbyte : option_map id_of b.sbyte ≡ basic cs elem.I1
  pub byte : option_map id_of b.byte ≡ basic cs elem.U1
  pub int16 : option_map id_of b.int16 ≡ basic cs elem.I2
  pub uint16 : option_map id_of b.uint16 ≡ basic cs elem.U2
  pub int32 : option_map id_of b.int32 ≡ basic cs elem.I4
  pub uint32 : option_map id_of b.uint32 ≡ basic cs elem.U4
  pub int64 : option_map id_of b.int64 ≡ basic cs elem.I8
  pub uint64 : option_map id_of b.uint64 ≡ basic cs elem.U8
  pub string : option_map id_of b.string ≡ basic cs elem.String
  pub object : option_map id_of b.object ≡ basic cs elem.Object
  pub array : option_map id_of b.array ≡ array cs
