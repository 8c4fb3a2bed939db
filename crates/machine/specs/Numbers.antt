-- Arithmetic of the machine, which knows no program (III.1.5, and the rows named below).
use mir.Val.{bits, hbits}
use Rattle.std.specs.Int.{Width, w8, w16, w32, w64, cast_unsigned, cast_signed, int_wrapping_add, int_wrapping_sub, int_wrapping_mul, int_wrapping_neg, int_bit_and, int_bit_or, int_bit_xor, int_bit_not, int_shl, int_shr}
use Rattle.std.specs.Prelude.{ℕ, ℤ, pos, negsuc, int_lt, int_le, int_div, int_rem, ◌+ℤ◌, ◌-ℤ◌, ◌*ℤ◌, ◌+◌, ◌-◌, ◌*◌, ◌/◌, ◌%◌, ◌^◌, nat_lt, Bool, true, false, not, ◌==◌, ◌&&◌, if◌then◌else◌, List, [], ◌∷◌, Option, Some, None}
use Rattle.std.specs.Option.{option_map}
use Rattle.cil_opcodes.specs.declared.shape.IntegerType.{IntegerType}
use Rattle.cil_opcodes.specs.declared.shape.IntegerType.TheVariants.{I1, U1, I2, U2, I4, U4, I8, U8}
use Rattle.cil_opcodes.specs.declared.shape.Sign.{Sign}
use Rattle.cil_opcodes.specs.declared.shape.Sign.TheVariants.{Signed, Unsigned}
use Rattle.cil_opcodes.specs.declared.shape.Operator.{Operator}
use Rattle.cil_opcodes.specs.declared.shape.Operator.TheVariants.{Add, Subtract, Multiply, Divide, DivideUnsigned, Remainder, RemainderUnsigned, And, Or, Xor, AddChecked, SubtractChecked, MultiplyChecked}
use Rattle.cil_opcodes.specs.declared.shape.UnaryOperator.{UnaryOperator}
use Rattle.cil_opcodes.specs.declared.shape.UnaryOperator.TheVariants.{Negate, Complement}
use Rattle.cil_opcodes.specs.declared.shape.ShiftOperator.{ShiftOperator}
use Rattle.cil_opcodes.specs.declared.shape.ShiftOperator.TheVariants.{Left, Right, RightUnsigned}
use Rattle.cil_opcodes.specs.declared.shape.Comparison.{Comparison}
use Rattle.cil_opcodes.specs.declared.shape.Comparison.TheVariants.{Equal, Greater, GreaterUnsigned, Less, LessUnsigned}
use Rattle.board_types.specs.declared.board.Known.{Known}
use Rattle.board_types.specs.declared.board.Known.TheVariants.{Overflow, Arithmetic, DivideByZero}
use Rattle.machine.specs.Data.{Id, CliType, PlaceType, Plain, To, Basic, EnumOf, ClassOf, ValueOf, ArrayOf, Cell, Bits, Refers, bytes_of, cell_of, Value, Int, Long, Null, Object, Handle, Pointer}

-- what an operator gives: a value, an exception, or no case
pub data Answer : Type 0 where
  Gives : (value : Value) → Answer
  Raises : (known : Known) → Answer
  NoCase : Answer

-- whether two tests agree
abbrev pub agree : Bool → Bool → Bool
agree true b = b
agree false b = not b

abbrev pub of_bool : Bool → Value
of_bool b = Int (if b then pos 1 else pos 0)

abbrev pub is_negative : ℤ → Bool
is_negative n = int_lt n (pos 0)

-- ---- integer types

abbrev pub is_long : IntegerType → Bool
is_long I8 = true
is_long U8 = true
is_long _ = false

-- the integer type of the width, as the sign reads it
abbrev pub integer_at : Width → Sign → IntegerType
integer_at w64 Signed = I8
integer_at w64 Unsigned = U8
integer_at w Signed = I4
integer_at w Unsigned = U4

-- a stack number as the sign reads it
abbrev pub read_as : Width → Sign → ℤ → ℤ
read_as w Signed n = n
read_as w Unsigned n = pos (cast_unsigned w n)

abbrev pub least : IntegerType → ℤ
least I1 = negsuc (2 ^ 7 - 1)
least I2 = negsuc (2 ^ 15 - 1)
least I4 = negsuc (2 ^ 31 - 1)
least I8 = negsuc (2 ^ 63 - 1)
least _ = pos 0

abbrev pub greatest : IntegerType → ℤ
greatest I1 = pos (2 ^ 7 - 1)
greatest U1 = pos (2 ^ 8 - 1)
greatest I2 = pos (2 ^ 15 - 1)
greatest U2 = pos (2 ^ 16 - 1)
greatest I4 = pos (2 ^ 31 - 1)
greatest U4 = pos (2 ^ 32 - 1)
greatest I8 = pos (2 ^ 63 - 1)
greatest U8 = pos (2 ^ 64 - 1)

-- the low bits, extended to the stack by the type's sign (III.1.1.1)
abbrev pub cut : IntegerType → ℕ → Value
cut I1 n = Int (cast_signed w8 (n % 2 ^ 8))
cut U1 n = Int (pos (n % 2 ^ 8))
cut I2 n = Int (cast_signed w16 (n % 2 ^ 16))
cut U2 n = Int (pos (n % 2 ^ 16))
cut I4 n = Int (cast_signed w32 (n % 2 ^ 32))
cut U4 n = Int (cast_signed w32 (n % 2 ^ 32))
cut I8 n = Long (cast_signed w64 n)
cut U8 n = Long (cast_signed w64 n)

-- the number that the bytes spell, the lowest first
abbrev pub little_endian : List ℕ → ℕ
little_endian [] = 0
little_endian (b ∷ bs) = b + 256 * little_endian bs

-- an int32 and an int64 as a number of the integer type
abbrev pub int_meant : IntegerType → ℤ → ℤ
int_meant U4 n = pos (cast_unsigned w32 n)
int_meant _ n = n

abbrev pub long_meant : IntegerType → ℤ → ℤ
long_meant U8 n = pos (cast_unsigned w64 n)
long_meant _ n = n

-- the exact number that a place of the integer type means by its value
abbrev pub number_in : IntegerType → Value → Option ℤ
number_in integer (Int n) = Some (int_meant integer n)
number_in integer (Long n) = Some (long_meant integer n)
number_in integer _ = None

-- ---- operators of two numbers (III.3.1 to III.3.7, III.3.31, III.3.48, III.3.52 to III.3.57, III.3.63 to III.3.67)

-- the exact result where it fits, else OverflowException
abbrev pub checked : IntegerType → ℤ → Answer
checked integer n =
    if int_le (least integer) n && int_le n (greatest integer) then Gives (cut integer (cast_unsigned w64 n)) else Raises Overflow

abbrev pub is_zero : Width → ℤ → Bool
is_zero w y = cast_unsigned w y == 0

-- the least number by -1
abbrev pub is_least_by_minus_one : Width → ℤ → ℤ → Bool
is_least_by_minus_one w x y = (cast_unsigned w x == 2 ^ hbits w) && (cast_unsigned w y == 2 ^ bits w - 1)

abbrev pub by_signed : Width → ℤ → ℤ → Value → Answer
by_signed w x y v =
    if is_zero w y then Raises DivideByZero
    else if is_least_by_minus_one w x y then Raises Arithmetic
    else Gives v

abbrev pub by_unsigned : Width → ℤ → Value → Answer
by_unsigned w y v = if is_zero w y then Raises DivideByZero else Gives v

abbrev pub arithmetic : Width → (ℤ → Value) → Operator → ℤ → ℤ → Answer
arithmetic w make Add x y = Gives (make (int_wrapping_add w x y))
arithmetic w make Subtract x y = Gives (make (int_wrapping_sub w x y))
arithmetic w make Multiply x y = Gives (make (int_wrapping_mul w x y))
arithmetic w make Divide x y = by_signed w x y (make (int_div x y))
arithmetic w make Remainder x y = by_signed w x y (make (int_rem x y))
arithmetic w make DivideUnsigned x y = by_unsigned w y (make (cast_signed w (cast_unsigned w x / cast_unsigned w y)))
arithmetic w make RemainderUnsigned x y = by_unsigned w y (make (cast_signed w (cast_unsigned w x % cast_unsigned w y)))
arithmetic w make And x y = Gives (make (int_bit_and w x y))
arithmetic w make Or x y = Gives (make (int_bit_or w x y))
arithmetic w make Xor x y = Gives (make (int_bit_xor w x y))
arithmetic w make (AddChecked sign) x y = checked (integer_at w sign) (read_as w sign x +ℤ read_as w sign y)
arithmetic w make (SubtractChecked sign) x y = checked (integer_at w sign) (read_as w sign x -ℤ read_as w sign y)
arithmetic w make (MultiplyChecked sign) x y = checked (integer_at w sign) (read_as w sign x *ℤ read_as w sign y)

-- a value by its kind on the stack
pub data Sight : Type 0 where
  AnInt : (n : ℤ) → Sight
  ALong : (n : ℤ) → Sight
  ANull : Sight
  AnObject : (n : ℕ) → Sight
  Another : Sight

abbrev pub sight_of : Value → Sight
sight_of (Int n) = AnInt n
sight_of (Long n) = ALong n
sight_of Null = ANull
sight_of (Object n) = AnObject n
sight_of (Handle f) = Another
sight_of (Pointer c s) = Another

-- two values of one kind
pub data Pair : Type 0 where
  Ints : (x y : ℤ) → Pair
  Longs : (x y : ℤ) → Pair
  References : (same : Bool) → Pair
  Other : Pair

abbrev pub pair_of : Sight → Sight → Pair
pair_of (AnInt x) (AnInt y) = Ints x y
pair_of (ALong x) (ALong y) = Longs x y
pair_of ANull ANull = References true
pair_of ANull (AnObject y) = References false
pair_of (AnObject x) ANull = References false
pair_of (AnObject x) (AnObject y) = References (x == y)
pair_of _ _ = Other

abbrev pub on_pair : Operator → Pair → Answer
on_pair operator (Ints x y) = arithmetic w32 Int operator x y
on_pair operator (Longs x y) = arithmetic w64 Long operator x y
on_pair operator (References same) = NoCase
on_pair operator Other = NoCase

unfoldable pub binary : Operator → Value → Value → Answer
binary operator x y = on_pair operator (pair_of (sight_of x) (sight_of y))

-- ---- shifts, by a count modulo the width (III.3.58 to III.3.60), and operators of one number (III.3.50, III.3.51)

abbrev pub shifted : Width → ShiftOperator → ℤ → ℤ → ℤ
shifted w Left x y = int_shl w x (cast_unsigned w32 y % bits w)
shifted w Right x y = int_shr x (cast_unsigned w32 y % bits w)
shifted w RightUnsigned x y = cast_signed w (cast_unsigned w x / 2 ^ (cast_unsigned w32 y % bits w))

abbrev pub on_shift : ShiftOperator → Sight → Sight → Option Value
on_shift operator (AnInt x) (AnInt y) = Some (Int (shifted w32 operator x y))
on_shift operator (ALong x) (AnInt y) = Some (Long (shifted w64 operator x y))
on_shift operator _ _ = None

unfoldable pub shift : ShiftOperator → Value → Value → Option Value
shift operator x y = on_shift operator (sight_of x) (sight_of y)

abbrev pub inverted : Width → UnaryOperator → ℤ → ℤ
inverted w Negate x = int_wrapping_neg w x
inverted w Complement x = int_bit_not w x

abbrev pub on_unary : UnaryOperator → Sight → Option Value
on_unary operator (AnInt x) = Some (Int (inverted w32 operator x))
on_unary operator (ALong x) = Some (Long (inverted w64 operator x))
on_unary operator _ = None

unfoldable pub unary : UnaryOperator → Value → Option Value
unary operator x = on_unary operator (sight_of x)

-- ---- comparisons (III.3.21 to III.3.26), and the branches that compare (III.3.5 to III.3.14)

abbrev pub test : Width → Comparison → ℤ → ℤ → Bool
test w Equal x y = cast_unsigned w x == cast_unsigned w y
test w Greater x y = int_lt y x
test w GreaterUnsigned x y = nat_lt (cast_unsigned w y) (cast_unsigned w x)
test w Less x y = int_lt x y
test w LessUnsigned x y = nat_lt (cast_unsigned w x) (cast_unsigned w y)

-- references are compared by `ceq` and `cgt.un`, which tells that they aren't the same
abbrev pub compared : Comparison → Pair → Option Bool
compared comparison (Ints x y) = Some (test w32 comparison x y)
compared comparison (Longs x y) = Some (test w64 comparison x y)
compared Equal (References same) = Some same
compared GreaterUnsigned (References same) = Some (not same)
compared comparison _ = None

unfoldable pub compare : Comparison → Value → Value → Option Bool
compare comparison x y = compared comparison (pair_of (sight_of x) (sight_of y))

-- branches compare references by `beq` and `bne.un` alone
abbrev pub branch_compared : Comparison → Pair → Option Bool
branch_compared comparison (Ints x y) = Some (test w32 comparison x y)
branch_compared comparison (Longs x y) = Some (test w64 comparison x y)
branch_compared Equal (References same) = Some same
branch_compared comparison _ = None

unfoldable pub branch_compare : Comparison → Value → Value → Option Bool
branch_compare comparison x y = branch_compared comparison (pair_of (sight_of x) (sight_of y))

-- whether `brtrue` branches (III.3.18)
unfoldable pub truth : Value → Option Bool
truth (Int n) = Some (not (is_zero w32 n))
truth (Long n) = Some (not (is_zero w64 n))
truth Null = Some false
truth (Object n) = Some true
truth (Handle f) = None
truth (Pointer c s) = None

-- ---- conversions (III.3.27 to III.3.29)

-- an int32 as 64 bits: `conv.u8` extends it by zeros, every other by its sign
abbrev pub widened : IntegerType → ℤ → ℕ
widened U8 n = cast_unsigned w32 n
widened _ n = cast_unsigned w64 n

abbrev pub on_convert : IntegerType → Sight → Option Value
on_convert integer (AnInt n) = Some (cut integer (widened integer n))
on_convert integer (ALong n) = Some (cut integer (cast_unsigned w64 n))
on_convert integer _ = None

unfoldable pub convert : IntegerType → Value → Option Value
convert integer x = on_convert integer (sight_of x)

abbrev pub on_convert_checked : IntegerType → Sign → Sight → Answer
on_convert_checked integer source (AnInt n) = checked integer (read_as w32 source n)
on_convert_checked integer source (ALong n) = checked integer (read_as w64 source n)
on_convert_checked integer source _ = NoCase

unfoldable pub convert_checked : IntegerType → Sign → Value → Answer
convert_checked integer source x = on_convert_checked integer source (sight_of x)

-- ---- places (III.1.1.1, I.12.1.6)

-- pointers agree by width
abbrev pub same_width : Cell → Cell → Bool
same_width (Bits a) (Bits b) = bytes_of a == bytes_of b
same_width Refers Refers = true
same_width _ _ = false

-- an int32 as a place of the type keeps it
abbrev pub small : IntegerType → ℤ → Value
small I4 n = Int n
small U4 n = Int n
small integer n = cut integer (cast_unsigned w32 n)

-- a value as the cell keeps it, or as a load by the cell sees it
unfoldable pub kept_in : Cell → Value → Option Value
kept_in (Bits integer) (Int n) = if is_long integer then None else Some (small integer n)
kept_in (Bits integer) (Long n) = if is_long integer then Some (Long n) else None
kept_in Refers Null = Some Null
kept_in Refers (Object n) = Some (Object n)
kept_in _ _ = None

-- what a place holds: a number or a reference, a pointer of a width, or a field handle
pub data PlaceKind : Type 0 where
  Holds : (cell : Cell) → PlaceKind
  HoldsPointer : (cell : Cell) → PlaceKind
  HoldsHandle : PlaceKind

abbrev pub kind_of_type : CliType → Option PlaceKind
kind_of_type (Basic e) = option_map Holds (cell_of (Basic e))
kind_of_type (EnumOf e class) = option_map Holds (cell_of (EnumOf e class))
kind_of_type (ClassOf class) = Some (Holds Refers)
kind_of_type (ValueOf class) = Some HoldsHandle
kind_of_type (ArrayOf element) = Some (Holds Refers)

abbrev pub kind_of : PlaceType → Option PlaceKind
kind_of (Plain type) = kind_of_type type
kind_of (To type) = option_map HoldsPointer (cell_of type)

abbrev pub kept_pointer : Cell → Value → Option Value
kept_pointer wide (Pointer cell spot) = if same_width cell wide then Some (Pointer cell spot) else None
kept_pointer wide _ = None

abbrev pub kept_handle : Value → Option Value
kept_handle (Handle f) = Some (Handle f)
kept_handle _ = None

abbrev pub kept_by : Option PlaceKind → Value → Option Value
kept_by None v = None
kept_by (Some (Holds cell)) v = kept_in cell v
kept_by (Some (HoldsPointer cell)) v = kept_pointer cell v
kept_by (Some HoldsHandle) v = kept_handle v

-- a value as a place of the type keeps it
unfoldable pub kept : PlaceType → Value → Option Value
kept type v = kept_by (kind_of type) v

-- what a new place holds
abbrev pub zero_in : Option Cell → Value
zero_in (Some (Bits integer)) = if is_long integer then Long (pos 0) else Int (pos 0)
zero_in (Some Refers) = Null
zero_in None = Null

unfoldable pub zero_of : CliType → Value
zero_of type = zero_in (cell_of type)

unfoldable pub zero_place : PlaceType → Value
zero_place (Plain type) = zero_of type
zero_place (To type) = Null

abbrev pub as_int : Value → Option ℤ
as_int (Int n) = Some n
as_int _ = None

abbrev pub as_long : Value → Option ℤ
as_long (Long n) = Some n
as_long _ = None

abbrev pub as_handle : Value → Option Id
as_handle (Handle f) = Some f
as_handle _ = None
