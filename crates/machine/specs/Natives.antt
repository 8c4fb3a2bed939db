-- The methods of the base library that are no CIL. A native call is one step.
use Rattle.std.specs.Int.{w32, w64, cast_unsigned}
use Rattle.std.specs.Prelude.{ℕ, ℤ, pos, unsigned_abs, zero, suc, ◌+◌, ◌*◌, ◌%◌, ◌^◌, nat_lt, Bool, true, false, ◌==◌, ◌&&◌, ◌||◌, if◌then◌else◌, List, [], ◌∷◌, ◌++◌, map, take, drop, length, Option, Some, None, slice_get, decimal}
use Rattle.std.specs.Option.{option_map}
use Rattle.cil_opcodes.specs.declared.shape.IntegerType.{IntegerType}
use Rattle.cil_opcodes.specs.declared.shape.IntegerType.TheVariants.{U2}
use Rattle.board_types.specs.declared.board.Known.TheVariants.{IndexOutOfRange, ArrayTypeMismatch, Argument, ArgumentNull, ArgumentOutOfRange}
use Rattle.machine.specs.Data.{Id, thing_at, put_thing, end_of, type_of, type_eq, CliType, Basic, EnumOf, ClassOf, ValueOf, ArrayOf, Cell, Bits, Refers, cell_of, bytes_of, Value, Int, Long, Null, Object, Handle, Pointer, Thing, Instance, Text, Elements, Boxed, StaticCell, Frame, State}
use Rattle.machine.specs.Program.{Program, NativeName, ObjectToString, EnumEquals, EnumToString, ArrayLength, ArrayCopy, StringLength, StringChars, StringConcat, StringSubstring, StringEquals, StringCompare, StringFromChars, StringFromChar, NumberSigned, NumberUnsigned, InitializeArray, DebugPrint}
use Rattle.machine.specs.Numbers.{is_negative, of_bool, cut, little_endian, number_in, as_int, as_long, as_handle}
use Rattle.machine.specs.Texts.{same_text, compared_texts, printed, units_of_name, with_brackets, decimal_text}
use Rattle.machine.specs.Throw.{on_some, goes, raise}
use Rattle.machine.specs.Rows.{on_top, on_thing_or, on_thing, or_raise, on_elements, on_cell, length_value, index_of}

-- ---- types and texts

-- the class of objects of the type
abbrev pub class_of_type : Program → CliType → Option Id
class_of_type p (Basic e) = p.basic e
class_of_type p (EnumOf e class) = Some class
class_of_type p (ClassOf class) = Some class
class_of_type p (ValueOf class) = Some class
class_of_type p (ArrayOf element) = p.array

-- the type's full name
abbrev pub name_of : Program → CliType → Option (List ℕ)
name_of p (ArrayOf element) = option_map with_brackets (name_of p element)
name_of p (Basic e) = option_map (λ class. units_of_name (p.name class)) (p.basic e)
name_of p (EnumOf e class) = Some (units_of_name (p.name class))
name_of p (ClassOf class) = Some (units_of_name (p.name class))
name_of p (ValueOf class) = Some (units_of_name (p.name class))

abbrev pub units_of : Thing → Option (List ℕ)
units_of (Text units) = Some units
units_of (Instance class fields) = None
units_of (Elements element values) = None
units_of (Boxed type value) = None
units_of (StaticCell type value) = None

-- the text of a string, none for null
abbrev pub text_at : List Thing → Value → Option (Option (List ℕ))
text_at heap Null = Some None
text_at heap (Object n) = on_some (thing_at heap n) (λ x. option_map Some (units_of x))
text_at heap (Int n) = None
text_at heap (Long n) = None
text_at heap (Handle h) = None
text_at heap (Pointer c x) = None

-- null as the empty text
abbrev pub or_empty : Option (List ℕ) → List ℕ
or_empty None = []
or_empty (Some units) = units

abbrev pub texts_equal : Option (List ℕ) → Option (List ℕ) → Bool
texts_equal None None = true
texts_equal None (Some units) = false
texts_equal (Some units) None = false
texts_equal (Some xs) (Some ys) = same_text xs ys

-- null comes first
abbrev pub texts_compared : Option (List ℕ) → Option (List ℕ) → ℤ
texts_compared None None = compared_texts [] []
texts_compared None (Some ys) = compared_texts [] (0 ∷ [])
texts_compared (Some xs) None = compared_texts (0 ∷ []) []
texts_compared (Some xs) (Some ys) = compared_texts xs ys

-- a number as a unit of a text
abbrev pub unit_of : Value → ℕ
unit_of (Int n) = cast_unsigned w32 n % 2 ^ 16
unit_of _ = 0

-- a new string is pushed
unfoldable pub new_text : Program → State → Frame → List Frame → ℕ → List Value → List ℕ → Option State
new_text p s f fs next rest units =
    goes p (record s { heap = s.heap ++ Text units ∷ [] }) f fs next (Object (end_of s.heap) ∷ rest)

-- ---- ranges

-- from the start on so many, where both are at least 0 and the end is within the length
abbrev pub is_range : ℕ → ℤ → ℤ → Bool
is_range most start count = if is_negative start || is_negative count then false else (if nat_lt most (unsigned_abs start + unsigned_abs count) then false else true)

abbrev pub piece : {A : Type 0} → ℕ → ℕ → List A → List A
piece start count xs = take count (drop start xs)

-- a range of the one is replaced by the other
abbrev pub spliced : {A : Type 0} → List A → ℕ → List A → List A
spliced xs start ys = take start xs ++ (ys ++ drop (start + length ys) xs)

-- ---- enums

abbrev pub on_enum : Thing → (CliType → Value → Option State) → Option State
on_enum (Boxed (EnumOf e class) value) go = go (EnumOf e class) value
on_enum (Boxed type value) go = None
on_enum (Instance class fields) go = None
on_enum (Text units) go = None
on_enum (Elements element values) go = None
on_enum (StaticCell type value) go = None

abbrev pub same_number_value : Value → Value → Bool
same_number_value (Int a) (Int b) = cast_unsigned w32 a == cast_unsigned w32 b
same_number_value (Long a) (Long b) = cast_unsigned w64 a == cast_unsigned w64 b
same_number_value _ _ = false

abbrev pub is_box_of : CliType → Value → Thing → Bool
is_box_of type value (Boxed own v) = type_eq own type && same_number_value v value
is_box_of type value (Instance class fields) = false
is_box_of type value (Text units) = false
is_box_of type value (Elements element values) = false
is_box_of type value (StaticCell own v) = false

-- whether a reference names a box of the same type and number
abbrev pub equals_box : List Thing → CliType → Value → Value → Option Bool
equals_box heap type value Null = Some false
equals_box heap type value (Object n) = option_map (is_box_of type value) (thing_at heap n)
equals_box heap type value (Int n) = None
equals_box heap type value (Long n) = None
equals_box heap type value (Handle h) = None
equals_box heap type value (Pointer c x) = None

abbrev pub number_text : Option Cell → Value → Option (List ℕ)
number_text (Some (Bits integer)) v = option_map decimal_text (number_in integer v)
number_text (Some Refers) v = None
number_text None v = None

-- ---- arrays

-- an array, or null
abbrev pub on_array_or_null : List Thing → Value → Option State → Option State
on_array_or_null heap (Object n) go = on_some (thing_at heap n) (λ x. on_elements x (λ element values. go))
on_array_or_null heap Null go = go
on_array_or_null heap (Int n) go = None
on_array_or_null heap (Long n) go = None
on_array_or_null heap (Handle h) go = None
on_array_or_null heap (Pointer c x) go = None

-- a range of the one array is copied into the other, which may be the same
unfoldable pub copy_elements : Program → State → Frame → List Frame → ℕ → List Value → ℕ → CliType → List Value → CliType → List Value → ℤ → ℤ → ℤ → Option State
copy_elements p s f fs next rest object from vs to ws i j n =
    if type_eq from to
    then (
    if is_negative i || (is_negative j || is_negative n) then raise p s ArgumentOutOfRange
    else if nat_lt (length vs) (unsigned_abs i + unsigned_abs n) || nat_lt (length ws) (unsigned_abs j + unsigned_abs n) then raise p s Argument
    else goes p (record s { heap = put_thing s.heap object (Elements to (spliced ws (unsigned_abs j) (piece (unsigned_abs i) (unsigned_abs n) vs))) }) f fs next rest
    )
    else raise p s ArrayTypeMismatch

-- so many numbers from their bytes, the lowest byte first
abbrev pub numbers_of : IntegerType → ℕ → List ℕ → List Value
numbers_of integer zero bytes = []
numbers_of integer (suc n) bytes = cut integer (little_endian (take (bytes_of integer) bytes)) ∷ numbers_of integer n (drop (bytes_of integer) bytes)

abbrev pub initialise : Program → State → Frame → List Frame → ℕ → List Value → ℕ → CliType → List Value → List ℕ → Cell → Option State
initialise p s f fs next rest object element values bytes Refers = raise p s Argument
initialise p s f fs next rest object element values bytes (Bits integer) =
    if nat_lt (length bytes) (length values * bytes_of integer) then raise p s Argument
    else goes p (record s { heap = put_thing s.heap object (Elements element (numbers_of integer (length values) bytes)) }) f fs next rest

-- ---- the natives

abbrev pub on_string : Program → State → Value → (List ℕ → Option State) → Option State
on_string p s v go = on_thing p s v (λ n thing. on_some (units_of thing) go)

unfoldable pub object_to_string : Program → State → Frame → List Frame → ℕ → List Value → List Value → Option State
object_to_string p s f fs next rest arguments =
    on_top arguments (λ this none.
    on_thing p s this (λ n thing.
    on_some (type_of thing) (λ type.
    on_some (name_of p type) (λ units. new_text p s f fs next rest units))))

unfoldable pub enum_equals : Program → State → Frame → List Frame → ℕ → List Value → List Value → Option State
enum_equals p s f fs next rest arguments =
    on_top arguments (λ this more.
    on_top more (λ other none.
    on_thing p s this (λ n thing.
    on_enum thing (λ type value.
    on_some (equals_box s.heap type value other) (λ b. goes p s f fs next (of_bool b ∷ rest))))))

unfoldable pub enum_to_string : Program → State → Frame → List Frame → ℕ → List Value → List Value → Option State
enum_to_string p s f fs next rest arguments =
    on_top arguments (λ this none.
    on_thing p s this (λ n thing.
    on_enum thing (λ type value.
    on_some (number_text (cell_of type) value) (λ units. new_text p s f fs next rest units))))

unfoldable pub array_length : Program → State → Frame → List Frame → ℕ → List Value → List Value → Option State
array_length p s f fs next rest arguments =
    on_top arguments (λ this none.
    on_thing p s this (λ n thing.
    on_elements thing (λ element values. goes p s f fs next (length_value (length values) ∷ rest))))

unfoldable pub array_copy : Program → State → Frame → List Frame → ℕ → List Value → List Value → Option State
array_copy p s f fs next rest arguments =
    on_top arguments (λ source more.
    on_top more (λ i more.
    on_top more (λ destination more.
    on_top more (λ j more.
    on_top more (λ n none.
    on_some (as_int i) (λ i.
    on_some (as_int j) (λ j.
    on_some (as_int n) (λ n.
    on_array_or_null s.heap source (on_array_or_null s.heap destination (
    on_thing_or p s ArgumentNull source (λ a x.
    on_thing_or p s ArgumentNull destination (λ b y.
    on_elements x (λ from vs.
    on_elements y (λ to ws. copy_elements p s f fs next rest b from vs to ws i j n))))))))))))))

unfoldable pub string_length : Program → State → Frame → List Frame → ℕ → List Value → List Value → Option State
string_length p s f fs next rest arguments =
    on_top arguments (λ this none. on_string p s this (λ units. goes p s f fs next (length_value (length units) ∷ rest)))

unfoldable pub string_chars : Program → State → Frame → List Frame → ℕ → List Value → List Value → Option State
string_chars p s f fs next rest arguments =
    on_top arguments (λ this more.
    on_top more (λ index none.
    on_some (as_int index) (λ i.
    on_string p s this (λ units.
    if is_negative i then raise p s IndexOutOfRange
    else or_raise p s IndexOutOfRange (slice_get units (index_of i)) (λ u. goes p s f fs next (Int (pos u) ∷ rest))))))

unfoldable pub string_concat : Program → State → Frame → List Frame → ℕ → List Value → List Value → Option State
string_concat p s f fs next rest arguments =
    on_top arguments (λ a more.
    on_top more (λ b none.
    on_some (text_at s.heap a) (λ x.
    on_some (text_at s.heap b) (λ y. new_text p s f fs next rest (or_empty x ++ or_empty y)))))

unfoldable pub string_substring : Program → State → Frame → List Frame → ℕ → List Value → List Value → Option State
string_substring p s f fs next rest arguments =
    on_top arguments (λ this more.
    on_top more (λ start more.
    on_top more (λ count none.
    on_some (as_int start) (λ i.
    on_some (as_int count) (λ n.
    on_string p s this (λ units.
    if is_range (length units) i n
    then new_text p s f fs next rest (piece (unsigned_abs i) (unsigned_abs n) units)
    else raise p s ArgumentOutOfRange))))))

unfoldable pub string_equals : Program → State → Frame → List Frame → ℕ → List Value → List Value → Option State
string_equals p s f fs next rest arguments =
    on_top arguments (λ a more.
    on_top more (λ b none.
    on_some (text_at s.heap a) (λ x.
    on_some (text_at s.heap b) (λ y. goes p s f fs next (of_bool (texts_equal x y) ∷ rest)))))

unfoldable pub string_compare : Program → State → Frame → List Frame → ℕ → List Value → List Value → Option State
string_compare p s f fs next rest arguments =
    on_top arguments (λ a more.
    on_top more (λ b none.
    on_some (text_at s.heap a) (λ x.
    on_some (text_at s.heap b) (λ y. goes p s f fs next (Int (texts_compared x y) ∷ rest)))))

unfoldable pub string_from_chars : Program → State → Frame → List Frame → ℕ → List Value → List Value → Option State
string_from_chars p s f fs next rest arguments =
    on_top arguments (λ array more.
    on_top more (λ start more.
    on_top more (λ count none.
    on_some (as_int start) (λ i.
    on_some (as_int count) (λ n.
    on_thing_or p s ArgumentNull array (λ object thing.
    on_elements thing (λ element values.
    on_cell element (Bits U2) (λ cell.
    if is_range (length values) i n
    then new_text p s f fs next rest (map unit_of (piece (unsigned_abs i) (unsigned_abs n) values))
    else raise p s ArgumentOutOfRange))))))))

unfoldable pub string_from_char : Program → State → Frame → List Frame → ℕ → List Value → List Value → Option State
string_from_char p s f fs next rest arguments =
    on_top arguments (λ c none. on_some (as_int c) (λ n. new_text p s f fs next rest (unit_of (Int n) ∷ [])))

unfoldable pub number_signed : Program → State → Frame → List Frame → ℕ → List Value → List Value → Option State
number_signed p s f fs next rest arguments =
    on_top arguments (λ v none. on_some (as_long v) (λ n. new_text p s f fs next rest (decimal_text n)))

unfoldable pub number_unsigned : Program → State → Frame → List Frame → ℕ → List Value → List Value → Option State
number_unsigned p s f fs next rest arguments =
    on_top arguments (λ v none. on_some (as_long v) (λ n. new_text p s f fs next rest (decimal (cast_unsigned w64 n))))

unfoldable pub initialize_array : Program → State → Frame → List Frame → ℕ → List Value → List Value → Option State
initialize_array p s f fs next rest arguments =
    on_top arguments (λ array more.
    on_top more (λ handle none.
    on_some (as_handle handle) (λ field.
    on_some (p.bytes field) (λ bytes.
    on_thing p s array (λ object thing.
    on_elements thing (λ element values.
    on_some (cell_of element) (λ cell. initialise p s f fs next rest object element values bytes cell)))))))

unfoldable pub debug_print : Program → State → Frame → List Frame → ℕ → List Value → List Value → Option State
debug_print p s f fs next rest arguments =
    on_top arguments (λ v none.
    on_some (text_at s.heap v) (λ x. goes p (record s { output = s.output ++ printed (or_empty x) }) f fs next rest))

abbrev pub native : Program → State → Frame → List Frame → ℕ → List Value → NativeName → List Value → Option State
native p s f fs next rest ObjectToString arguments = object_to_string p s f fs next rest arguments
native p s f fs next rest EnumEquals arguments = enum_equals p s f fs next rest arguments
native p s f fs next rest EnumToString arguments = enum_to_string p s f fs next rest arguments
native p s f fs next rest ArrayLength arguments = array_length p s f fs next rest arguments
native p s f fs next rest ArrayCopy arguments = array_copy p s f fs next rest arguments
native p s f fs next rest StringLength arguments = string_length p s f fs next rest arguments
native p s f fs next rest StringChars arguments = string_chars p s f fs next rest arguments
native p s f fs next rest StringConcat arguments = string_concat p s f fs next rest arguments
native p s f fs next rest StringSubstring arguments = string_substring p s f fs next rest arguments
native p s f fs next rest StringEquals arguments = string_equals p s f fs next rest arguments
native p s f fs next rest StringCompare arguments = string_compare p s f fs next rest arguments
native p s f fs next rest StringFromChars arguments = string_from_chars p s f fs next rest arguments
native p s f fs next rest StringFromChar arguments = string_from_char p s f fs next rest arguments
native p s f fs next rest NumberSigned arguments = number_signed p s f fs next rest arguments
native p s f fs next rest NumberUnsigned arguments = number_unsigned p s f fs next rest arguments
native p s f fs next rest InitializeArray arguments = initialize_array p s f fs next rest arguments
native p s f fs next rest DebugPrint arguments = debug_print p s f fs next rest arguments
