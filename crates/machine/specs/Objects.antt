-- Rows on objects: fields, static fields, strings, arrays, boxes and casts (III.4).
use Rattle.std.specs.Prelude.{ℕ, unsigned_abs, Bool, true, ◌&&◌, ◌||◌, if◌then◌else◌, List, [], ◌∷◌, ◌++◌, length, replicate, Option, Some, None, is_some, slice_get, slice_set}
use Rattle.std.specs.Option.{option_map}
use Rattle.board_types.specs.declared.board.Known.TheVariants.{IndexOutOfRange, Overflow, InvalidCast, ArrayTypeMismatch}
use Rattle.plain_types.specs.declared.elem.Elem.TheVariants as elem
use Rattle.machine.specs.Data.{Id, id_eq, thing_at, put_thing, end_of, type_of, type_eq, CliType, Basic, EnumOf, ClassOf, ValueOf, ArrayOf, Plain, Cell, Bits, Refers, cell_of, InObject, Value, Int, Long, Null, Object, Handle, Pointer, Thing, Instance, Text, Elements, Boxed, StaticCell, Frame, Literal, Static, State}
use Rattle.machine.specs.Program.{Program, Access, access_cell}
use Rattle.machine.specs.Numbers.{is_negative, kept, kept_in, zero_of, as_int}
use Rattle.machine.specs.Texts.{same_text}
use Rattle.machine.specs.Natives.{class_of_type}
use Rattle.machine.specs.Throw.{on_some, goes, raise}
use Rattle.machine.specs.Rows.{on_top, on_two, on_three, on_thing, on_instance, on_elements, on_cell, or_raise, length_value, index_of, read, write, on_pointer}

-- ---- fields (III.4.10, III.4.11, III.4.28)

unfoldable pub load_field : Program → State → Frame → List Frame → ℕ → Id → ℕ → Option State
load_field p s f fs next owner n =
    on_top f.stack (λ this rest.
    on_thing p s this (λ object thing.
    on_instance p owner thing (λ class fields.
    on_some (slice_get fields n) (λ v. goes p s f fs next (v ∷ rest)))))

unfoldable pub store_field : Program → State → Frame → List Frame → ℕ → Id → ℕ → Option State
store_field p s f fs next owner n =
    on_two f.stack (λ this v rest.
    on_some (p.fields owner) (λ types.
    on_some (slice_get types n) (λ type.
    on_some (kept (Plain type) v) (λ w.
    on_thing p s this (λ object thing.
    on_instance p owner thing (λ class fields.
    goes p (record s { heap = put_thing s.heap object (Instance class (slice_set fields n w)) }) f fs next rest))))))

unfoldable pub load_field_address : Program → State → Frame → List Frame → ℕ → Id → ℕ → Option State
load_field_address p s f fs next owner n =
    on_top f.stack (λ this rest.
    on_some (p.fields owner) (λ types.
    on_some (slice_get types n) (λ type.
    on_some (cell_of type) (λ cell.
    on_thing p s this (λ object thing.
    on_instance p owner thing (λ class fields. goes p s f fs next (Pointer cell (InObject object n) ∷ rest)))))))

-- ---- static fields (III.4.14, III.4.15, III.4.30)

abbrev pub static_object : List Static → Id → Option ℕ
static_object [] id = None
static_object (x ∷ xs) id = if id_eq x.field id then Some x.object else static_object xs id

abbrev pub static_of : Thing → Option Value
static_of (StaticCell type value) = Some value
static_of (Instance class fields) = None
static_of (Text units) = None
static_of (Elements element values) = None
static_of (Boxed type value) = None

abbrev pub static_at : List Thing → ℕ → Option Value
static_at heap n = on_some (thing_at heap n) static_of

-- a static field's cell, which its first access makes
pub record Reached : Type 0 where
  pub state : State
  pub object : ℕ
  pub type : CliType

abbrev pub reached : State → Id → CliType → Option ℕ → Reached
reached s id type (Some n) = record { state = s; object = n; type = type }
reached s id type None =
    record {
      state = record s { heap = s.heap ++ StaticCell type (zero_of type) ∷ []; statics = record { field = id; object = end_of s.heap } ∷ s.statics };
      object = end_of s.heap;
      type = type;
    }

abbrev pub static_reached : Program → State → Id → Option Reached
static_reached p s id = option_map (λ type. reached s id type (static_object s.statics id)) (p.static id)

unfoldable pub load_static : Program → State → Frame → List Frame → ℕ → Id → Option State
load_static p s f fs next id =
    on_some (static_reached p s id) (λ x. on_some (static_at x.state.heap x.object) (λ v. goes p x.state f fs next (v ∷ f.stack)))

unfoldable pub store_static : Program → State → Frame → List Frame → ℕ → Id → Option State
store_static p s f fs next id =
    on_some (static_reached p s id) (λ x.
    on_some (static_at x.state.heap x.object) (λ old.
    on_top f.stack (λ v rest.
    on_some (kept (Plain x.type) v) (λ w. goes p (record x.state { heap = put_thing x.state.heap x.object (StaticCell x.type w) }) f fs next rest))))

unfoldable pub load_static_address : Program → State → Frame → List Frame → ℕ → Id → Option State
load_static_address p s f fs next id =
    on_some (static_reached p s id) (λ x. on_some (cell_of x.type) (λ cell. goes p x.state f fs next (Pointer cell (InObject x.object 0) ∷ f.stack)))

-- ---- literals: equal texts are one object (III.4.16)

abbrev pub literal_object : List Literal → List ℕ → Option ℕ
literal_object [] units = None
literal_object (x ∷ xs) units = if same_text x.text units then Some x.object else literal_object xs units

-- the object of a literal, which its first use makes
unfoldable pub load_text : Program → State → Frame → List Frame → ℕ → List ℕ → Option ℕ → Option State
load_text p s f fs next units (Some n) = goes p s f fs next (Object n ∷ f.stack)
load_text p s f fs next units None =
    goes p (record s { heap = s.heap ++ Text units ∷ []; literals = record { text = units; object = end_of s.heap } ∷ s.literals }) f fs next (Object (end_of s.heap) ∷ f.stack)

-- ---- pointers (III.3.42, III.3.62, III.4.13, III.4.29)

unfoldable pub load_indirect : Program → State → Frame → List Frame → ℕ → Access → Option State
load_indirect p s f fs next access =
    on_some (access_cell access) (λ wide.
    on_top f.stack (λ v rest.
    on_pointer v wide (λ cell spot. on_some (read p s f fs spot) (λ w. on_some (kept_in wide w) (λ x. goes p s f fs next (x ∷ rest))))))

unfoldable pub store_indirect : Program → State → Frame → List Frame → ℕ → Access → Option State
store_indirect p s f fs next access =
    on_some (access_cell access) (λ wide.
    on_two f.stack (λ pointer v rest.
    on_pointer pointer wide (λ cell spot.
    on_some (kept_in cell v) (λ w.
    on_some (write p s f fs spot w) (λ t. goes p t.state (record f { arguments = t.arguments; locals = t.locals }) t.callers next rest)))))

-- ---- whether a reference is assignable to a type (III.1.8.1.2)

-- whether the classes are there of two types that the test looks up by their names: neither where they are equal, or the other one is
-- Object
abbrev pub are_named : Program → CliType → CliType → Bool
are_named p own type =
    type_eq own type || (type_eq type (Basic elem.Object) || (is_some (class_of_type p own) && is_some (class_of_type p type)))

abbrev pub elements_named : Option Cell → Option Cell → Bool → Bool
elements_named (Some Refers) (Some Refers) named = named
elements_named _ _ named = true

-- whether the test finds each class that it looks up by its name: of arrays it is that of arrays, or those of their elements
abbrev pub is_named : Program → CliType → CliType → Bool
is_named p (ArrayOf a) (ArrayOf b) = elements_named (cell_of a) (cell_of b) (is_named p a b)
is_named p (ArrayOf a) (ClassOf class) = is_some p.array
is_named p (ArrayOf a) _ = true
is_named p _ (ArrayOf b) = true
is_named p own type = are_named p own type

abbrev pub fits_named : Program → CliType → CliType → Option Bool
fits_named p own type = if is_named p own type then Some (p.fits own type) else None

abbrev pub value_fits : Program → List Thing → CliType → Value → Option Bool
value_fits p heap type (Object n) = on_some (thing_at heap n) (λ x. on_some (type_of x) (λ own. fits_named p own type))
value_fits p heap type Null = Some true
value_fits p heap type (Int n) = Some true
value_fits p heap type (Long n) = Some true
value_fits p heap type (Handle h) = Some true
value_fits p heap type (Pointer c x) = Some true

-- ---- arrays (III.4.7 to III.4.9, III.4.12, III.4.20, III.4.26, III.4.27)

unfoldable pub new_array : Program → State → Frame → List Frame → ℕ → CliType → Option State
new_array p s f fs next element =
    on_some (cell_of element) (λ cell.
    on_top f.stack (λ v rest.
    on_some (as_int v) (λ n.
    if is_negative n then raise p s Overflow
    else goes p (record s { heap = s.heap ++ Elements element (replicate (unsigned_abs n) (zero_of element)) ∷ [] }) f fs next (Object (end_of s.heap) ∷ rest))))

unfoldable pub load_length : Program → State → Frame → List Frame → ℕ → Option State
load_length p s f fs next =
    on_top f.stack (λ this rest.
    on_thing p s this (λ object thing.
    on_elements thing (λ element values. goes p s f fs next (length_value (length values) ∷ rest))))

unfoldable pub load_element : Program → State → Frame → List Frame → ℕ → Access → Option State
load_element p s f fs next access =
    on_some (access_cell access) (λ wide.
    on_two f.stack (λ this index rest.
    on_some (as_int index) (λ i.
    on_thing p s this (λ object thing.
    on_elements thing (λ element values.
    on_cell element wide (λ cell.
    or_raise p s IndexOutOfRange (slice_get values (index_of i)) (λ v.
    on_some (kept_in wide v) (λ w. goes p s f fs next (w ∷ rest)))))))))

-- a reference is stored only in an array whose elements it is assignable to
unfoldable pub store_element : Program → State → Frame → List Frame → ℕ → Access → Option State
store_element p s f fs next access =
    on_some (access_cell access) (λ wide.
    on_three f.stack (λ this index v rest.
    on_some (as_int index) (λ i.
    on_some (kept_in wide v) (λ w.
    on_thing p s this (λ object thing.
    on_elements thing (λ element values.
    on_cell element wide (λ cell.
    or_raise p s IndexOutOfRange (slice_get values (index_of i)) (λ old.
    on_some (value_fits p s.heap element w) (λ ok.
    if ok
    then on_some (kept_in cell w) (λ x. goes p (record s { heap = put_thing s.heap object (Elements element (slice_set values (index_of i) x)) }) f fs next rest)
    else raise p s ArrayTypeMismatch)))))))))

-- elements that are references have to be of exactly the type, since a pointer to one is written through without a test
abbrev pub is_exact : Cell → CliType → CliType → Bool
is_exact (Bits integer) element type = true
is_exact Refers element type = type_eq element type

unfoldable pub load_element_address : Program → State → Frame → List Frame → ℕ → CliType → Option State
load_element_address p s f fs next type =
    on_some (cell_of type) (λ wide.
    on_two f.stack (λ this index rest.
    on_some (as_int index) (λ i.
    on_thing p s this (λ object thing.
    on_elements thing (λ element values.
    on_cell element wide (λ cell.
    or_raise p s IndexOutOfRange (slice_get values (index_of i)) (λ old.
    if is_exact cell element type
    then goes p s f fs next (Pointer cell (InObject object (index_of i)) ∷ rest)
    else raise p s ArrayTypeMismatch)))))))

-- ---- casts (III.4.3, III.4.6)

unfoldable pub cast_class : Program → State → Frame → List Frame → ℕ → CliType → Option State
cast_class p s f fs next type =
    on_top f.stack (λ v rest.
    on_some (kept_in Refers v) (λ w.
    on_some (value_fits p s.heap type w) (λ ok.
    if ok then goes p s f fs next (w ∷ rest) else raise p s InvalidCast)))

unfoldable pub is_instance : Program → State → Frame → List Frame → ℕ → CliType → Option State
is_instance p s f fs next type =
    on_top f.stack (λ v rest.
    on_some (kept_in Refers v) (λ w.
    on_some (value_fits p s.heap type w) (λ ok.
    goes p s f fs next ((if ok then w else Null) ∷ rest))))

-- ---- boxes (III.4.1, III.4.32, III.4.33)

unfoldable pub box_value : Program → State → Frame → List Frame → ℕ → CliType → Option State
box_value p s f fs next type =
    on_some (cell_of type) (λ cell.
    on_top f.stack (λ v rest.
    on_some (kept_in cell v) (λ w.
    goes p (record s { heap = s.heap ++ Boxed type w ∷ [] }) f fs next (Object (end_of s.heap) ∷ rest))))

-- an enum as its number
abbrev pub number_type : CliType → CliType
number_type (EnumOf e class) = Basic e
number_type (Basic e) = Basic e
number_type (ClassOf class) = ClassOf class
number_type (ValueOf class) = ValueOf class
number_type (ArrayOf element) = ArrayOf element

abbrev pub same_number : CliType → CliType → Bool
same_number a b = type_eq (number_type a) (number_type b)

-- the value in a box of a number
abbrev pub boxed_number : CliType → Thing → Option Value
boxed_number type (Boxed own value) = if same_number own type then Some value else None
boxed_number type (Instance class fields) = None
boxed_number type (Text units) = None
boxed_number type (Elements element values) = None
boxed_number type (StaticCell own value) = None

unfoldable pub unbox : Program → State → Frame → List Frame → ℕ → CliType → Option State
unbox p s f fs next type =
    on_some (cell_of type) (λ cell.
    on_top f.stack (λ v rest.
    on_thing p s v (λ object thing.
    or_raise p s InvalidCast (boxed_number type thing) (λ old. goes p s f fs next (Pointer cell (InObject object 0) ∷ rest)))))

unfoldable pub unbox_value : Program → State → Frame → List Frame → ℕ → CliType → Option State
unbox_value p s f fs next type =
    on_top f.stack (λ v rest.
    on_thing p s v (λ object thing.
    or_raise p s InvalidCast (boxed_number type thing) (λ w. goes p s f fs next (w ∷ rest))))

-- of a reference type it is a cast
abbrev pub unbox_any : Program → State → Frame → List Frame → ℕ → CliType → Cell → Option State
unbox_any p s f fs next type Refers = cast_class p s f fs next type
unbox_any p s f fs next type (Bits integer) = unbox_value p s f fs next type
