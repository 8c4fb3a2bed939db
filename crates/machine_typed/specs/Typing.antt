-- The types of values on the stack, and what each instruction makes of them (III.1.8).
use Rattle.std.specs.Prelude.{Bool, true, false, ◌&&◌, List, [], ◌∷◌, map, length, Option, Some, None, slice_get, is_some}
use Rattle.std.specs.Option.{option_map}
use Rattle.cil_opcodes.specs.declared.shape.Comparison.{Comparison}
use Rattle.cil_opcodes.specs.declared.shape.Comparison.TheVariants.{Equal, Greater, GreaterUnsigned, Less, LessUnsigned}
use Rattle.plain_types.specs.declared.elem.Elem.TheVariants as elem
use Rattle.machine.specs.Data.{CliType, Basic, EnumOf, ClassOf, ValueOf, ArrayOf, PlaceType, Plain, To, Cell, Bits, Refers, cell_of, elem_cell, type_eq, Value, Int, Long, Null, Object, Handle, Pointer}
use Rattle.machine.specs.Program.{Program, Access, Exact, Typed, Method, Body, Code, Native, Missing, Instruction, Nop, Push, Dup, Pop, LoadArgument, StoreArgument, LoadArgumentAddress, LoadLocal, StoreLocal, LoadLocalAddress, Binary, Shift, Unary, Compare, Convert, ConvertChecked, Branch, BranchIf, BranchCompare, Switch, Call, CallVirtual, NewObject, Return, LoadField, StoreField, LoadFieldAddress, LoadStatic, StoreStatic, LoadStaticAddress, LoadText, LoadIndirect, StoreIndirect, NewArray, LoadLength, LoadElement, StoreElement, LoadElementAddress, CastClass, IsInstance, Box, Unbox, UnboxAny, Throw, Rethrow, Leave, EndFinally}
use Rattle.machine.specs.Numbers.{is_long, same_width, PlaceKind, Holds, HoldsPointer, HoldsHandle, kind_of_type}
use Rattle.machine.specs.Throw.{on_some}
use Rattle.machine.specs.Rows.{on_top, on_two, on_three, take_arguments}

-- an int32 and all smaller numbers, an int64, null, a reference to an object of a type (of a value type to a box), a field
-- handle, a managed pointer to a place of a type; and what no value has, as a place of type void
pub data StackType : Type 0 where
  I : StackType
  L : StackType
  Nil : StackType
  O : (type : CliType) → StackType
  H : StackType
  P : (type : CliType) → StackType
  Never : StackType

-- ---- types of places

-- a number of 64 bits or fewer
abbrev pub number : Bool → StackType
number true = L
number false = I

-- what lies in a cell of a place of the type
abbrev pub held : Cell → CliType → StackType
held (Bits integer) type = number (is_long integer)
held Refers type = O type

abbrev pub in_place : Option PlaceKind → CliType → StackType
in_place None type = Never
in_place (Some (Holds cell)) type = held cell type
in_place (Some (HoldsPointer cell)) type = Never
in_place (Some HoldsHandle) type = H

-- the stack type of a value loaded from a place of the type
abbrev pub of_type : CliType → StackType
of_type type = in_place (kind_of_type type) type

abbrev pub loaded : PlaceType → StackType
loaded (Plain type) = of_type type
loaded (To type) = P type

-- a primitive, an enum or a reference type
abbrev pub is_plain : CliType → Bool
is_plain (Basic e) = is_some (elem_cell e)
is_plain (EnumOf e class) = is_some (elem_cell e)
is_plain (ClassOf class) = true
is_plain (ValueOf class) = false
is_plain (ArrayOf element) = is_plain element

abbrev pub is_plain_place : PlaceType → Bool
is_plain_place (Plain type) = is_plain type
is_plain_place (To type) = false

abbrev pub is_bits : Option Cell → Bool
is_bits (Some (Bits integer)) = true
is_bits (Some Refers) = false
is_bits None = false

-- a primitive or an enum
abbrev pub is_number : CliType → Bool
is_number type = is_bits (cell_of type)

abbrev pub is_refers : Option Cell → Bool
is_refers (Some Refers) = true
is_refers (Some (Bits integer)) = false
is_refers None = false

abbrev pub width_is : Option Cell → Cell → Bool
width_is None wide = false
width_is (Some cell) wide = same_width cell wide

-- whether places of the type are as wide
abbrev pub has_width : CliType → Cell → Bool
has_width type wide = width_is (cell_of type) wide

abbrev pub agree_by : Option Cell → Option Cell → Bool → Bool
agree_by (Some (Bits a)) (Some (Bits b)) same = same_width (Bits a) (Bits b)
agree_by (Some Refers) (Some Refers) same = same
agree_by None None same = same
agree_by _ _ same = false

-- whether types agree: numbers by their width, references where they are equal
abbrev pub agrees : CliType → CliType → Bool
agrees a b = agree_by (cell_of a) (cell_of b) (type_eq a b)

-- ---- assignable (III.1.8.1.2)

abbrev pub assignable : Program → StackType → StackType → Bool
assignable p I I = true
assignable p L L = true
assignable p H H = true
assignable p Never Never = true
assignable p Nil Nil = true
assignable p Nil (O b) = true
assignable p (O a) (O b) = p.fits a b
assignable p (P a) (P b) = agrees a b
assignable p _ _ = false

abbrev pub all_assignable : Program → List StackType → List StackType → Bool
all_assignable p [] [] = true
all_assignable p [] (u ∷ us) = false
all_assignable p (t ∷ ts) [] = false
all_assignable p (t ∷ ts) (u ∷ us) = assignable p t u && all_assignable p ts us

-- ---- operands

abbrev pub when : {A : Type 0} → Bool → Option A → Option A
when true o = o
when false o = None

-- what an operator looks at first
pub data Sort : Type 0 where
  IntSort : Sort
  LongSort : Sort
  ReferenceSort : Sort
  OtherSort : Sort

abbrev pub sort_of : StackType → Sort
sort_of I = IntSort
sort_of L = LongSort
sort_of Nil = ReferenceSort
sort_of (O type) = ReferenceSort
sort_of H = OtherSort
sort_of (P type) = OtherSort
sort_of Never = OtherSort

-- two numbers of one width (III.1.5, tables 2, 5 and 7)
abbrev pub binary_type : Sort → Sort → Option StackType
binary_type IntSort IntSort = Some I
binary_type LongSort LongSort = Some L
binary_type _ _ = None

-- a number by an int32 (III.1.5, table 6)
abbrev pub shift_type : Sort → Sort → Option StackType
shift_type IntSort IntSort = Some I
shift_type LongSort IntSort = Some L
shift_type _ _ = None

abbrev pub unary_type : Sort → Option StackType
unary_type IntSort = Some I
unary_type LongSort = Some L
unary_type _ = None

-- what compares references: `ceq`, and `cgt.un`, which tells that they aren't the same
abbrev pub compares_references : Comparison → Bool
compares_references Equal = true
compares_references GreaterUnsigned = true
compares_references Greater = false
compares_references Less = false
compares_references LessUnsigned = false

-- branches compare references by `beq` and `bne.un` alone
abbrev pub branches_on_references : Comparison → Bool
branches_on_references Equal = true
branches_on_references _ = false

-- whether two values are compared (III.1.5, table 4)
abbrev pub is_comparable : Bool → Sort → Sort → Bool
is_comparable references IntSort IntSort = true
is_comparable references LongSort LongSort = true
is_comparable references ReferenceSort ReferenceSort = references
is_comparable references _ _ = false

abbrev pub is_condition : Sort → Bool
is_condition OtherSort = false
is_condition _ = true

abbrev pub is_int : StackType → Bool
is_int I = true
is_int _ = false

abbrev pub is_reference : StackType → Bool
is_reference Nil = true
is_reference (O type) = true
is_reference _ = false

abbrev pub pointee : StackType → Option CliType
pointee (P type) = Some type
pointee _ = None

-- an array of a type, or null
pub data ArrayKind : Type 0 where
  NullArray : ArrayKind
  ArrayWith : (element : CliType) → ArrayKind

abbrev pub array_of : StackType → Option ArrayKind
array_of Nil = Some NullArray
array_of (O (ArrayOf element)) = Some (ArrayWith element)
array_of _ = None

abbrev pub type_of_constant : Program → Value → Option StackType
type_of_constant p (Int n) = Some I
type_of_constant p (Long n) = Some L
type_of_constant p Null = Some Nil
type_of_constant p (Object n) = None
type_of_constant p (Handle field) = option_map (λ bytes. H) (p.bytes field)
type_of_constant p (Pointer cell spot) = None

-- ---- memory

-- whether a pointer to a place of the type takes the access
abbrev pub pointer_takes : Access → CliType → Bool
pointer_takes (Exact cell) type = has_width type cell
pointer_takes (Typed operand) type = is_plain operand && agrees type operand

-- what is loaded by the access from a place of the type, and what may be stored there
abbrev pub accessed : Access → CliType → StackType
accessed (Exact cell) type = held cell type
accessed (Typed operand) type = of_type operand

-- whether an array takes the access
abbrev pub array_takes : Program → Access → ArrayKind → Bool
array_takes p (Exact cell) NullArray = true
array_takes p (Exact cell) (ArrayWith element) = has_width element cell
array_takes p (Typed operand) NullArray = is_plain operand
array_takes p (Typed operand) (ArrayWith element) = is_plain operand && p.fits (ArrayOf element) (ArrayOf operand)

-- what is loaded of an array; of a null array by `ldelem.ref` that is null
abbrev pub element_loaded : Access → ArrayKind → StackType
element_loaded (Exact (Bits integer)) array = number (is_long integer)
element_loaded (Exact Refers) NullArray = Nil
element_loaded (Exact Refers) (ArrayWith element) = O element
element_loaded (Typed operand) array = of_type operand

-- what may be stored in an array: any reference by `stelem.ref`, which tests it as it runs
abbrev pub element_takes : Program → Access → StackType → Bool
element_takes p (Exact (Bits integer)) t = assignable p t (number (is_long integer))
element_takes p (Exact Refers) t = is_reference t
element_takes p (Typed operand) t = assignable p t (of_type operand)

-- ---- methods

abbrev pub with_type : Option PlaceType → List StackType → List StackType
with_type None rest = rest
with_type (Some type) rest = loaded type ∷ rest

abbrev pub has_body : Body → Bool
has_body Code = true
has_body (Native name) = true
has_body Missing = false

-- the arguments of a method go, its result comes
abbrev pub call_types : Program → Method → List StackType → Option (List StackType)
call_types p m ts =
    on_some (take_arguments (length m.arguments) ts []) (λ t.
    when (all_assignable p t.arguments (map loaded m.arguments)) (Some (with_type m.returns t.rest)))

-- a method of a class or an interface takes a reference first
abbrev pub has_receiver : List PlaceType → Bool
has_receiver (Plain type ∷ others) = is_refers (cell_of type)
has_receiver (To type ∷ others) = false
has_receiver [] = false

abbrev pub is_plain_code : Body → Option PlaceType → Bool
is_plain_code Code None = true
is_plain_code _ _ = false

abbrev pub if_empty : List StackType → Option (List StackType)
if_empty [] = Some []
if_empty (t ∷ ts) = None

abbrev pub result_types : Program → Option PlaceType → List StackType → Option (List StackType)
result_types p None ts = if_empty ts
result_types p (Some type) ts = on_top ts (λ t rest. when (assignable p t (loaded type)) (if_empty rest))

-- the address of a place of a primitive, an enum or a reference type
abbrev pub address_type : PlaceType → List StackType → Option (List StackType)
address_type (Plain type) ts = when (is_plain type) (Some (P type ∷ ts))
address_type (To type) ts = None

-- ---- what an instruction of a method makes of the types on the stack, where `exception` is System.Exception

abbrev pub effect : Program → CliType → Method → Instruction → List StackType → Option (List StackType)
effect p exception m Nop ts = Some ts
effect p exception m (Push v) ts = on_some (type_of_constant p v) (λ t. Some (t ∷ ts))
effect p exception m Dup ts = on_top ts (λ t rest. Some (t ∷ t ∷ rest))
effect p exception m Pop ts = on_top ts (λ t rest. Some rest)
effect p exception m (LoadArgument n) ts = on_some (slice_get m.arguments n) (λ k. Some (loaded k ∷ ts))
effect p exception m (StoreArgument n) ts =
    on_some (slice_get m.arguments n) (λ k. on_top ts (λ t rest. when (assignable p t (loaded k)) (Some rest)))
effect p exception m (LoadArgumentAddress n) ts =
    on_some (slice_get m.arguments n) (λ k. address_type k ts)
effect p exception m (LoadLocal n) ts = on_some (slice_get m.locals n) (λ k. Some (loaded k ∷ ts))
effect p exception m (StoreLocal n) ts =
    on_some (slice_get m.locals n) (λ k. on_top ts (λ t rest. when (assignable p t (loaded k)) (Some rest)))
effect p exception m (LoadLocalAddress n) ts =
    on_some (slice_get m.locals n) (λ k. address_type k ts)
effect p exception m (Binary operator) ts =
    on_two ts (λ x y rest. on_some (binary_type (sort_of x) (sort_of y)) (λ t. Some (t ∷ rest)))
effect p exception m (Shift operator) ts =
    on_two ts (λ x y rest. on_some (shift_type (sort_of x) (sort_of y)) (λ t. Some (t ∷ rest)))
effect p exception m (Unary operator) ts = on_top ts (λ x rest. on_some (unary_type (sort_of x)) (λ t. Some (t ∷ rest)))
effect p exception m (Compare comparison) ts =
    on_two ts (λ x y rest. when (is_comparable (compares_references comparison) (sort_of x) (sort_of y)) (Some (I ∷ rest)))
effect p exception m (Convert integer) ts =
    on_top ts (λ x rest. on_some (unary_type (sort_of x)) (λ t. Some (number (is_long integer) ∷ rest)))
effect p exception m (ConvertChecked integer source) ts =
    on_top ts (λ x rest. on_some (unary_type (sort_of x)) (λ t. Some (number (is_long integer) ∷ rest)))
effect p exception m (Branch target) ts = Some ts
effect p exception m (BranchIf on target) ts = on_top ts (λ t rest. when (is_condition (sort_of t)) (Some rest))
effect p exception m (BranchCompare comparison on target) ts =
    on_two ts (λ x y rest. when (is_comparable (branches_on_references comparison) (sort_of x) (sort_of y)) (Some rest))
effect p exception m (Switch targets) ts = on_top ts (λ t rest. when (is_int t) (Some rest))
effect p exception m (Call id) ts = on_some (p.method id) (λ c. when (has_body c.body) (call_types p c ts))
effect p exception m (CallVirtual id) ts = on_some (p.method id) (λ c. when (has_receiver c.arguments) (call_types p c ts))
effect p exception m (NewObject class constructor) ts =
    on_some (p.method constructor) (λ c.
    on_some (p.fields class) (λ types.
    on_top c.arguments (λ this others.
    on_some (take_arguments (length others) ts []) (λ t.
    when (is_plain_code c.body c.returns && all_assignable p (O (ClassOf class) ∷ t.arguments) (map loaded c.arguments)) (Some (O (ClassOf class) ∷ t.rest))))))
effect p exception m Return ts = result_types p m.returns ts
effect p exception m (LoadField owner n) ts =
    on_top ts (λ t rest.
    when (assignable p t (O (ClassOf owner))) (on_some (p.fields owner) (λ types. on_some (slice_get types n) (λ type. Some (of_type type ∷ rest)))))
effect p exception m (StoreField owner n) ts =
    on_two ts (λ t v rest.
    when (assignable p t (O (ClassOf owner))) (on_some (p.fields owner) (λ types. on_some (slice_get types n) (λ type. when (assignable p v (of_type type)) (Some rest)))))
effect p exception m (LoadFieldAddress owner n) ts =
    on_top ts (λ t rest.
    when (assignable p t (O (ClassOf owner))) (on_some (p.fields owner) (λ types. on_some (slice_get types n) (λ type. Some (P type ∷ rest)))))
effect p exception m (LoadStatic id) ts = on_some (p.static id) (λ type. when (is_plain type) (Some (of_type type ∷ ts)))
effect p exception m (StoreStatic id) ts =
    on_some (p.static id) (λ type. when (is_plain type) (on_top ts (λ t rest. when (assignable p t (of_type type)) (Some rest))))
effect p exception m (LoadStaticAddress id) ts = on_some (p.static id) (λ type. when (is_plain type) (Some (P type ∷ ts)))
effect p exception m (LoadText units) ts = Some (O (Basic elem.String) ∷ ts)
effect p exception m (LoadIndirect access) ts =
    on_top ts (λ t rest. on_some (pointee t) (λ type. when (pointer_takes access type) (Some (accessed access type ∷ rest))))
effect p exception m (StoreIndirect access) ts =
    on_two ts (λ t v rest. on_some (pointee t) (λ type. when (pointer_takes access type && assignable p v (accessed access type)) (Some rest)))
effect p exception m (NewArray element) ts = on_top ts (λ t rest. when (is_int t && is_plain element) (Some (O (ArrayOf element) ∷ rest)))
effect p exception m LoadLength ts = on_top ts (λ t rest. on_some (array_of t) (λ array. Some (I ∷ rest)))
effect p exception m (LoadElement access) ts =
    on_two ts (λ t index rest. on_some (array_of t) (λ array. when (is_int index && array_takes p access array) (Some (element_loaded access array ∷ rest))))
effect p exception m (StoreElement access) ts =
    on_three ts (λ t index v rest. on_some (array_of t) (λ array. when (is_int index && (array_takes p access array && element_takes p access v)) (Some rest)))
effect p exception m (LoadElementAddress type) ts =
    on_two ts (λ t index rest. on_some (array_of t) (λ array. when (is_int index && array_takes p (Typed type) array) (Some (P type ∷ rest))))
effect p exception m (CastClass type) ts = on_top ts (λ t rest. when (is_reference t && is_plain type) (Some (O type ∷ rest)))
effect p exception m (IsInstance type) ts = on_top ts (λ t rest. when (is_reference t && is_plain type) (Some (O type ∷ rest)))
effect p exception m (Box type) ts = on_top ts (λ t rest. when (is_number type && assignable p t (of_type type)) (Some (O type ∷ rest)))
effect p exception m (Unbox type) ts = on_top ts (λ t rest. when (is_reference t && is_number type) (Some (P type ∷ rest)))
effect p exception m (UnboxAny type) ts = on_top ts (λ t rest. when (is_reference t && is_plain type) (Some (of_type type ∷ rest)))
effect p exception m Throw ts = on_top ts (λ t rest. when (assignable p t (O exception)) (Some []))
effect p exception m (Rethrow k) ts = Some []
effect p exception m (Leave target) ts = Some []
effect p exception m (EndFinally k) ts = if_empty ts
