-- What a state of the machine is made of.
use Rattle.std.specs.Prelude.{ℕ, ℤ, ◌+◌, ◌-◌, ◌*◌, ◌/◌, Bool, false, ◌==◌, ◌&&◌, nat_lt, if◌then◌else◌, length, List, [], ◌∷◌, Option, Some, None}
use Rattle.cil_opcodes.specs.declared.shape.IntegerType.{IntegerType}
use Rattle.cil_opcodes.specs.declared.shape.IntegerType.TheVariants.{I1, U1, I2, U2, I4, U4, I8, U8}
use Rattle.plain_types.specs.declared.elem.Elem.{Elem}
use Rattle.plain_types.specs.declared.elem.Elem.TheVariants as elem

-- a type, a method or a field: its file or assembly, and its row there
pub record Id : Type 0 where
  pub file : ℕ
  pub row : ℕ

abbrev pub id_eq : Id → Id → Bool
id_eq a b = (a.file == b.file) && (a.row == b.row)

-- a type without pointers (I.8.2)
pub data CliType : Type 0 where
  -- a number, bool or char, and String and Object
  Basic : (elem : Elem) → CliType
  -- an enum, with the element of its number
  EnumOf : (elem : Elem) (class : Id) → CliType
  -- a class or an interface
  ClassOf : (class : Id) → CliType
  -- another value type: System.RuntimeFieldHandle
  ValueOf : (class : Id) → CliType
  ArrayOf : (element : CliType) → CliType

-- the type of a place: a type, or a managed pointer to one
pub data PlaceType : Type 0 where
  Plain : (type : CliType) → PlaceType
  To : (type : CliType) → PlaceType

-- what a place that a pointer leads to holds: the bits of a number, or a reference
pub data Cell : Type 0 where
  Bits : (integer : IntegerType) → Cell
  Refers : Cell

-- where a pointer leads: into the frame up to and with which the frames have so many cells, or to one of the values in an object
-- (a field, an element, what a box or a static field holds)
pub data Spot : Type 0 where
  InArgument : (depth n : ℕ) → Spot
  InLocal : (depth n : ℕ) → Spot
  InObject : (object n : ℕ) → Spot

-- what lies on the stack or in a place (III.1.1)
pub data Value : Type 0 where
  Int : (number : ℤ) → Value
  Long : (number : ℤ) → Value
  Null : Value
  Object : (number : ℕ) → Value
  Handle : (field : Id) → Value
  Pointer : (cell : Cell) (spot : Spot) → Value

-- an object, or the cell of a static field
pub data Thing : Type 0 where
  Instance : (class : Id) (fields : List Value) → Thing
  Text : (units : List ℕ) → Thing
  Elements : (element : CliType) (values : List Value) → Thing
  Boxed : (type : CliType) (value : Value) → Thing
  StaticCell : (type : CliType) (value : Value) → Thing

-- equal types
abbrev pub elem_number : Elem → ℕ
elem_number elem.Void = 0
elem_number elem.Bool = 1
elem_number elem.Char = 2
elem_number elem.I1 = 3
elem_number elem.U1 = 4
elem_number elem.I2 = 5
elem_number elem.U2 = 6
elem_number elem.I4 = 7
elem_number elem.U4 = 8
elem_number elem.I8 = 9
elem_number elem.U8 = 10
elem_number elem.String = 11
elem_number elem.Object = 12
elem_number elem.Class = 13
elem_number elem.Value = 14

abbrev pub type_eq : CliType → CliType → Bool
type_eq (Basic e) (Basic g) = elem_number e == elem_number g
type_eq (EnumOf e c) (EnumOf g d) = (elem_number e == elem_number g) && id_eq c d
type_eq (ClassOf c) (ClassOf d) = id_eq c d
type_eq (ValueOf c) (ValueOf d) = id_eq c d
type_eq (ArrayOf a) (ArrayOf b) = type_eq a b
type_eq _ _ = false

-- how a number of the element lies in a place: bool is unsigned, and a char is a number of two bytes (III.1.1.1)
abbrev pub elem_cell : Elem → Option Cell
elem_cell elem.Void = None
elem_cell elem.Bool = Some (Bits U1)
elem_cell elem.Char = Some (Bits U2)
elem_cell elem.I1 = Some (Bits I1)
elem_cell elem.U1 = Some (Bits U1)
elem_cell elem.I2 = Some (Bits I2)
elem_cell elem.U2 = Some (Bits U2)
elem_cell elem.I4 = Some (Bits I4)
elem_cell elem.U4 = Some (Bits U4)
elem_cell elem.I8 = Some (Bits I8)
elem_cell elem.U8 = Some (Bits U8)
elem_cell elem.String = Some Refers
elem_cell elem.Object = Some Refers
elem_cell elem.Class = None
elem_cell elem.Value = None

-- what a place of the type holds, where that is a number or a reference
abbrev pub cell_of : CliType → Option Cell
cell_of (Basic e) = elem_cell e
cell_of (EnumOf e class) = elem_cell e
cell_of (ClassOf class) = Some Refers
cell_of (ValueOf class) = None
cell_of (ArrayOf element) = Some Refers

abbrev pub bytes_of : IntegerType → ℕ
bytes_of I1 = 1
bytes_of U1 = 1
bytes_of I2 = 2
bytes_of U2 = 2
bytes_of I4 = 4
bytes_of U4 = 4
bytes_of I8 = 8
bytes_of U8 = 8

abbrev pub cell_bytes : Cell → ℕ
cell_bytes (Bits integer) = bytes_of integer
cell_bytes Refers = 4

-- bytes of an element of an array
abbrev pub element_bytes : Option Cell → ℕ
element_bytes None = 0
element_bytes (Some cell) = cell_bytes cell

-- cells of an object: 12 bytes each, behind the first
abbrev pub thing_size : Thing → ℕ
thing_size (Instance class fields) = 1 + length fields
thing_size (Text units) = 1 + (length units + 5) / 6
thing_size (Elements element values) = 1 + (length values * element_bytes (cell_of element) + 11) / 12
thing_size (Boxed type value) = 2
thing_size (StaticCell type value) = 1

-- the number of the next object: the cells of all before it
abbrev pub end_of : List Thing → ℕ
end_of [] = 0
end_of (x ∷ xs) = thing_size x + end_of xs

-- the object whose first cell has this number
abbrev pub thing_at : List Thing → ℕ → Option Thing
thing_at [] n = None
thing_at (x ∷ xs) n = if n == 0 then Some x else (if nat_lt n (thing_size x) then None else thing_at xs (n - thing_size x))

-- an object is replaced by one of its size
abbrev pub put_thing : List Thing → ℕ → Thing → List Thing
put_thing [] n y = []
put_thing (x ∷ xs) n y = if n == 0 then y ∷ xs else (if nat_lt n (thing_size x) then x ∷ xs else x ∷ put_thing xs (n - thing_size x) y)

-- the type of an object (I.8.2.4)
abbrev pub type_of : Thing → Option CliType
type_of (Instance class fields) = Some (ClassOf class)
type_of (Text units) = Some (Basic elem.String)
type_of (Elements element values) = Some (ArrayOf element)
type_of (Boxed type value) = Some type
type_of (StaticCell type value) = None

-- one thing to do on the way to a catch: run the finally of a clause of the frame, or end the frame
pub data Turn : Type 0 where
  Finally : (clause : ℕ) → Turn
  EndFrame : Turn

-- what the slot of a clause holds: the exception that its catch took, or what is left to do after its finally
pub data Slot : Type 0 where
  Nothing : Slot
  Caught : (object : ℕ) → Slot
  Throwing : (turns : List Turn) (catch object : ℕ) → Slot
  Leaving : (finals : List ℕ) (target : ℕ) → Slot

pub record Frame : Type 0 where
  pub method : Id
  -- whether the machine pushed it to initialise a class
  pub initialiser : Bool
  pub place : ℕ
  pub arguments : List Value
  pub locals : List Value
  pub stack : List Value
  pub slots : List Slot

-- a text that `ldstr` has met, and its object
pub record Literal : Type 0 where
  pub text : List ℕ
  pub object : ℕ

-- a static field that was accessed, and its cell
pub record Static : Type 0 where
  pub field : Id
  pub object : ℕ

pub data End : Type 0 where
  Going : End
  Returned : (number : Option ℤ) → End
  Threw : (class : Id) → End

-- the topmost frame stands first, the first object too, the newest literal, static field and started class, and the first byte
pub record State : Type 0 where
  pub frames : List Frame
  pub heap : List Thing
  pub literals : List Literal
  pub statics : List Static
  pub started : List Id
  pub output : List ℕ
  pub end : End
