-- What the machine asks about a program.
use Rattle.std.specs.Prelude.{ℕ, Bool, List, Option, Some}
use Rattle.cil_opcodes.specs.declared.shape.IntegerType.{IntegerType}
use Rattle.cil_opcodes.specs.declared.shape.Sign.{Sign}
use Rattle.cil_opcodes.specs.declared.shape.Operator.{Operator}
use Rattle.cil_opcodes.specs.declared.shape.UnaryOperator.{UnaryOperator}
use Rattle.cil_opcodes.specs.declared.shape.ShiftOperator.{ShiftOperator}
use Rattle.cil_opcodes.specs.declared.shape.Comparison.{Comparison}
use Rattle.board_types.specs.declared.board.Known.{Known}
use Rattle.plain_types.specs.declared.elem.Elem.{Elem}
use Rattle.machine.specs.Data.{Id, CliType, PlaceType, Cell, Value, cell_of}

-- how an instruction reads or writes memory: by a kind of cell, or by a type
pub data Access : Type 0 where
  Exact : (cell : Cell) → Access
  Typed : (type : CliType) → Access

abbrev pub access_cell : Access → Option Cell
access_cell (Exact cell) = Some cell
access_cell (Typed type) = cell_of type

-- an instruction with its operands resolved: places are those of the method's code, a field of an instance is its owner and its
-- number among the owner's fields, and `rethrow` and `endfinally` have the number of the innermost clause of their kind. A target
-- before the code, which nothing checked has, is the computed one modulo 2 ^ 32: a place past all code
pub data Instruction : Type 0 where
  Nop : Instruction
  Push : (value : Value) → Instruction
  Dup : Instruction
  Pop : Instruction
  LoadArgument : (n : ℕ) → Instruction
  StoreArgument : (n : ℕ) → Instruction
  LoadArgumentAddress : (n : ℕ) → Instruction
  LoadLocal : (n : ℕ) → Instruction
  StoreLocal : (n : ℕ) → Instruction
  LoadLocalAddress : (n : ℕ) → Instruction
  Binary : (operator : Operator) → Instruction
  Shift : (operator : ShiftOperator) → Instruction
  Unary : (operator : UnaryOperator) → Instruction
  Compare : (comparison : Comparison) → Instruction
  Convert : (integer : IntegerType) → Instruction
  ConvertChecked : (integer : IntegerType) (source : Sign) → Instruction
  Branch : (target : ℕ) → Instruction
  BranchIf : (on : Bool) (target : ℕ) → Instruction
  BranchCompare : (comparison : Comparison) (on : Bool) (target : ℕ) → Instruction
  Switch : (targets : List ℕ) → Instruction
  Call : (method : Id) → Instruction
  CallVirtual : (method : Id) → Instruction
  NewObject : (class constructor : Id) → Instruction
  Return : Instruction
  LoadField : (owner : Id) (n : ℕ) → Instruction
  StoreField : (owner : Id) (n : ℕ) → Instruction
  LoadFieldAddress : (owner : Id) (n : ℕ) → Instruction
  LoadStatic : (field : Id) → Instruction
  StoreStatic : (field : Id) → Instruction
  LoadStaticAddress : (field : Id) → Instruction
  LoadText : (units : List ℕ) → Instruction
  LoadIndirect : (access : Access) → Instruction
  StoreIndirect : (access : Access) → Instruction
  NewArray : (element : CliType) → Instruction
  LoadLength : Instruction
  LoadElement : (access : Access) → Instruction
  StoreElement : (access : Access) → Instruction
  LoadElementAddress : (element : CliType) → Instruction
  CastClass : (type : CliType) → Instruction
  IsInstance : (type : CliType) → Instruction
  Box : (type : CliType) → Instruction
  Unbox : (type : CliType) → Instruction
  UnboxAny : (type : CliType) → Instruction
  Throw : Instruction
  Rethrow : (clause : ℕ) → Instruction
  Leave : (target : ℕ) → Instruction
  EndFinally : (clause : ℕ) → Instruction

-- a class to be initialised first, and its initialiser
pub record Initialiser : Type 0 where
  pub class : Id
  pub method : Id

-- what stands at a place: the instruction, the place after it, and the class that has to be started before it
pub record Line : Type 0 where
  pub instruction : Instruction
  pub next : ℕ
  pub needs : Option Initialiser

pub data ClauseKind : Type 0 where
  Catch : (class : Id) → ClauseKind
  Final : ClauseKind
  -- takes no exception and is never entered: a catch whose class names nothing
  Idle : ClauseKind

-- an exception clause: its kind, and the place at which its handler starts
pub record Clause : Type 0 where
  pub kind : ClauseKind
  pub start : ℕ

-- the methods of the base library that are no CIL, in the order of their numbers from 1
pub data NativeName : Type 0 where
  ObjectToString : NativeName
  EnumEquals : NativeName
  EnumToString : NativeName
  ArrayLength : NativeName
  ArrayCopy : NativeName
  StringLength : NativeName
  StringChars : NativeName
  StringConcat : NativeName
  StringSubstring : NativeName
  StringEquals : NativeName
  StringCompare : NativeName
  StringFromChars : NativeName
  StringFromChar : NativeName
  NumberSigned : NativeName
  NumberUnsigned : NativeName
  InitializeArray : NativeName
  DebugPrint : NativeName

abbrev pub native_number : NativeName → ℕ
native_number ObjectToString = 1
native_number EnumEquals = 2
native_number EnumToString = 3
native_number ArrayLength = 4
native_number ArrayCopy = 5
native_number StringLength = 6
native_number StringChars = 7
native_number StringConcat = 8
native_number StringSubstring = 9
native_number StringEquals = 10
native_number StringCompare = 11
native_number StringFromChars = 12
native_number StringFromChar = 13
native_number NumberSigned = 14
native_number NumberUnsigned = 15
native_number InitializeArray = 16
native_number DebugPrint = 17

pub data Body : Type 0 where
  Code : Body
  Native : (name : NativeName) → Body
  Missing : Body

pub record Method : Type 0 where
  -- with `this` first
  pub arguments : List PlaceType
  pub locals : List PlaceType
  pub returns : Option PlaceType
  pub max_stack : ℕ
  pub clauses : List Clause
  pub body : Body

pub record Program : Type 0 where
  -- the entry method, where it is static
  pub entry : Option Id
  -- the class of the entry method, if it has to be started before the first step
  pub first : Option Initialiser
  pub method : Id → Option Method
  pub fetch : Id → ℕ → Option Line
  -- whether the try of the method's clause holds the place
  pub try_holds : Id → ℕ → ℕ → Bool
  -- whether the class is the other one, or below it
  pub is_sub : Id → Id → Bool
  -- whether a reference to an object of the type is assignable to the other type
  pub fits : CliType → CliType → Bool
  -- the body that a virtual call of the method finds at a class
  pub target : Id → Id → Option Id
  -- the types of the class's instance fields, inherited ones first
  pub fields : Id → Option (List CliType)
  -- the type of a static field
  pub static : Id → Option CliType
  -- the bytes of a data field
  pub bytes : Id → Option (List ℕ)
  -- the classes that the machine needs by name: of its exceptions, of a basic type, and of arrays
  pub known : Known → Option Id
  pub basic : Elem → Option Id
  pub array : Option Id
  -- System.Exception: only its objects, and those of classes below it, are thrown
  pub exception : Option Id
  -- the class's full name, in UTF-8
  pub name : Id → List ℕ
