-- One machine under two numberings: of types, methods, fields and places.
use Rattle.std.specs.Prelude.{◌≡◌, ◌⊎◌, ℕ, Bool, true, false, ◌||◌, map, Some}
use Rattle.std.specs.Option.{option_map}
use Rattle.board_types.specs.declared.board.Known.{Known}
use Rattle.board_types.specs.declared.board.Known.TheVariants.{NullReference, IndexOutOfRange, Overflow, Arithmetic, DivideByZero, InvalidCast, ArrayTypeMismatch, Argument, ArgumentNull, ArgumentOutOfRange}
use Rattle.plain_types.specs.declared.elem.Elem.{Elem}
use Rattle.machine.specs.Data.{Id, id_eq, CliType, Basic, EnumOf, ClassOf, ValueOf, ArrayOf, PlaceType, Plain, To, Value, Int, Long, Null, Object, Handle, Pointer, Thing, Instance, Text, Elements, Boxed, StaticCell, Slot, Nothing, Caught, Throwing, Leaving, Frame, Static, State, End, Going, Returned, Threw}
use Rattle.machine.specs.Program.{Program, Access, Exact, Typed, Instruction, Nop, Push, Dup, Pop, LoadArgument, StoreArgument, LoadArgumentAddress, LoadLocal, StoreLocal, LoadLocalAddress, Binary, Shift, Unary, Compare, Convert, ConvertChecked, Branch, BranchIf, BranchCompare, Switch, Call, CallVirtual, NewObject, Return, LoadField, StoreField, LoadFieldAddress, LoadStatic, StoreStatic, LoadStaticAddress, LoadText, LoadIndirect, StoreIndirect, NewArray, LoadLength, LoadElement, StoreElement, LoadElementAddress, CastClass, IsInstance, Box, Unbox, UnboxAny, Throw, Rethrow, Leave, EndFinally, Initialiser, Line, ClauseKind, Catch, Final, Idle, Clause, Method, Native, NativeName, ObjectToString, EnumEquals, EnumToString, ArrayLength, ArrayCopy, StringLength, StringChars, StringConcat, StringSubstring, StringEquals, StringCompare, StringFromChars, StringFromChar, NumberSigned, NumberUnsigned, InitializeArray, DebugPrint}
use Rattle.machine.specs.Trace.{CodePlace, Finish, WithNumber, WithClass, MemorySpent, StepsSpent, NoCase, NoStart, Trace}

-- from the one numbering to the other, total on all numbers
pub record Renaming : Type 0 where
  pub type : Id → Id
  pub method : Id → Id
  pub field : Id → Id
  pub place : Id → ℕ → ℕ

module _ (r : Renaming) where
  abbrev pub type_to : CliType → CliType
  type_to (Basic e) = Basic e
  type_to (EnumOf e class) = EnumOf e (r.type class)
  type_to (ClassOf class) = ClassOf (r.type class)
  type_to (ValueOf class) = ValueOf (r.type class)
  type_to (ArrayOf element) = ArrayOf (type_to element)

  abbrev pub place_type_to : PlaceType → PlaceType
  place_type_to (Plain type) = Plain (type_to type)
  place_type_to (To type) = To (type_to type)

  abbrev pub value_to : Value → Value
  value_to (Int n) = Int n
  value_to (Long n) = Long n
  value_to Null = Null
  value_to (Object n) = Object n
  value_to (Handle f) = Handle (r.field f)
  value_to (Pointer cell spot) = Pointer cell spot

  abbrev pub thing_to : Thing → Thing
  thing_to (Instance class fields) = Instance (r.type class) (map value_to fields)
  thing_to (Text units) = Text units
  thing_to (Elements element values) = Elements (type_to element) (map value_to values)
  thing_to (Boxed type value) = Boxed (type_to type) (value_to value)
  thing_to (StaticCell type value) = StaticCell (type_to type) (value_to value)

  abbrev pub slot_to : Id → Slot → Slot
  slot_to m Nothing = Nothing
  slot_to m (Caught object) = Caught object
  slot_to m (Throwing turns catch object) = Throwing turns catch object
  slot_to m (Leaving finals target) = Leaving finals (r.place m target)

  abbrev pub frame_to : Frame → Frame
  frame_to f =
      record {
        method = r.method f.method;
        initialiser = f.initialiser;
        place = r.place f.method f.place;
        arguments = map value_to f.arguments;
        locals = map value_to f.locals;
        stack = map value_to f.stack;
        slots = map (slot_to f.method) f.slots;
      }

  abbrev pub static_to : Static → Static
  static_to x = record { field = r.field x.field; object = x.object }

  abbrev pub end_to : End → End
  end_to Going = Going
  end_to (Returned n) = Returned n
  end_to (Threw class) = Threw (r.type class)

  abbrev pub state_to : State → State
  state_to s =
      record {
        frames = map frame_to s.frames;
        heap = map thing_to s.heap;
        literals = s.literals;
        statics = map static_to s.statics;
        started = map r.type s.started;
        output = s.output;
        end = end_to s.end;
      }

  abbrev pub access_to : Access → Access
  access_to (Exact cell) = Exact cell
  access_to (Typed type) = Typed (type_to type)

  abbrev pub instruction_to : Id → Instruction → Instruction
  instruction_to m Nop = Nop
  instruction_to m (Push v) = Push (value_to v)
  instruction_to m Dup = Dup
  instruction_to m Pop = Pop
  instruction_to m (LoadArgument n) = LoadArgument n
  instruction_to m (StoreArgument n) = StoreArgument n
  instruction_to m (LoadArgumentAddress n) = LoadArgumentAddress n
  instruction_to m (LoadLocal n) = LoadLocal n
  instruction_to m (StoreLocal n) = StoreLocal n
  instruction_to m (LoadLocalAddress n) = LoadLocalAddress n
  instruction_to m (Binary operator) = Binary operator
  instruction_to m (Shift operator) = Shift operator
  instruction_to m (Unary operator) = Unary operator
  instruction_to m (Compare comparison) = Compare comparison
  instruction_to m (Convert integer) = Convert integer
  instruction_to m (ConvertChecked integer source) = ConvertChecked integer source
  instruction_to m (Branch target) = Branch (r.place m target)
  instruction_to m (BranchIf on target) = BranchIf on (r.place m target)
  instruction_to m (BranchCompare comparison on target) = BranchCompare comparison on (r.place m target)
  instruction_to m (Switch targets) = Switch (map (r.place m) targets)
  instruction_to m (Call id) = Call (r.method id)
  instruction_to m (CallVirtual id) = CallVirtual (r.method id)
  instruction_to m (NewObject class constructor) = NewObject (r.type class) (r.method constructor)
  instruction_to m Return = Return
  instruction_to m (LoadField owner n) = LoadField (r.type owner) n
  instruction_to m (StoreField owner n) = StoreField (r.type owner) n
  instruction_to m (LoadFieldAddress owner n) = LoadFieldAddress (r.type owner) n
  instruction_to m (LoadStatic id) = LoadStatic (r.field id)
  instruction_to m (StoreStatic id) = StoreStatic (r.field id)
  instruction_to m (LoadStaticAddress id) = LoadStaticAddress (r.field id)
  instruction_to m (LoadText units) = LoadText units
  instruction_to m (LoadIndirect access) = LoadIndirect (access_to access)
  instruction_to m (StoreIndirect access) = StoreIndirect (access_to access)
  instruction_to m (NewArray element) = NewArray (type_to element)
  instruction_to m LoadLength = LoadLength
  instruction_to m (LoadElement access) = LoadElement (access_to access)
  instruction_to m (StoreElement access) = StoreElement (access_to access)
  instruction_to m (LoadElementAddress element) = LoadElementAddress (type_to element)
  instruction_to m (CastClass type) = CastClass (type_to type)
  instruction_to m (IsInstance type) = IsInstance (type_to type)
  instruction_to m (Box type) = Box (type_to type)
  instruction_to m (Unbox type) = Unbox (type_to type)
  instruction_to m (UnboxAny type) = UnboxAny (type_to type)
  instruction_to m Throw = Throw
  instruction_to m (Rethrow k) = Rethrow k
  instruction_to m (Leave target) = Leave (r.place m target)
  instruction_to m (EndFinally k) = EndFinally k

  abbrev pub initialiser_to : Initialiser → Initialiser
  initialiser_to i = record { class = r.type i.class; method = r.method i.method }

  abbrev pub line_to : Id → Line → Line
  line_to m l =
      record { instruction = instruction_to m l.instruction; next = r.place m l.next; needs = option_map initialiser_to l.needs }

  abbrev pub kind_to : ClauseKind → ClauseKind
  kind_to (Catch class) = Catch (r.type class)
  kind_to Final = Final
  kind_to Idle = Idle

  abbrev pub clause_to : Id → Clause → Clause
  clause_to m c = record { kind = kind_to c.kind; start = r.place m c.start }

  abbrev pub method_to : Id → Method → Method
  method_to id m =
      record m {
        arguments = map place_type_to m.arguments;
        locals = map place_type_to m.locals;
        returns = option_map place_type_to m.returns;
        clauses = map (clause_to id) m.clauses;
      }

  abbrev pub code_place_to : CodePlace → CodePlace
  code_place_to at = record { method = r.method at.method; place = r.place at.method at.place }

  -- what a run shows is the same, but for the place of a state that has no case
  abbrev pub finish_to : Finish → Finish
  finish_to (NoCase at) = NoCase (option_map code_place_to at)
  finish_to (WithNumber number) = WithNumber number
  finish_to (WithClass name) = WithClass name
  finish_to MemorySpent = MemorySpent
  finish_to StepsSpent = StepsSpent
  finish_to NoStart = NoStart

  abbrev pub trace_to : Trace → Trace
  trace_to t = record { output = t.output; finish = finish_to t.finish }

-- the exception classes that instructions throw, which every program has; the others are thrown by natives alone
abbrev pub by_instructions : Known → Bool
by_instructions NullReference = true
by_instructions IndexOutOfRange = true
by_instructions Overflow = true
by_instructions Arithmetic = true
by_instructions DivideByZero = true
by_instructions InvalidCast = true
by_instructions ArrayTypeMismatch = true
by_instructions Argument = false
by_instructions ArgumentNull = false
by_instructions ArgumentOutOfRange = false

abbrev pub of_argument : Known → Bool
of_argument Argument = true
of_argument _ = false

abbrev pub of_null : Known → Bool
of_null ArgumentNull = true
of_null _ = false

abbrev pub of_range : Known → Bool
of_range ArgumentOutOfRange = true
of_range _ = false

-- which of these others a native throws
abbrev pub throws : NativeName → Known → Bool
throws ArrayCopy k = of_argument k || (of_null k || of_range k)
throws StringSubstring k = of_range k
throws StringFromChars k = of_null k || of_range k
throws InitializeArray k = of_argument k
throws ObjectToString k = false
throws EnumEquals k = false
throws EnumToString k = false
throws ArrayLength k = false
throws StringLength k = false
throws StringChars k = false
throws StringConcat k = false
throws StringEquals k = false
throws StringCompare k = false
throws StringFromChar k = false
throws NumberSigned k = false
throws NumberUnsigned k = false
throws DebugPrint k = false

-- a native of the program that throws the class
pub record Thrower (p : Program) (k : Known) : Type 0 where
  pub id : Id
  pub method : Method
  pub name : NativeName
  pub there : p.method id ≡ Some method
  pub is : method.body ≡ Native name
  pub throwing : throws name k ≡ true

-- a class for which a run of the program may ask
abbrev pub Asked : Program → Known → Type 0
Asked p k = (by_instructions k ≡ true) ⊎ Thrower p k

-- the two programs answer alike, whatever is asked
pub record Answers (r : Renaming) (low high : Program) : Type 0 where
  pub types : (a b : Id) → id_eq (r.type a) (r.type b) ≡ id_eq a b
  pub static_fields : (a b : Id) → id_eq (r.field a) (r.field b) ≡ id_eq a b
  pub begin : (m : Id) → r.place m 0 ≡ 0
  pub entry : high.entry ≡ option_map r.method low.entry
  pub first : high.first ≡ option_map (initialiser_to r) low.first
  pub method : (m : Id) → high.method (r.method m) ≡ option_map (method_to r m) (low.method m)
  pub fetch : (m : Id) (at : ℕ) → high.fetch (r.method m) (r.place m at) ≡ option_map (line_to r m) (low.fetch m at)
  pub try_holds : (m : Id) (k at : ℕ) → high.try_holds (r.method m) k (r.place m at) ≡ low.try_holds m k at
  pub is_sub : (a b : Id) → high.is_sub (r.type a) (r.type b) ≡ low.is_sub a b
  pub fits : (a b : CliType) → high.fits (type_to r a) (type_to r b) ≡ low.fits a b
  pub target : (c m : Id) → high.target (r.type c) (r.method m) ≡ option_map r.method (low.target c m)
  pub fields : (c : Id) → high.fields (r.type c) ≡ option_map (map (type_to r)) (low.fields c)
  pub static : (f : Id) → high.static (r.field f) ≡ option_map (type_to r) (low.static f)
  pub bytes : (f : Id) → high.bytes (r.field f) ≡ low.bytes f
  -- a program need have such a class only where an instruction or a native of its own throws it
  pub known : (k : Known) → Asked low k → high.known k ≡ option_map r.type (low.known k)
  pub basic : (e : Elem) → high.basic e ≡ option_map r.type (low.basic e)
  pub array : high.array ≡ option_map r.type low.array
  pub exception : high.exception ≡ option_map r.type low.exception
  pub name : (c : Id) → high.name (r.type c) ≡ low.name c
