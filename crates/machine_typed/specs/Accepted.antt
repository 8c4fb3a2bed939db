-- When a program is typed: one list of stack types at each instruction start, and a condition on each edge (III.1.8).
-- The refusal rules by which a verifier knows each fact stand beside it.
use Rattle.std.specs.Prelude.{◌≡◌, ◌≢◌, ◌⊎◌, ℕ, ◌<◌, ◌≤◌, Bool, true, false, List, [], ◌∷◌, length, Option, Some, None, slice_get, is_some}
use Rattle.board_types.specs.declared.board.Known.{Known}
use Rattle.plain_types.specs.declared.elem.Elem.{Elem}
use Rattle.plain_types.specs.declared.elem.Elem.TheVariants as elem
use Rattle.machine.specs.Data.{Id, CliType, Basic, EnumOf, ClassOf, ValueOf, ArrayOf, PlaceType, Plain, To, Cell, Bits, Refers, cell_of, elem_cell}
use Rattle.machine.specs.Program.{Program, Method, Body, Code, Native, Missing, Instruction, Branch, BranchIf, BranchCompare, Switch, CallVirtual, NewObject, NewArray, Box, LoadField, StoreField, LoadFieldAddress, Throw, Rethrow, Leave, EndFinally, Return, Initialiser, Line, ClauseKind, Catch, Final, Idle, Clause, NativeName, ObjectToString, EnumEquals, EnumToString, ArrayLength, ArrayCopy, StringLength, StringChars, StringConcat, StringSubstring, StringEquals, StringCompare, StringFromChars, StringFromChar, NumberSigned, NumberUnsigned, InitializeArray, DebugPrint}
use Rattle.machine.specs.Numbers.{same_width}
use Rattle.machine.specs.Natives.{class_of_type}
use Rattle.machine.specs.Trace.{strings, is_main_result}
use Rattle.machine_typed.specs.Typing.{StackType, O, is_plain, is_plain_place, is_number, agrees, all_assignable, has_body, effect}

pub record Typing : Type 0 where
  pub types : Id → ℕ → Option (List StackType)
  -- whether the handler of the method's clause holds the place
  pub handled : Id → ℕ → ℕ → Bool
  -- the types of which objects are made: the program's classes that aren't abstract, String, its arrays, and its numbers and enums
  -- as boxes
  pub made : CliType → Bool
  -- System.Exception
  pub exception : CliType

abbrev pub is_enum : CliType → Bool
is_enum (EnumOf e class) = true
is_enum _ = false

abbrev pub is_array : CliType → Bool
is_array (ArrayOf element) = true
is_array _ = false

pub record IsFinal (m : Method) (k : ℕ) : Type 0 where
  pub clause : Clause
  pub is : slice_get m.clauses k ≡ Some clause
  pub kind : clause.kind ≡ Final

pub record IsCatch (m : Method) (k : ℕ) : Type 0 where
  pub clause : Clause
  pub class : Id
  pub is : slice_get m.clauses k ≡ Some clause
  pub kind : clause.kind ≡ Catch class

-- whether elements of the one array type may be taken for those of the other: references by assignability, numbers by width
abbrev pub elements_by : Option Cell → Option Cell → Bool → Bool
elements_by (Some (Bits a)) (Some (Bits b)) below = same_width (Bits a) (Bits b)
elements_by (Some Refers) (Some Refers) below = below
elements_by _ _ below = false

abbrev pub elements_fit : Program → CliType → CliType → Bool
elements_fit p a b = elements_by (cell_of a) (cell_of b) (p.fits a b)

module _ (p : Program) (t : Typing) where
  -- an edge: the types fit at its end, and it enters no handler (45, 52, 53)
  pub record Leads (id : Id) (from : ℕ) (us : List StackType) (to : ℕ) : Type 0 where
    pub at : List StackType
    pub typed : t.types id to ≡ Some at
    pub fitting : all_assignable p us at ≡ true
    pub stays : (k : ℕ) → t.handled id k to ≡ true → t.handled id k from ≡ true

  -- the edge of a leave, straight or by the finally blocks that it leaves (44, 45, 54)
  pub record Leaves (id : Id) (m : Method) (from to : ℕ) : Type 0 where
    pub typed : t.types id to ≡ Some []
    pub stays : (k : ℕ) → t.handled id k to ≡ true → t.handled id k from ≡ true
    pub through : (j : ℕ) (c : Clause) → slice_get m.clauses j ≡ Some c → p.try_holds id j from ≡ true → p.try_holds id j to ≡ false → (k : ℕ) → t.handled id k to ≡ true → (t.handled id k c.start ≡ true) × (k ≢ j)

  -- `this` of the body that a virtual call finds: a reference, or a pointer into a box of a number
  abbrev pub Receives : CliType → List PlaceType → List PlaceType → Type 0
  Receives own (Plain owner ∷ these) others = (p.fits own owner ≡ true) × (cell_of owner ≡ Some Refers) × (these ≡ others)
  Receives own (To owner ∷ these) others = (is_number own ≡ true) × (agrees own owner ≡ true) × (these ≡ others)
  Receives own [] others = ⊥

  -- what a virtual call of a method finds at the type of an object (29, 30, 31)
  pub record Finds (own : CliType) (id : Id) (m : Method) (others : List PlaceType) : Type 0 where
    pub class : Id
    pub named : class_of_type p own ≡ Some class
    pub body : Id
    pub is : p.target class id ≡ Some body
    pub method : Method
    pub there : p.method body ≡ Some method
    pub arguments : Receives own method.arguments others
    pub returns : method.returns ≡ m.returns
    pub with_body : has_body method.body ≡ true

  -- an instance method of a class or an interface has a body at each object that may be its `this` (29, 31, 46)
  abbrev pub Dispatches : Id → Type 0
  Dispatches id = (m : Method) (d : CliType) (others : List PlaceType) (own : CliType) → p.method id ≡ Some m → m.arguments ≡ Plain d ∷ others → cell_of d ≡ Some Refers → t.made own ≡ true → p.fits own d ≡ true → Finds own id m others

  -- only instances of a class with fields, or of a class below it, are assignable to it: it is no interface, no value type and
  -- no class above one (24, 28, 46)
  abbrev pub HasInstances : Id → Type 0
  HasInstances owner = (own : CliType) (types : List CliType) (n : ℕ) (type : CliType) → t.made own ≡ true → p.fits own (ClassOf owner) ≡ true → p.fields owner ≡ Some types → slice_get types n ≡ Some type → (c : Id) × (own ≡ ClassOf c) × (p.is_sub c owner ≡ true)

  -- the ways on from an instruction
  abbrev pub Flows : Id → Method → ℕ → Instruction → ℕ → List StackType → Type 0
  Flows id m from (Branch to) next us = Leads id from us to
  Flows id m from (BranchIf on to) next us = Leads id from us to × Leads id from us next
  Flows id m from (BranchCompare comparison on to) next us = Leads id from us to × Leads id from us next
  Flows id m from (Switch targets) next us = ((n to : ℕ) → slice_get targets n ≡ Some to → Leads id from us to) × Leads id from us next
  Flows id m from (CallVirtual callee) next us = Dispatches callee × Leads id from us next
  -- (46)
  Flows id m from (NewObject class constructor) next us = (t.made (ClassOf class) ≡ true) × Leads id from us next
  Flows id m from (NewArray element) next us = (t.made (ArrayOf element) ≡ true) × Leads id from us next
  Flows id m from (Box type) next us = (t.made type ≡ true) × Leads id from us next
  Flows id m from (LoadField owner n) next us = HasInstances owner × Leads id from us next
  Flows id m from (StoreField owner n) next us = HasInstances owner × Leads id from us next
  Flows id m from (LoadFieldAddress owner n) next us = HasInstances owner × Leads id from us next
  Flows id m from Throw next us = Unit {0}
  Flows id m from (Rethrow k) next us = (t.handled id k from ≡ true) × IsCatch m k
  Flows id m from (Leave to) next us = Leaves id m from to
  Flows id m from (EndFinally k) next us = (t.handled id k from ≡ true) × IsFinal m k
  Flows id m from Return next us = Unit {0}
  Flows id m from _ next us = Leads id from us next

  -- a catch starts with its class alone, a finally with nothing (44, 54)
  abbrev pub Starts : Id → ClauseKind → ℕ → Type 0
  Starts id (Catch class) start = (u : CliType) × (t.types id start ≡ Some (O u ∷ [])) × ((c : Id) → p.is_sub c class ≡ true → p.fits (ClassOf c) u ≡ true)
  Starts id Final start = t.types id start ≡ Some []
  Starts id Idle start = Unit {0}

  -- how the regions of a method lie to one another (44)
  pub record Regions (id : Id) (m : Method) : Type 0 where
    pub starts : (j : ℕ) (c : Clause) → slice_get m.clauses j ≡ Some c → Starts id c.kind c.start
    -- a handler that holds the start of another one holds all of it, since no two handlers begin at one place (44, 45)
    pub inside : (i j place : ℕ) (c : Clause) → slice_get m.clauses j ≡ Some c → t.handled id j place ≡ true → t.handled id i c.start ≡ true → t.handled id i place ≡ true
    -- and it holds that one's try
    pub out : (i j place : ℕ) (c : Clause) → slice_get m.clauses j ≡ Some c → p.try_holds id j place ≡ true → t.handled id i c.start ≡ true → (i ≡ j) ⊎ (t.handled id i place ≡ true)
    -- of two tries round a place, the handler of the later clause lies in those round the handler of the earlier one
    pub onward : (i j k place : ℕ) (c d : Clause) → j < k → slice_get m.clauses j ≡ Some c → slice_get m.clauses k ≡ Some d → p.try_holds id j place ≡ true → p.try_holds id k place ≡ true → t.handled id i d.start ≡ true → (i ≡ k) ⊎ ((t.handled id i c.start ≡ true) × (i ≢ j))

  -- the class that has to be started first has an initialiser of CIL (29)
  abbrev pub Needs : Option Initialiser → Type 0
  Needs None = Unit {0}
  Needs (Some i) = (m : Method) × (p.method i.method ≡ Some m) × (m.arguments ≡ []) × (m.body ≡ Code) × (m.returns ≡ None)

  pub record LineFits (id : Id) (m : Method) (place : ℕ) (ts : List StackType) : Type 0 where
    pub line : Line
    -- (41, 42, 43)
    pub is : p.fetch id place ≡ Some line
    pub after : List StackType
    -- (46, 47, 50, 53, 54)
    pub effects : effect p t.exception m line.instruction ts ≡ Some after
    pub flows : Flows id m place line.instruction line.next after
    pub needs : Needs line.needs

  -- a method with code
  pub record MethodFits (id : Id) (m : Method) : Type 0 where
    pub begin : t.types id 0 ≡ Some []
    -- (45)
    pub outside : (k : ℕ) → t.handled id k 0 ≡ true → ⊥
    pub regions : Regions id m
    -- (51)
    pub within : (place : ℕ) (ts : List StackType) → t.types id place ≡ Some ts → length ts ≤ m.max_stack
    pub lines : (place : ℕ) (ts : List StackType) → t.types id place ≡ Some ts → LineFits id m place ts
    -- (27, 40)
    pub locals : (n : ℕ) (k : PlaceType) → slice_get m.locals n ≡ Some k → is_plain_place k ≡ true
    -- (27)
    pub result : (k : PlaceType) → m.returns ≡ Some k → is_plain_place k ≡ true

  -- only boxes of enums are assignable to the class, as to System.Enum (24, 26)
  abbrev pub OnlyEnums : Id → Type 0
  OnlyEnums class = (own : CliType) → t.made own ≡ true → p.fits own (ClassOf class) ≡ true → is_enum own ≡ true

  -- only arrays are assignable to the class, as to System.Array (24)
  abbrev pub OnlyArrays : Id → Type 0
  OnlyArrays class = (own : CliType) → t.made own ≡ true → p.fits own (ClassOf class) ≡ true → is_array own ≡ true

  abbrev pub Takes : Method → List PlaceType → Option PlaceType → Type 0
  Takes m arguments returns = (m.arguments ≡ arguments) × (m.returns ≡ returns)

  abbrev pub basic : Elem → PlaceType
  basic e = Plain (Basic e)

  -- a native of the base library, by its name and signature (30)
  abbrev pub NativeFits : Method → NativeName → Type 0
  NativeFits m ObjectToString = Takes m (basic elem.Object ∷ []) (Some (basic elem.String))
  NativeFits m EnumEquals = (c : Id) × OnlyEnums c × Takes m (Plain (ClassOf c) ∷ basic elem.Object ∷ []) (Some (basic elem.Bool))
  NativeFits m EnumToString = (c : Id) × OnlyEnums c × Takes m (Plain (ClassOf c) ∷ []) (Some (basic elem.String))
  NativeFits m ArrayLength = (c : Id) × OnlyArrays c × Takes m (Plain (ClassOf c) ∷ []) (Some (basic elem.I4))
  NativeFits m ArrayCopy = (c : Id) × OnlyArrays c × Takes m (Plain (ClassOf c) ∷ basic elem.I4 ∷ Plain (ClassOf c) ∷ basic elem.I4 ∷ basic elem.I4 ∷ []) None
  NativeFits m StringLength = Takes m (basic elem.String ∷ []) (Some (basic elem.I4))
  NativeFits m StringChars = Takes m (basic elem.String ∷ basic elem.I4 ∷ []) (Some (basic elem.Char))
  NativeFits m StringConcat = Takes m (basic elem.String ∷ basic elem.String ∷ []) (Some (basic elem.String))
  NativeFits m StringSubstring = Takes m (basic elem.String ∷ basic elem.I4 ∷ basic elem.I4 ∷ []) (Some (basic elem.String))
  NativeFits m StringEquals = Takes m (basic elem.String ∷ basic elem.String ∷ []) (Some (basic elem.Bool))
  NativeFits m StringCompare = Takes m (basic elem.String ∷ basic elem.String ∷ []) (Some (basic elem.I4))
  NativeFits m StringFromChars = Takes m (Plain (ArrayOf (Basic elem.Char)) ∷ basic elem.I4 ∷ basic elem.I4 ∷ []) (Some (basic elem.String))
  NativeFits m StringFromChar = Takes m (basic elem.Char ∷ []) (Some (basic elem.String))
  NativeFits m NumberSigned = Takes m (basic elem.I8 ∷ []) (Some (basic elem.String))
  NativeFits m NumberUnsigned = Takes m (basic elem.U8 ∷ []) (Some (basic elem.String))
  NativeFits m InitializeArray = (c : Id) × (h : Id) × OnlyArrays c × Takes m (Plain (ClassOf c) ∷ Plain (ValueOf h) ∷ []) None
  NativeFits m DebugPrint = Takes m (basic elem.String ∷ []) None

  abbrev pub BodyFits : Id → Method → Body → Type 0
  BodyFits id m Code = MethodFits id m
  BodyFits id m (Native name) = NativeFits m name
  BodyFits id m Missing = Unit {0}

  -- the entry method (23)
  pub record Begins : Type 0 where
    pub id : Id
    pub is : p.entry ≡ Some id
    pub method : Method
    pub there : p.method id ≡ Some method
    pub arguments : (method.arguments ≡ []) ⊎ ((method.arguments ≡ Plain strings ∷ []) × (t.made strings ≡ true))
    pub code : method.body ≡ Code
    pub returns : is_main_result method.returns ≡ true
    pub first : Needs p.first

  -- System.Exception, or a class below it
  abbrev pub IsThrown : Id → Type 0
  IsThrown c = (top : Id) × (p.exception ≡ Some top) × (p.is_sub c top ≡ true)

  -- an exception that the machine makes (30)
  pub record Makes (k : Known) : Type 0 where
    pub class : Id
    pub types : List CliType
    pub is : p.known k ≡ Some class
    pub fields : p.fields class ≡ Some types
    pub made : t.made (ClassOf class) ≡ true

  pub record Accepted : Type 0 where
    -- assignable types: an order (24, 25)
    pub same : (a : CliType) → p.fits a a ≡ true
    pub up : (a b c : CliType) → p.fits a b ≡ true → p.fits b c ≡ true → p.fits a c ≡ true
    -- objects are boxes of primitives and enums, or have a reference type (26, 46)
    pub objects : (own : CliType) → t.made own ≡ true → is_plain own ≡ true
    pub strings_made : t.made (Basic elem.String) ≡ true
    -- what objects are assignable to String: strings alone (24)
    pub texts : (own : CliType) → t.made own ≡ true → p.fits own (Basic elem.String) ≡ true → own ≡ Basic elem.String
    -- to an array type: arrays alone, by their elements (24)
    pub arrays : (own a : CliType) → t.made own ≡ true → p.fits own (ArrayOf a) ≡ true → (b : CliType) × (own ≡ ArrayOf b) × (elements_fit p b a ≡ true)
    -- to System.Exception: instances alone (24)
    pub exceptions : (own : CliType) → t.made own ≡ true → p.fits own t.exception ≡ true → (c : Id) × (own ≡ ClassOf c) × IsThrown c
    -- instance fields: inherited ones first, each a primitive, an enum or a reference (24, 27)
    pub fields : (c : Id) (ks : List CliType) (n : ℕ) (k : CliType) → p.fields c ≡ Some ks → slice_get ks n ≡ Some k → is_plain k ≡ true
    pub inherits : (c d : Id) (ks js : List CliType) (n : ℕ) (k : CliType) → p.is_sub c d ≡ true → p.fields d ≡ Some ks → p.fields c ≡ Some js → slice_get ks n ≡ Some k → slice_get js n ≡ Some k
    -- the base library's types (30)
    pub known : (k : Known) → Makes k
    pub basics : (e : Elem) → is_some (elem_cell e) ≡ true → (c : Id) × (p.basic e ≡ Some c)
    pub array_class : (c : Id) × (p.array ≡ Some c)
    pub methods : (id : Id) (m : Method) → p.method id ≡ Some m → BodyFits id m m.body
    pub begins : Begins
