-- What the programs of the examples are made of: methods as lists of instructions, at the places 0, 1, 2 and so on.
use Rattle.std.proofs.Common.{ℕ, ◌+◌, ◌==◌, ◌&&◌, ◌||◌, Bool, true, false, List, [], ◌∷◌, Option, Some, None}
use Rattle.std.specs.Prelude.{nat_lt, nat_le, slice_get}
use Rattle.std.specs.Option.{option_map}
use Rattle.board_types.specs.declared.board.Known.{Known}
use Rattle.board_types.specs.declared.board.Known.TheVariants.{NullReference, IndexOutOfRange, Overflow, Arithmetic, DivideByZero, InvalidCast, ArrayTypeMismatch, Argument, ArgumentNull, ArgumentOutOfRange}
use Rattle.plain_types.specs.declared.elem.Elem.TheVariants as elem
use Rattle.machine.specs.Data.{Id, id_eq, elem_number, CliType, Basic, ClassOf, ArrayOf, type_eq, PlaceType, Plain}
use Rattle.machine.specs.Trace.{Finish, Trace}
use Rattle.machine.specs.Program.{Program, Instruction, Initialiser, Line, Clause, Catch, Final, Method, Code, Native, NativeName, DebugPrint}

abbrev pub id : ℕ → Id
id n = record { file = 0; row = n }

abbrev pub int : CliType
int = Basic elem.I4

abbrev pub string : CliType
string = Basic elem.String

abbrev pub object : CliType
object = Basic elem.Object

-- a method with its code and, for each clause, the two ends of its try
pub record Part : Type 0 where
  pub method : Method
  pub code : List Instruction
  pub tries : List (ℕ × ℕ)

abbrev pub code : List PlaceType → List PlaceType → Option PlaceType → ℕ → List Instruction → Part
code arguments locals returns most instructions =
    record { method = record { arguments = arguments; locals = locals; returns = returns; max_stack = most; clauses = []; body = Code }; code = instructions; tries = [] }

-- with a clause: its kind, the ends of its try, and the start of its handler
abbrev pub guarded : List Clause → List (ℕ × ℕ) → Part → Part
guarded clauses tries part = record { method = record part.method { clauses = clauses }; code = part.code; tries = tries }

abbrev pub caught : ℕ → ℕ → Clause
caught class start = record { kind = Catch (id class); start = start }

abbrev pub finally : ℕ → Clause
finally start = record { kind = Final; start = start }

abbrev pub native : List PlaceType → Option PlaceType → NativeName → Part
native arguments returns name =
    record { method = record { arguments = arguments; locals = []; returns = returns; max_stack = 0; clauses = []; body = Native name }; code = []; tries = [] }

abbrev pub print : Part
print = native (Plain string ∷ []) None DebugPrint

-- ---- classes: 1 is Exception, 2 to 11 the known ones, 12 String, 13 Object, 14 Array, 15 on those of the basic types

abbrev pub known_row : Known → ℕ
known_row NullReference = 2
known_row IndexOutOfRange = 3
known_row Overflow = 4
known_row Arithmetic = 5
known_row DivideByZero = 6
known_row InvalidCast = 7
known_row ArrayTypeMismatch = 8
known_row Argument = 9
known_row ArgumentNull = 10
known_row ArgumentOutOfRange = 11

-- a class below another one
abbrev pub lies_below : List (ℕ × ℕ) → ℕ → ℕ → Bool
lies_below [] a b = false
lies_below (x ∷ xs) a b = ((x.0 == a) && (x.1 == b)) || lies_below xs a b

abbrev pub is_exception : ℕ → Bool
is_exception n = nat_le 1 n && nat_le n 11

abbrev pub below : List (ℕ × ℕ) → Id → Id → Bool
below pairs a b = id_eq a b || (((b.row == 1) && is_exception a.row) || lies_below pairs a.row b.row)

abbrev pub fits : List (ℕ × ℕ) → CliType → CliType → Bool
fits pairs (ClassOf a) (ClassOf b) = below pairs a b
fits pairs (ArrayOf a) (ArrayOf b) = fits pairs a b
fits pairs a (Basic elem.Object) = true
fits pairs a b = type_eq a b

abbrev pub method_at : Option Part → Option Method
method_at o = option_map (λ (x : Part). x.method) o

abbrev pub holds : Option (ℕ × ℕ) → ℕ → Bool
holds None place = false
holds (Some ends) place = nat_le ends.0 place && nat_lt place ends.1

abbrev pub try_at : Option Part → ℕ → ℕ → Bool
try_at None k place = false
try_at (Some x) k place = holds (slice_get x.tries k) place

abbrev pub line_of : (Instruction → Option Initialiser) → ℕ → Option Instruction → Option Line
line_of needs place o = option_map (λ i. record { instruction = i; next = place + 1; needs = needs i }) o

abbrev pub line_at : (Instruction → Option Initialiser) → Option Part → ℕ → Option Line
line_at needs None place = None
line_at needs (Some x) place = line_of needs place (slice_get x.code place)

abbrev pub no_needs : Instruction → Option Initialiser
no_needs i = None

-- a program of these methods, the first of which is entered
abbrev pub program : List Part → Program
program parts =
    record {
      entry = Some (id 0);
      first = None;
      method = λ m. method_at (slice_get parts m.row);
      fetch = λ m place. line_at no_needs (slice_get parts m.row) place;
      try_holds = λ m k place. try_at (slice_get parts m.row) k place;
      is_sub = below [];
      fits = fits [];
      target = λ c m. Some m;
      fields = λ c. Some [];
      static = λ f. Some int;
      bytes = λ f. None;
      known = λ k. Some (id (known_row k));
      basic = λ e. Some (id (15 + elem_number e));
      array = Some (id 14);
      exception = Some (id 1);
      name = λ c. c.row ∷ [];
    }

abbrev pub shows : List ℕ → Finish → Trace
shows printed finish = record { output = printed; finish = finish }
