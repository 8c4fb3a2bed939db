-- Which state of the machine a memory stands for, as far as a native looks.
use Rattle.std.specs.Prelude.{◌≡◌, ℕ, pos, ◌-◌, ◌<◌, List, [], ◌∷◌, map, length, Option, Some, None}
use Rattle.board_types.specs.declared.board.TypeAt.{TypeAt}
use Rattle.board_types.specs.declared.board.BoardType.{BoardType}
use Rattle.board_types.specs.declared.value.Value.{Value as BoardValue}
use Rattle.board_types.specs.declared.value.Value.TheVariants as board
use Rattle.machine.specs.Data.{Cell, CliType, ClassOf, thing_at, end_of, type_of, Value, Null, Thing, Instance, Text, Elements, Boxed, StaticCell, Frame, State}
use Rattle.machine.specs.Program.{Program, NativeName, ObjectToString, InitializeArray}
use Rattle.machine.specs.Natives.{name_of}
use Rattle.ram_words.specs.Elements.{type_held}
use Rattle.tiny_ops.specs.Operators.{Leads, stack_value}
use Rattle.tiny_ram.specs.Things.{Entry, string_shape}
use Rattle.tiny_ram.specs.Memory.{Memory, IsEntry, heap_cells, shown, entry_value}
use Rattle.tiny_ram.specs.Region.{Keeps}
use Rattle.tiny_ram.specs.declared.memory.Ram.{Ram}
use Rattle.board_ids.specs.Ids.{id_of, cli_type}

-- a program in a state whose topmost frame calls a native, the memory that stands for it, what the board's pointers lead to, and the
-- place and the stack with which the frame goes on
pub record Scene : Type 0 where
  pub program : Program
  pub state : State
  pub frame : Frame
  pub callers : List Frame
  pub next : ℕ
  pub rest : List Value
  pub leads : Leads
  pub memory : Memory

-- what a place holds, as the machine sees it
abbrev pub seen : Leads → Option BoardValue → Value
seen l None = Null
seen l (Some v) = stack_value l v

abbrev pub unit_place : ℕ → Option BoardValue
unit_place u = Some (board.Int (pos u))

abbrev pub text_entry : List ℕ → Entry
text_entry units = record { shape = string_shape (length units); places = map unit_place units }

-- 0 an object, 1 an array, 2 a string, 3 a box, 5 a static field
abbrev pub kind_of : Thing → ℕ
kind_of (Instance class fields) = 0
kind_of (Elements element values) = 1
kind_of (Text units) = 2
kind_of (Boxed type value) = 3
kind_of (StaticCell type value) = 5

pub record IsArray (l : Leads) (e : Entry) (element : CliType) (values : List Value) : Type 0 where
  pub typed : cli_type e.shape.of ≡ element
  pub cell : Cell
  pub packed : type_held e.shape.of ≡ Some cell
  pub held : map (seen l) e.places ≡ values

pub record IsBox (l : Leads) (e : Entry) (type : CliType) (value : Value) : Type 0 where
  pub typed : cli_type e.shape.of ≡ type
  pub held : stack_value l (shown e.shape.of.elem (entry_value e 0)) ≡ value
  pub one : length e.places ≡ 1

abbrev pub Holds : Leads → Entry → Thing → Type 0
Holds l e (Instance class fields) = cli_type e.shape.of ≡ ClassOf class
Holds l e (Elements element values) = IsArray l e element values
Holds l e (Text units) = e ≡ text_entry units
Holds l e (Boxed type value) = IsBox l e type value
Holds l e (StaticCell type value) = Unit {0}

-- a thing of the memory is there by its number, and so is the machine's object for which it stands
pub record Named (c : Scene) (thing : ℕ) : Type 0 where
  pub entry : Entry
  pub is : IsEntry c.memory thing entry
  pub object : Thing
  pub at : thing_at c.state.heap (thing - 1) ≡ Some object
  pub kind : entry.shape.what ≡ kind_of object
  pub holds : Holds c.leads entry object

abbrev pub ValueNamed : Scene → BoardValue → Type 0
ValueNamed c (board.Ref n) = 0 < n → Named c n
ValueNamed c (board.Int n) = Unit {0}
ValueNamed c (board.Long n) = Unit {0}
ValueNamed c (board.Pointer at) = Unit {0}
ValueNamed c (board.Handle f) = Unit {0}

abbrev pub AllNamed : Scene → List BoardValue → Type 0
AllNamed c [] = Unit {0}
AllNamed c (v ∷ vs) = ValueNamed c v × AllNamed c vs

-- the memory is kept, and it has as many cells of objects as the state
pub record Shows (c : Scene) (ram : Ram) : Type 0 where
  pub keeps : Keeps ram c.memory
  pub cells : end_of c.state.heap ≡ heap_cells c.memory.heap

-- ---- what the images tell

-- the full name of what a thing is, or of its elements
pub record NameTold (c : Scene) (name : BoardType → List ℕ) (thing : ℕ) : Type 0 where
  pub told : (e : Entry) (x : Thing) (type : CliType) → IsEntry c.memory thing e → thing_at c.state.heap (thing - 1) ≡ Some x → type_of x ≡ Some type → name_of c.program (cli_type e.shape.of) ≡ Some (name e.shape.of)

abbrev pub ValueTold : Scene → (BoardType → List ℕ) → (TypeAt → List ℕ) → NativeName → BoardValue → Type 0
ValueTold c name bytes ObjectToString (board.Ref n) = NameTold c name n
ValueTold c name bytes InitializeArray (board.Handle f) = c.program.bytes (id_of f) ≡ Some (bytes f)
ValueTold c name bytes _ _ = Unit {0}

-- where the native asks for the name of a type or for the bytes of a field, they are those of the program
abbrev pub Told : Scene → (BoardType → List ℕ) → (TypeAt → List ℕ) → NativeName → List BoardValue → Type 0
Told c name bytes native [] = Unit {0}
Told c name bytes native (v ∷ vs) = ValueTold c name bytes native v × Told c name bytes native vs
