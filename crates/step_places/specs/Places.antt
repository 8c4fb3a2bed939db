-- What an act at an argument or a local meets.
use Rattle.std.specs.Prelude.{◌≡◌, ℕ, Bool, List, Option, Some, None, slice_get}
use Rattle.std.specs.Option.{option_map}
use Rattle.plain_types.specs.declared.elem.Elem.{Elem}
use Rattle.machine.specs.Data.{Id, PlaceType, Cell, Frame, State}
use Rattle.machine.specs.Program.{Program, Method, Instruction}
use Rattle.machine.specs.Numbers.{kind_of}
use Rattle.machine.specs.Step.{act}
use Rattle.ram_words.specs.Elements.{elem_held, cell_in}
use Rattle.tiny_ram.specs.Memory.{RamFrame, Memory}
use Rattle.tiny_ram.specs.declared.memory.Ram.{Ram}
use Rattle.kept_values.specs.declared.keeping.PlaceKind.{PlaceKind}
use Rattle.kept_values.specs.declared.keeping.PlaceKind.TheVariants.{Holds}
use Rattle.kept_values.specs.Keeping.{kind_seen}
use Rattle.step_ends.specs.Ends.{Before, Ends}
use Rattle.step_ends.specs.declared.acted.Acted.{Acted}

abbrev pub arguments_of : Method → List PlaceType
arguments_of m = m.arguments

abbrev pub locals_of : Method → List PlaceType
locals_of m = m.locals

-- over every program, memory and state, the act of an instruction at the n-th of the method's places of these types ends so, where
-- its kind is told: none where the method has no such place
abbrev pub OfPlaceAct : Ram → Ram → ℕ → Instruction → (Method → List PlaceType) → ℕ → Option PlaceKind → Acted → Type 0
OfPlaceAct r u next i types n place acted =
    (p : Program) (outer : Id → ℕ → ℕ → Bool) (m : Memory) (s : State) (f : RamFrame) (fs : List RamFrame) (g : Frame) (gs : List Frame) (of : Method) → Before p outer r m s f fs g gs → p.method g.method ≡ Some of
    → option_map kind_of (slice_get (types of) n) ≡ option_map kind_seen place → Ends p outer m s u (act p s g gs next i) acted

-- what a place to which a pointer can lead holds
abbrev pub cell_seen : Option PlaceKind → Option Cell
cell_seen (Some (Holds kind)) = Some (cell_in kind)
cell_seen _ = None

-- the type's places hold the same
abbrev pub IsCellElem : Option Cell → Option Elem → Type 0
IsCellElem (Some cell) (Some elem) = elem_held elem ≡ Some cell
IsCellElem None None = Unit {0}
IsCellElem _ _ = ⊥
