-- What places keep of values.
use Rattle.std.specs.Prelude.{ℕ, Bool, false, if◌then◌else◌, List, Option, Some, None}
use Rattle.board_types.specs.declared.value.Value.{Value as RamValue}
use Rattle.board_types.specs.declared.value.Value.TheVariants.{Int, Long, Ref, Pointer, Handle}
use Rattle.machine.specs.Data.{Cell, Bits, Refers, Value}
use Rattle.machine.specs.Numbers.{is_long, same_width, PlaceKind as MachineKind}
use Rattle.machine.specs.Numbers as machine
use Rattle.ram_words.specs.Elements.{elem_held, cell_in, narrowed}
use Rattle.tiny_ram.specs.Memory.{RamFrame}
use Rattle.memory_states.specs.Values.{IsValue}
use Rattle.kept_values.specs.declared.keeping.PlaceKind.{PlaceKind}
use Rattle.kept_values.specs.declared.keeping.PlaceKind.TheVariants.{Holds, HoldsPointer, HoldsHandle, Nothing}

-- the kind as the machine has it
abbrev pub kind_seen : PlaceKind → Option MachineKind
kind_seen (Holds kind) = Some (machine.Holds (cell_in kind))
kind_seen (HoldsPointer kind) = Some (machine.HoldsPointer (cell_in kind))
kind_seen HoldsHandle = Some machine.HoldsHandle
kind_seen Nothing = None

-- a pointer's places are as wide as wanted
abbrev pub is_as_wide : Cell → Option Cell → Bool
is_as_wide wide None = false
is_as_wide wide (Some cell) = same_width cell wide

-- a value as a number's or a reference's place keeps it
abbrev pub kept_in_cell : Cell → RamValue → Option RamValue
kept_in_cell (Bits integer) (Int n) = if is_long integer then None else Some (Int (narrowed (Bits integer) n))
kept_in_cell (Bits integer) (Long n) = if is_long integer then Some (Long n) else None
kept_in_cell Refers (Ref n) = Some (Ref n)
kept_in_cell _ _ = None

-- a value as a place of the kind keeps it
abbrev pub kept_as : PlaceKind → RamValue → Option RamValue
kept_as (Holds kind) v = kept_in_cell (cell_in kind) v
kept_as (HoldsPointer kind) (Pointer at) = if is_as_wide (cell_in kind) (elem_held at.elem) then Some (Pointer at) else None
kept_as HoldsHandle (Handle field) = Some (Handle field)
kept_as _ _ = None

-- the board keeps what the machine keeps
abbrev pub KeptAlike : ℕ → List RamFrame → Option RamValue → Option Value → Type 0
KeptAlike room fs (Some r) (Some w) = IsValue room fs r w
KeptAlike room fs None None = Unit {0}
KeptAlike room fs (Some r) None = ⊥
KeptAlike room fs None (Some w) = ⊥
