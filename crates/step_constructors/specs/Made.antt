-- An object on the stack of the frame that calls its constructor.
use Rattle.std.specs.Prelude.{◌≡◌, ℕ, ◌+◌, ◌<◌, ◌≤◌, List, ◌∷◌, length, sum, Option, Some, slice_get, slice_index}
use Rattle.board_types.specs.declared.value.Value.{Value as RamValue}
use Rattle.board_types.specs.declared.value.Value.TheVariants.{Ref}
use Rattle.machine.specs.Data.{Id, CliType}
use Rattle.machine.specs.Program.{Program}
use Rattle.kept_values.specs.declared.keeping.PlaceKind.{PlaceKind}
use Rattle.tiny_ram.specs.Memory.{RamFrame, Memory, fresh_frame, frame_cells, used, with_frames, pushed}
use Rattle.tiny_ram.specs.Region.{Keeps}
use Rattle.tiny_ram.specs.declared.memory.Ram.{Ram}
use Rattle.memory_states.specs.Values.{id_of}
use Rattle.step_ends.specs.declared.acted.Acted.{Acted}
use Rattle.step_ends.specs.declared.acted.Acted.TheVariants.{Done, Stuck, Spent, Raises}
use Rattle.step_calls.specs.declared.callee.Callee.{Callee}
use Rattle.step_calls.specs.declared.arguments.Given.{Given}
use Rattle.step_calls.specs.Arguments.{value_of, IsHanded, LacksKind}
use Rattle.step_calls.specs.Starts.{LacksFrame}
use Rattle.step_constructors.specs.declared.making.Made.{Made}

-- the class has so many fields
pub record IsMade (p : Program) (class : Id) (x : Made) : Type 0 where
  pub is : id_of x.class ≡ class
  pub types : List CliType
  pub fields : p.fields class ≡ Some types
  pub count : x.fields ≡ length types

-- the arguments behind the object
abbrev pub behind_object : Given → ℕ → Given
behind_object x object = record x { this = Some (Ref object) }

module _ (u : Ram) (m : Memory) (f : RamFrame) (fs : List RamFrame) (c : Callee) (kinds : ℕ → PlaceKind) (x : Given) (object : ℕ) where
  pub record IsConstructed : Type 0 where
    pub places : List (Option RamValue)
    pub keeps : Keeps u (with_frames m (record (fresh_frame c.method c.sizes) { places = places } ∷ pushed (record f { depth = x.below }) (Ref object) ∷ fs))
    pub count : length places ≡ sum c.sizes
    pub each : (i : ℕ) → i < slice_index c.sizes 0 → IsHanded places (kinds i) (value_of f (behind_object x object) i) i
    pub others : (i : ℕ) → slice_index c.sizes 0 ≤ i → slice_get places i ≡ slice_get (fresh_frame c.method c.sizes).places i
    pub fits : used m + frame_cells (fresh_frame c.method c.sizes) ≤ m.room

  abbrev pub Constructs : Acted → Type 0
  Constructs Done = IsConstructed
  Constructs Stuck = LacksKind f kinds (behind_object x object) (slice_index c.sizes 0)
  Constructs Spent = LacksFrame m f c kinds (behind_object x object)
  Constructs (Raises known) = ⊥
