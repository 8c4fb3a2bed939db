-- Arguments that are kept where they lie.
use Rattle.std.specs.Prelude.{◌≡◌, ℕ, ◌+◌, ◌<◌, ◌≤◌, Bool, true, false, List, [], ◌∷◌, length, Option, Some, None, slice_get, slice_set}
use Rattle.board_types.specs.declared.value.Value.{Value as RamValue}
use Rattle.machine.specs.Data.{Id, Value, Frame, State}
use Rattle.machine.specs.Program.{Program, Method}
use Rattle.machine.specs.Throw.{on_some}
use Rattle.machine.specs.Rows.{Taken, take_arguments, keep_all}
use Rattle.kept_values.specs.declared.keeping.PlaceKind.{PlaceKind}
use Rattle.kept_values.specs.Keeping.{kept_as}
use Rattle.tiny_ram.specs.Memory.{RamFrame, Memory, with_frames}
use Rattle.tiny_ram.specs.Region.{Keeps}
use Rattle.tiny_ram.specs.declared.memory.Ram.{Ram}
use Rattle.memory_states.specs.Values.{IsValue}
use Rattle.memory_states.specs.States.{IsMachineFrame}
use Rattle.step_calls.specs.declared.arguments.Given.{Given}
use Rattle.step_calls.specs.Arguments.{held_at, IsKeptAs, IsHanded}

-- a method of so many arguments
pub record IsOf (p : Program) (id : Id) (of : Method) (n : ℕ) : Type 0 where
  pub is : p.method id ≡ Some of
  pub count : n ≡ length of.arguments

module _ (u : Ram) (m : Memory) (f : RamFrame) (fs : List RamFrame) where
  pub record KeptHere (kind : PlaceKind) (at : ℕ) : Type 0 where
    pub kept : IsKeptAs kind (held_at f at)
    pub keeps : Keeps u (with_frames m (record f { places = slice_set f.places at (Some kept.value) } ∷ fs))

  abbrev pub KeepsHere : PlaceKind → ℕ → Bool → Type 0
  KeepsHere kind at true = KeptHere kind at
  KeepsHere kind at false = kept_as kind (held_at f at) ≡ None

  -- n places from the first on have what is kept of what they held, and all others are as before
  pub record KeptInPlace (kinds : ℕ → PlaceKind) (first n : ℕ) : Type 0 where
    pub places : List (Option RamValue)
    pub keeps : Keeps u (with_frames m (record f { places = places } ∷ fs))
    pub count : length places ≡ length f.places
    pub each : (i : ℕ) → i < n → IsHanded places (kinds i) (held_at f (first + i)) (first + i)
    pub lower : (j : ℕ) → j < first → slice_get places j ≡ slice_get f.places j
    pub upper : (j : ℕ) → first + n ≤ j → slice_get places j ≡ slice_get f.places j

  pub record LacksPlace (kinds : ℕ → PlaceKind) (first n : ℕ) : Type 0 where
    pub index : ℕ
    pub within : index < n
    pub none : kept_as (kinds index) (held_at f (first + index)) ≡ None

  abbrev pub KeepsInPlace : (ℕ → PlaceKind) → ℕ → ℕ → Bool → Type 0
  KeepsInPlace kinds first n true = KeptInPlace kinds first n
  KeepsInPlace kinds first n false = LacksPlace kinds first n

module _ (p : Program) (outer : Id → ℕ → ℕ → Bool) (u : Ram) (m : Memory) (s : State) (f : RamFrame) (fs : List RamFrame) (g : Frame) (gs : List Frame) (of : Method) (x : Given) where
  -- what the machine's places keep of its arguments lies in place of the arguments, and without them the frame is the machine's
  pub record KeptArguments : Type 0 where
    pub frame : RamFrame
    pub sizes : frame.sizes ≡ f.sizes
    pub deep : frame.depth ≡ f.depth
    pub keeps : Keeps u (with_frames m (frame ∷ fs))
    pub taken : Taken Value
    pub took : take_arguments (length of.arguments) g.stack [] ≡ Some taken
    pub values : List Value
    pub kept : keep_all of.arguments taken.arguments ≡ Some values
    pub lie : (i : ℕ) (v : Value) → slice_get values i ≡ Some v → IsValue m.room (frame ∷ fs) (held_at frame (x.first + i)) v
    pub rest : IsMachineFrame p outer s.heap m.room (record frame { depth = x.below }) fs (record g { stack = taken.rest }) gs

  abbrev pub KeepsArguments : Bool → Type 0
  KeepsArguments true = KeptArguments
  KeepsArguments false = on_some (take_arguments (length of.arguments) g.stack []) (λ t. keep_all of.arguments t.arguments) ≡ None
