-- A frame that starts with its arguments.
use Rattle.std.specs.Prelude.{◌≡◌, ℕ, ◌+◌, ◌<◌, ◌≤◌, nat_le, Bool, true, false, List, ◌∷◌, length, sum, Option, slice_get, slice_index}
use Rattle.board_types.specs.declared.value.Value.{Value as RamValue}
use Rattle.kept_values.specs.declared.keeping.PlaceKind.{PlaceKind}
use Rattle.tiny_ram.specs.Memory.{RamFrame, Memory, fresh_frame, frame_cells, innermost, used, with_frames}
use Rattle.tiny_ram.specs.Region.{Keeps}
use Rattle.tiny_ram.specs.declared.memory.Ram.{Ram}
use Rattle.step_ends.specs.declared.acted.Acted.{Acted}
use Rattle.step_ends.specs.declared.acted.Acted.TheVariants.{Done, Stuck, Spent, Raises}
use Rattle.step_calls.specs.declared.callee.Callee.{Callee}
use Rattle.step_calls.specs.declared.arguments.Given.{Given}
use Rattle.step_calls.specs.Arguments.{value_of, AreInside, IsHanded, LacksKind, AllKept}

-- the stack has no room for what is handed back
abbrev pub lacks_room_in : RamFrame → Bool → ℕ → Bool
lacks_room_in f true below = nat_le (slice_index f.sizes 2) below
lacks_room_in f false below = false

abbrev pub EndsWithout : RamFrame → (ℕ → PlaceKind) → Given → ℕ → Acted → Type 0
EndsWithout f kinds x n Done = ⊥
EndsWithout f kinds x n Stuck = LacksKind f kinds x n
EndsWithout f kinds x n Spent = AllKept f kinds x n
EndsWithout f kinds x n (Raises known) = ⊥

-- the arguments lie above so many values of the innermost frame's stack
pub record HaveArguments (m : Memory) (f : RamFrame) (c : Callee) (x : Given) : Type 0 where
  pub frame : x.frame ≡ innermost m.room m.frames
  pub inside : AreInside f x (slice_index c.sizes 0)
  pub deep : x.below ≤ slice_index f.sizes 2

-- the arguments are kept, and the frame's cells don't do
pub record LacksFrame (m : Memory) (f : RamFrame) (c : Callee) (kinds : ℕ → PlaceKind) (x : Given) : Type 0 where
  pub kept : AllKept f kinds x (slice_index c.sizes 0)
  pub more : m.room < used m + frame_cells (fresh_frame c.method c.sizes)

module _ (u : Ram) (m : Memory) (f : RamFrame) (fs : List RamFrame) (c : Callee) (kinds : ℕ → PlaceKind) (x : Given) where
  -- the new frame has its arguments and nothing else, and the frame that calls has lost them
  pub record IsStarted : Type 0 where
    pub places : List (Option RamValue)
    pub keeps : Keeps u (with_frames m (record (fresh_frame c.method c.sizes) { places = places } ∷ record f { depth = x.below } ∷ fs))
    pub count : length places ≡ sum c.sizes
    pub each : (i : ℕ) → i < slice_index c.sizes 0 → IsHanded places (kinds i) (value_of f x i) i
    pub others : (i : ℕ) → slice_index c.sizes 0 ≤ i → slice_get places i ≡ slice_get (fresh_frame c.method c.sizes).places i
    pub fits : used m + frame_cells (fresh_frame c.method c.sizes) ≤ m.room

  abbrev pub Starts : Acted → Type 0
  Starts Done = IsStarted
  Starts Stuck = LacksKind f kinds x (slice_index c.sizes 0)
  Starts Spent = LacksFrame m f c kinds x
  Starts (Raises known) = ⊥
