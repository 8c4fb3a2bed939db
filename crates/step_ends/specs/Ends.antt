-- How an act over the memory ends, beside the machine's.
use Rattle.std.specs.Prelude.{◌≡◌, ℕ, ◌<◌, Bool, List, ◌∷◌, Option, Some, None}
use Rattle.machine.specs.Data.{Id, Frame, State}
use Rattle.machine.specs.Program.{Program, Instruction}
use Rattle.machine.specs.Throw.{raise}
use Rattle.machine.specs.Step.{act}
use Rattle.machine.specs.Trace.{cells}
use Rattle.tiny_ram.specs.Memory.{RamFrame, Memory}
use Rattle.tiny_ram.specs.Region.{Keeps}
use Rattle.tiny_ram.specs.declared.memory.Ram.{Ram}
use Rattle.memory_states.specs.States.{StandsFor}
use Rattle.step_ends.specs.declared.acted.Acted.{Acted}
use Rattle.step_ends.specs.declared.acted.Acted.TheVariants.{Done, Stuck, Spent, Raises}

module _ (p : Program) (outer : Id → ℕ → ℕ → Bool) where
  -- the machine has a next state, which goes on as the state before it, and the memory stands for it
  pub record GoesOn (s : State) (u : Ram) (room : ℕ) (next : Option State) : Type 0 where
    pub state : State
    pub is : next ≡ Some state
    pub end : state.end ≡ s.end
    pub memory : Memory
    pub kept : Keeps u memory
    pub alike : StandsFor p outer memory state
    pub same_room : memory.room ≡ room

  -- the machine has a next state, and its cells are more than the memory has
  pub record LacksCells (room : ℕ) (next : Option State) : Type 0 where
    pub state : State
    pub is : next ≡ Some state
    pub more : room < cells p state

  module _ (m : Memory) (s : State) (u : Ram) (next : Option State) where
    -- u is the region after the act, m the memory before it, s the machine's state before it, and next the one after it
    abbrev pub Ends : Acted → Type 0
    Ends Done = GoesOn s u m.room next
    Ends Stuck = next ≡ None
    Ends Spent = LacksCells m.room next
    Ends (Raises known) = Keeps u m × (next ≡ raise p s known)

-- before an act: the region keeps the memory, and it stands for the state; f and g are their innermost frames
pub record Before (p : Program) (outer : Id → ℕ → ℕ → Bool) (r : Ram) (m : Memory) (s : State) (f : RamFrame) (fs : List RamFrame) (g : Frame) (gs : List Frame) : Type 0 where
  pub keeps : Keeps r m
  pub ram_frames : m.frames ≡ f ∷ fs
  pub frames : s.frames ≡ g ∷ gs
  pub alike : StandsFor p outer m s

-- over every program, memory and state, an instruction's act ends so; r is the region before it, and u after it
abbrev pub OfAct : Ram → Ram → ℕ → Instruction → Acted → Type 0
OfAct r u next i acted =
    (p : Program) (outer : Id → ℕ → ℕ → Bool) (m : Memory) (s : State) (f : RamFrame) (fs : List RamFrame) (g : Frame) (gs : List Frame) → Before p outer r m s f fs g gs → Ends p outer m s u (act p s g gs next i) acted
