-- The stack's topmost values, taken off and put back.
use Rattle.std.specs.Prelude.{◌≡◌, ℕ, ◌<◌, Bool, List, [], ◌∷◌, length, Option, Some, None, slice_index}
use Rattle.board_types.specs.declared.value.Value.{Value as RamValue}
use Rattle.machine.specs.Data.{Id, Value, Frame, State}
use Rattle.machine.specs.Program.{Program}
use Rattle.machine.specs.Numbers.{Answer, sight_of}
use Rattle.tiny_ops.specs.Operators.{Leads, stack_value, answer_of}
use Rattle.tiny_ops.specs.declared.answer.OpEnd.{OpEnd}
use Rattle.tiny_ram.specs.Memory.{RamFrame, Memory, with_frames, popped, pushed}
use Rattle.tiny_ram.specs.declared.memory.Ram.{Ram}
use Rattle.step_numbers.specs.declared.stack.Operands.{Operands}
use Rattle.step_ends.specs.declared.acted.Acted.{Acted}
use Rattle.step_ends.specs.declared.acted.Acted.TheVariants.{Done, Stuck, Spent, Raises}
use Rattle.step_ends.specs.Ends.{Before, GoesOn}

-- the operators see the machine's value in the region's, wherever pointers lead
abbrev pub Seen : RamValue → Value → Type 0
Seen r v = (l : Leads) → sight_of (stack_value l r) ≡ sight_of v

-- the operator's end is the machine's answer
abbrev pub IsAnswer : OpEnd → Answer → Type 0
IsAnswer ended answer = (l : Leads) → answer_of l ended ≡ answer

-- the frame with these values on its stack
abbrev pub stacked : Frame → List Value → Frame
stacked g stack = record g { stack = stack }

-- the state with such an innermost frame
abbrev pub with_top : State → Frame → List Frame → State
with_top s g gs = record s { frames = g ∷ gs }

module _ (p : Program) (outer : Id → ℕ → ℕ → Bool) where
  -- the end of an act that takes no cells and raises nothing: the frame goes on, or the machine has no case
  abbrev pub Moves : State → Ram → ℕ → Option State → Acted → Type 0
  Moves s u room next Done = GoesOn p outer s u room next
  Moves s u room next Stuck = next ≡ None
  Moves s u room next Spent = ⊥
  Moves s u room next (Raises known) = ⊥

  module _ (u : Ram) (m : Memory) (s : State) (f : RamFrame) (fs : List RamFrame) (g : Frame) (gs : List Frame) where
    -- the topmost value was taken off; pushed again it is where it was
    pub record Took (x : RamValue) : Type 0 where
      pub value : Value
      pub rest : List Value
      pub stack : g.stack ≡ value ∷ rest
      pub seen : Seen x value
      pub below : Before p outer u (with_frames m (popped f ∷ fs)) (with_top s (stacked g rest) gs) (popped f) fs (stacked g rest) gs
      pub room : (popped f).depth < slice_index f.sizes 2
      pub back : pushed (popped f) x ≡ f

    abbrev pub Takes : Option RamValue → Type 0
    Takes None = g.stack ≡ []
    Takes (Some x) = Took x

    -- the two topmost values were taken off, the second one first on the stack
    pub record TookTwo (taken : Operands) : Type 0 where
      pub first : Value
      pub second : Value
      pub rest : List Value
      pub stack : g.stack ≡ second ∷ first ∷ rest
      pub seen : Seen taken.first first
      pub seen_second : Seen taken.second second
      pub below : Before p outer u (with_frames m (popped (popped f) ∷ fs)) (with_top s (stacked g rest) gs) (popped (popped f)) fs (stacked g rest) gs
      pub room : (popped f).depth < slice_index f.sizes 2
      pub back : pushed (popped (popped f)) taken.first ≡ popped f
      pub back_second : pushed (popped f) taken.second ≡ f

    abbrev pub TakesTwo : Option Operands → Type 0
    TakesTwo None = length g.stack < 2
    TakesTwo (Some taken) = TookTwo taken
