-- The innermost frame between an instruction's first pop and its end.
use Rattle.std.specs.Prelude.{◌≡◌, ℕ, suc, ◌<◌, ◌≤◌, Bool, List, ◌∷◌, Option, Some, None, slice_get, slice_index}
use Rattle.board_types.specs.declared.value.Value.{Value as RamValue}
use Rattle.machine.specs.Data.{Id, Value, Frame, State}
use Rattle.machine.specs.Program.{Program}
use Rattle.machine.specs.Rows.{on_top, on_two, on_three}
use Rattle.tiny_ram.specs.Memory.{RamFrame, Memory, with_frames, top_value, popped}
use Rattle.tiny_ram.specs.Region.{Keeps}
use Rattle.tiny_ram.specs.declared.memory.Ram.{Ram}
use Rattle.memory_states.specs.Values.{IsValue, AreThings}
use Rattle.memory_states.specs.States.{IsMachineFrame, AreFrames}
use Rattle.step_ends.specs.declared.acted.Acted.{Acted}
use Rattle.step_ends.specs.declared.acted.Acted.TheVariants.{Done, Stuck, Spent, Raises}
use Rattle.step_ends.specs.Ends.{GoesOn}
use Rattle.step_operands.specs.declared.stack.Pair.{Pair}
use Rattle.step_operands.specs.declared.stack.Triple.{Triple}

-- the frame with these values on its stack
abbrev pub stacked : Frame → List Value → Frame
stacked g stack = record g { stack = stack }

-- the value lies on top
pub record IsTop (h : RamFrame) (x : RamValue) : Type 0 where
  pub top : top_value h ≡ Some x
  pub some : 0 < h.depth
  pub fits : h.depth ≤ slice_index h.sizes 2

module _ (p : Program) (outer : Id → ℕ → ℕ → Bool) where
  -- an act's end that takes no cells and raises nothing: the frame goes on, or the machine has no case
  abbrev pub Moves : State → Ram → ℕ → Option State → Acted → Type 0
  Moves s u room next Done = GoesOn p outer s u room next
  Moves s u room next Stuck = next ≡ None
  Moves s u room next Spent = ⊥
  Moves s u room next (Raises known) = ⊥

  module _ (u : Ram) (m : Memory) (s : State) (fs : List RamFrame) (gs : List Frame) where
    -- the region keeps the memory with h in place of its innermost frame, which is the machine's k
    pub record Below (h : RamFrame) (k : Frame) : Type 0 where
      pub keeps : Keeps u (with_frames m (h ∷ fs))
      pub things : AreThings p m.room m.heap s.heap
      pub frame : IsMachineFrame p outer s.heap m.room h fs k gs
      pub callers : AreFrames p outer s.heap m.room fs gs

    module _ (h : RamFrame) (k : Frame) where
      -- the topmost value was taken off
      pub record Took (x : RamValue) : Type 0 where
        pub value : Value
        pub rest : List Value
        pub on : (go : Value → List Value → Option State) → on_top k.stack go ≡ go value rest
        pub at : slice_get k.stack 0 ≡ Some value
        pub later : (i : ℕ) → slice_get k.stack (suc i) ≡ slice_get rest i
        pub is : IsValue m.room (popped h ∷ fs) x value
        pub top : IsTop h x
        pub below : Below (popped h) (stacked k rest)

      abbrev pub Takes : Option RamValue → Type 0
      Takes None = (go : Value → List Value → Option State) → on_top k.stack go ≡ None
      Takes (Some x) = Took x

      -- the two topmost values were taken off
      pub record TookTwo (taken : Pair) : Type 0 where
        pub first : Value
        pub second : Value
        pub rest : List Value
        pub on : (go : Value → Value → List Value → Option State) → on_two k.stack go ≡ go first second rest
        pub first_at : slice_get k.stack 1 ≡ Some first
        pub is_first : IsValue m.room (popped (popped h) ∷ fs) taken.first first
        pub is_second : IsValue m.room (popped (popped h) ∷ fs) taken.second second
        pub top_second : IsTop h taken.second
        pub top_first : IsTop (popped h) taken.first
        pub below : Below (popped (popped h)) (stacked k rest)

      abbrev pub TakesTwo : Option Pair → Type 0
      TakesTwo None = (go : Value → Value → List Value → Option State) → on_two k.stack go ≡ None
      TakesTwo (Some taken) = TookTwo taken

      -- the three topmost values were taken off
      pub record TookThree (taken : Triple) : Type 0 where
        pub first : Value
        pub second : Value
        pub third : Value
        pub rest : List Value
        pub on : (go : Value → Value → Value → List Value → Option State) → on_three k.stack go ≡ go first second third rest
        pub first_at : slice_get k.stack 2 ≡ Some first
        pub third_at : slice_get k.stack 0 ≡ Some third
        pub is_first : IsValue m.room (popped (popped (popped h)) ∷ fs) taken.first first
        pub is_second : IsValue m.room (popped (popped (popped h)) ∷ fs) taken.second second
        pub is_third : IsValue m.room (popped (popped (popped h)) ∷ fs) taken.third third
        pub top_third : IsTop h taken.third
        pub top_second : IsTop (popped h) taken.second
        pub top_first : IsTop (popped (popped h)) taken.first
        pub below : Below (popped (popped (popped h))) (stacked k rest)

      abbrev pub TakesThree : Option Triple → Type 0
      TakesThree None = (go : Value → Value → Value → List Value → Option State) → on_three k.stack go ≡ None
      TakesThree (Some taken) = TookThree taken
