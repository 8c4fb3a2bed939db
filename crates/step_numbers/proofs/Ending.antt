-- How acts end after their values were taken off.
use Rattle.std.proofs.Common.{◌≡◌, ℕ, ◌<◌, Bool, List, [], ◌∷◌, length, Option, Some, None, refl, sym, ap, ◌∙◌, subst, arith}
use Rattle.std.specs.Option.{option_map}
use Rattle.machine.specs.Data.{Id, Value, Frame, State}
use Rattle.machine.specs.Program.{Program}
use Rattle.machine.specs.Numbers.{of_bool}
use Rattle.machine.specs.Throw.{on_some, goes}
use Rattle.machine.specs.Rows.{on_top, on_two, answered}
use Rattle.machine.specs.Step.{branch_if}
use Rattle.tiny_ops.specs.Operators.{given}
use Rattle.tiny_ram.specs.Memory.{RamFrame, Memory, with_frames}
use Rattle.tiny_ram.specs.Region.{Keeps}
use Rattle.tiny_ram.specs.declared.memory.Ram.{Ram}
use Rattle.step_ends.specs.declared.acted.Acted.{Acted}
use Rattle.step_ends.specs.declared.acted.Acted.TheVariants as acted
use Rattle.step_ends.specs.Ends.{Ends}
use Rattle.step_numbers.specs.Taken.{Moves, stacked, with_top}

-- ---- the machine's stack

pub top_is : {A : Type 0} (stack : List Value) (v : Value) (rest : List Value) (go : Value → List Value → Option A) → stack ≡ v ∷ rest → on_top stack go ≡ go v rest
top_is stack v rest go e = ap (λ st. on_top st go) e

pub no_top_is : {A : Type 0} (stack : List Value) (go : Value → List Value → Option A) → stack ≡ [] → on_top stack go ≡ None
no_top_is stack go e = ap (λ st. on_top st go) e

pub two_are : {A : Type 0} (stack : List Value) (v w : Value) (rest : List Value) (go : Value → Value → List Value → Option A) → stack ≡ w ∷ v ∷ rest → on_two stack go ≡ go v w rest
two_are stack v w rest go e = ap (λ st. on_two st go) e

pub no_two_are : {A : Type 0} (stack : List Value) (go : Value → Value → List Value → Option A) → length stack < 2 → on_two stack go ≡ None
no_two_are [] go l = refl
no_two_are (w ∷ []) go l = refl
no_two_are (w ∷ v ∷ rest) go l = absurd (omega (arith, l))

module _ (p : Program) (s : State) (g : Frame) (gs : List Frame) where
  -- only the frame's stack was replaced
  pub same_goes : (old : List Value) (place : ℕ) (stack : List Value) → goes p (with_top s (stacked g old) gs) (stacked g old) gs place stack ≡ goes p s g gs place stack
  unfolding goes
  same_goes old place stack = refl

  pub same_branch : (old : List Value) (next : ℕ) (on : Bool) (target : ℕ) (test : Option Bool) (stack : List Value) → branch_if p (with_top s (stacked g old) gs) (stacked g old) gs next on target test stack ≡ branch_if p s g gs next on target test stack
  unfolding goes
  same_branch old next on target None stack = refl
  same_branch old next on target (Some b) stack = refl

  -- an operator that throws nothing
  pub given_goes : (next : ℕ) (rest : List Value) (o : Option Value) → answered p s g gs next rest (given o) ≡ on_some o (λ v. goes p s g gs next (v ∷ rest))
  given_goes next rest None = refl
  given_goes next rest (Some v) = refl

  pub tested_goes : (next : ℕ) (rest : List Value) (o : Option Bool) → answered p s g gs next rest (given (option_map of_bool o)) ≡ on_some o (λ b. goes p s g gs next (of_bool b ∷ rest))
  tested_goes next rest None = refl
  tested_goes next rest (Some b) = refl

-- ---- ends

module _ (p : Program) (outer : Id → ℕ → ℕ → Bool) where
  -- an end after values were taken off is one of the whole act
  pub moved_ends : (m : Memory) (s : State) (g : Frame) (gs : List Frame) (u : Ram) (next after : Option State) (a : Acted) → next ≡ after → Moves p outer (with_top s g gs) u m.room next a → Ends p outer m s u after a
  moved_ends m s g gs u next after acted.Done e h = record {
    state = h.state;
    is = sym e ∙ h.is;
    end = h.end;
    memory = h.memory;
    kept = h.kept;
    alike = h.alike;
    same_room = h.same_room;
  }
  moved_ends m s g gs u next after acted.Stuck e h = sym e ∙ h
  moved_ends m s g gs u next after acted.Spent e h = absurd h
  moved_ends m s g gs u next after (acted.Raises known) e h = absurd h

  -- the machine's answer in place of the operator's end
  pub ends_so : (m : Memory) (s : State) (u : Ram) (next after : Option State) (a : Acted) → next ≡ after → Ends p outer m s u next a → Ends p outer m s u after a
  ends_so m s u next after a e h = subst (λ (z : Option State). Ends p outer m s u z a) e h

-- a memory whose innermost frame was given back
pub same_frames : (u : Ram) (m : Memory) (f h : RamFrame) (fs : List RamFrame) → m.frames ≡ f ∷ fs → h ≡ f → Keeps u (with_frames m (h ∷ fs)) → Keeps u m
same_frames u m f h fs e q k =
    subst (λ (z : List RamFrame). Keeps u (with_frames m z)) (sym e) (subst (λ (z : RamFrame). Keeps u (with_frames m (z ∷ fs))) q k)
