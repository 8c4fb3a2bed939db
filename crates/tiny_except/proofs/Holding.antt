-- A memory that stands for a state meets what the calls ask of it.
use Rattle.std.proofs.Common.{◌≡◌, ℕ, ◌+◌, ◌^◌, ◌<◌, Bool, List, [], ◌∷◌, Option, Some, None, refl, sym, ap, ◌∙◌, subst}
use Rattle.std.specs.Prelude.{slice_get}
use Rattle.board_types.specs.declared.board.TypeAt.{TypeAt}
use Rattle.machine.specs.Data.{Id, Thing, Frame, State}
use Rattle.machine.specs.Program.{Program, Method}
use Rattle.machine.specs.Throw.{leave, left, take_up}
use Rattle.machine_rename.specs.Again.{Nested}
use Rattle.tiny_ram.specs.Memory.{RamFrame, Memory}
use Rattle.memory_states.specs.Told.{Told}
use Rattle.memory_states.specs.Values.{id_of}
use Rattle.memory_states.specs.States.{Tells, IsThrown, IsMachineFrame, AreFrames, StandsFor}
use Rattle.memory_states.proofs.Frames.{stack_size, slot_size}
use Rattle.tiny_except.specs.declared.clauses.Found.{Found}
use Rattle.tiny_except.specs.Unwinding.{class_in, left_after, ended_in, ended_at, plan_in, plan_at, taken_up}
use Rattle.tiny_except.specs.Searches.{HasSlots, AllHaveSlots, IsThere}
use Rattle.tiny_except.specs.Machine.{GoesAlike}
use Rattle.tiny_except.proofs.Scans.{same_count}
use Rattle.tiny_except.proofs.Plans.{clauses_are}
use Rattle.tiny_except.proofs.Leaves.{leaves_here, classed, ends, plan_there}

some_same : {A : Type 0} (x y : A) → Some x ≡ Some y → x ≡ y
some_same x y e = cc e

module _ (p : Program) (t : Told) (outer : Id → ℕ → ℕ → Bool) (tells : Tells t p outer) where
  has_slots : (heap : List Thing) (room : ℕ) (f : RamFrame) (fs : List RamFrame) (g : Frame) (gs : List Frame) → IsMachineFrame p outer heap room f fs g gs → HasSlots t f
  has_slots heap room f fs g gs k = record {
    count = same_count p t (t.clauses f.method) k.of.clauses (clauses_are p t outer tells heap room f fs g gs k) ∙ sym (slot_size p outer heap room f fs g gs k);
    room = λ j c e kind.
        let some : 0 < k.of.max_stack = tells.room f.method k.of (ap p.method k.method ∙ k.is) j c e kind in
        subst (λ n. 0 < n) (sym (stack_size p outer heap room f fs g gs k)) some;
  }

  all_have : (heap : List Thing) (room : ℕ) (fs : List RamFrame) (gs : List Frame) → AreFrames p outer heap room fs gs → AllHaveSlots t fs
  all_have heap room [] [] h = tt
  all_have heap room (f ∷ fs) (g ∷ gs) h = (has_slots heap room f fs g gs h.0, all_have heap room fs gs h.1)
  all_have heap room [] (g ∷ gs) h = absurd h
  all_have heap room (f ∷ fs) [] h = absurd h

  pub slots : (m : Memory) (s : State) → StandsFor p outer m s → AllHaveSlots t m.frames
  slots m s h = all_have s.heap m.room m.frames s.frames h.frames

  module _ (nested : Nested p outer) (m : Memory) (s : State) (h : StandsFor p outer m s) where
    -- by the state's innermost frame
    pub record Topped (g : Frame) (gs : List Frame) : Type 0 where
      pub frame : RamFrame
      pub callers : List RamFrame
      pub is : m.frames ≡ frame ∷ callers
      pub at : IsMachineFrame p outer s.heap m.room frame callers g gs
      pub below : AreFrames p outer s.heap m.room callers gs

    pub topped : (g : Frame) (gs : List Frame) → s.frames ≡ g ∷ gs → Topped g gs
    topped g gs e = by m.frames refl (subst (λ (z : List Frame). AreFrames p outer s.heap m.room m.frames z) e h.frames)
      where
        by : (fs : List RamFrame) → m.frames ≡ fs → AreFrames p outer s.heap m.room fs (g ∷ gs) → Topped g gs
        by [] q w = absurd w
        by (f ∷ fs) q w = record { frame = f; callers = fs; is = q; at = w.0; below = w.1 }

    pub leave_alike : (g : Frame) (gs : List Frame) → s.frames ≡ g ∷ gs → (of : Method) → p.method g.method ≡ Some of → (target : ℕ) → target < 2 ^ 32 → GoesAlike p outer s (Some (left_after t target m)) (leave p s g gs (left p g.method g.place target 0 of.clauses) target)
    leave_alike g gs e of q target l =
        let w = topped g gs e in
        let y = leaves_here p t outer tells nested m s h.heap w.frame w.callers g gs w.at w.below w.is target l in
        let same : w.at.of ≡ of = some_same w.at.of of (sym w.at.is ∙ q) in
        subst (λ (z : Method). GoesAlike p outer s (Some (left_after t target m)) (leave p s g gs (left p g.method g.place target 0 z.clauses) target)) same
        (subst (λ (z : Option State). GoesAlike p outer s (Some (left_after t target m)) z) (sym y.is) (y.alike, y.end))

    pub ends_alike : (g : Frame) (gs : List Frame) → s.frames ≡ g ∷ gs → (ended : Found) → ended_at t m.frames ≡ Some ended → GoesAlike p outer s (taken_up t m (plan_at t m.frames)) (take_up p s g gs (slice_get g.slots ended.number))
    ends_alike g gs e x q =
        let w = topped g gs e in
        ends p t outer tells nested m s h.heap w.frame w.callers g gs w.at w.below w.is x (sym (ap (ended_at t) w.is) ∙ q)

    pub class_there : (object : ℕ) (class : Id) → IsThrown p outer s.heap object class → (of : TypeAt) × (class_in m.heap (1 + object) ≡ Some of) × (id_of of ≡ class)
    class_there object class th = let w = classed p outer m s h.heap object class th in (w.of, w.there, w.is_class)

    plan_by_frame : (f : RamFrame) (fs : List RamFrame) (gs : List Frame) → m.frames ≡ f ∷ fs → AreFrames p outer s.heap m.room (f ∷ fs) gs → IsThere m (plan_at t m.frames)
    plan_by_frame f fs [] e w = absurd w
    plan_by_frame f fs (g ∷ gs) e w = by (ended_in t f) refl
      where
        by : (o : Option Found) → ended_in t f ≡ o → IsThere m (plan_at t m.frames)
        by None q = subst (IsThere m) (sym (ap (plan_at t) e ∙ ap (plan_in f) q)) tt
        by (Some x) q = plan_there p t outer tells nested m s h.heap f fs g gs w.0 w.1 e x q

    pub plan_is_there : IsThere m (plan_at t m.frames)
    plan_is_there = by m.frames refl (h.frames)
      where
        by : (fs : List RamFrame) → m.frames ≡ fs → AreFrames p outer s.heap m.room fs s.frames → IsThere m (plan_at t m.frames)
        by [] q w = subst (IsThere m) (sym (ap (plan_at t) q)) tt
        by (f ∷ fs) q w = plan_by_frame f fs s.frames q w
