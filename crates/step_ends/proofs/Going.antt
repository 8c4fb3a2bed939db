-- The innermost frame goes on.
use Rattle.std.specs.Int.{w32, cast_signed, cast_unsigned}
use Rattle.std.proofs.lemmas.Int.{of_z-to_z}
use Rattle.std.proofs.Common.{◌≡◌, ℕ, ℤ, ◌^◌, ◌<◌, ◌≤◌, Bool, List, ◌∷◌, length, Option, Some, None, refl, ap, ◌∙◌, subst}
use Rattle.std.specs.Prelude.{nat_le, if◌then◌else◌}
use Rattle.std.proofs.lemmas.Bool.{le-leb, lt-leb}
use Rattle.board_types.specs.declared.value.Value.{Value as RamValue}
use Rattle.machine.specs.Data.{Id, Value, Thing, Frame, State}
use Rattle.machine.specs.Program.{Program, Method}
use Rattle.machine.specs.Throw.{on_some, goes}
use Rattle.tiny_ram.specs.Memory.{RamFrame, Memory, with_frames, pushed}
use Rattle.tiny_ram.specs.Region.{Keeps}
use Rattle.tiny_ram.specs.declared.memory.Ram.{Ram}
use Rattle.memory_states.specs.Values.{IsValue}
use Rattle.memory_states.specs.States.{AreFrames, IsMachineFrame, StandsFor}
use Rattle.memory_states.proofs.Frames.{changed, value_over, arguments_kept, locals_kept, pushed_is}
use Rattle.step_ends.specs.Ends.{GoesOn}

-- a place that is passed as an int32
there_back : (n : ℕ) (z : ℤ) → n < 2 ^ 32 → z ≡ cast_signed w32 n → cast_signed w32 (cast_unsigned w32 z) ≡ cast_signed w32 n
there_back n z l e = ap (λ z. cast_signed w32 (cast_unsigned w32 z)) e ∙ ap (cast_signed w32) (of_z-to_z w32 n l)

-- a frame that was sent to a place
pub moved : (u : Ram) (m : Memory) (f : RamFrame) (fs : List RamFrame) (n : ℕ) (z : ℤ) → n < 2 ^ 32 → z ≡ cast_signed w32 n → Keeps u (with_frames m (record f { place = cast_signed w32 (cast_unsigned w32 z) } ∷ fs)) → Keeps u (with_frames m (record f { place = cast_signed w32 n } ∷ fs))
moved u m f fs n z l e k = subst (λ (x : ℤ). Keeps u (with_frames m (record f { place = x } ∷ fs))) (there_back n z l e) k

module _ (p : Program) (outer : Id → ℕ → ℕ → Bool) where
  -- a frame at another place
  placed_is : (heap : List Thing) (room : ℕ) (f : RamFrame) (fs : List RamFrame) (g : Frame) (gs : List Frame) (k : IsMachineFrame p outer heap room f fs g gs) (place : ℕ) → place < 2 ^ 32
      → IsMachineFrame p outer heap room (changed f f.places (cast_signed w32 place) f.depth) fs (record g { place = place }) gs
  placed_is heap room f fs g gs k place fits =
      record {
        of = k.of;
        is = k.is;
        method = k.method;
        initialiser = k.initialiser;
        place = refl;
        place_fits = fits;
        sizes = k.sizes;
        count = k.count;
        argument_count = k.argument_count;
        local_count = k.local_count;
        slot_count = k.slot_count;
        depth = k.depth;
        most = k.most;
        arguments = arguments_kept p outer heap room f fs g gs k f.places (cast_signed w32 place) f.depth (λ i l. refl);
        locals = locals_kept p outer heap room f fs g gs k f.places (cast_signed w32 place) f.depth (λ i l. refl);
        stack = λ i v e. let old = k.stack i v e in (old.0, old.1, value_over room f fs f.places (cast_signed w32 place) f.depth old.0 v old.2);
        slots = k.slots;
      }

  -- the innermost frames of a memory and of the state that it stands for
  pub record Top (m : Memory) (s : State) (f : RamFrame) (fs : List RamFrame) (g : Frame) (gs : List Frame) : Type 0 where
    pub frame : IsMachineFrame p outer s.heap m.room f fs g gs
    pub callers : AreFrames p outer s.heap m.room fs gs

  pub top_of : (m : Memory) (s : State) (f : RamFrame) (fs : List RamFrame) (g : Frame) (gs : List Frame) → m.frames ≡ f ∷ fs → s.frames ≡ g ∷ gs → StandsFor p outer m s → Top m s f fs g gs
  top_of m s f fs g gs e d h =
      let pair = subst (λ (x : List RamFrame). AreFrames p outer s.heap m.room x (g ∷ gs)) e (subst (λ (y : List Frame). AreFrames p outer s.heap m.room m.frames y) d h.frames) in
      record { frame = pair.0; callers = pair.1 }

  -- the state in which the frame goes on with a stack that fits
  goes_to : (s : State) (g : Frame) (gs : List Frame) (of : Method) (place : ℕ) (stack : List Value) → p.method g.method ≡ Some of → length stack ≤ of.max_stack → goes p s g gs place stack ≡ Some (record s { frames = record g { place = place; stack = stack } ∷ gs })
  unfolding goes
  goes_to s g gs of place stack is fits =
      ap (λ (o : Option Method). on_some o (λ m. if nat_le (length stack) m.max_stack then Some (let t : State = record s { frames = record g { place = place; stack = stack } ∷ gs } in t) else None)) is
      ∙ ap (λ (b : Bool). if b then Some (let t : State = record s { frames = record g { place = place; stack = stack } ∷ gs } in t) else None) (le-leb (length stack) of.max_stack fits)

  pub full : (s : State) (g : Frame) (gs : List Frame) (of : Method) (place : ℕ) (stack : List Value) → p.method g.method ≡ Some of → of.max_stack < length stack → goes p s g gs place stack ≡ None
  unfolding goes
  full s g gs of place stack is over =
      ap (λ (o : Option Method). on_some o (λ m. if nat_le (length stack) m.max_stack then Some (let t : State = record s { frames = record g { place = place; stack = stack } ∷ gs } in t) else None)) is
      ∙ ap (λ (b : Bool). if b then Some (let t : State = record s { frames = record g { place = place; stack = stack } ∷ gs } in t) else None) (lt-leb (length stack) of.max_stack over)

  -- the memory with the frame at the place stands for that state
  pub on : (u : Ram) (m : Memory) (s : State) (f : RamFrame) (fs : List RamFrame) (g : Frame) (gs : List Frame) → StandsFor p outer m s → IsMachineFrame p outer s.heap m.room f fs g gs → AreFrames p outer s.heap m.room fs gs
      → (place : ℕ) → place < 2 ^ 32 → Keeps u (with_frames m (record f { place = cast_signed w32 place } ∷ fs)) → GoesOn p outer s u m.room (goes p s g gs place g.stack)
  on u m s f fs g gs h k callers place fits kept =
      record {
        state = record s { frames = record g { place = place } ∷ gs };
        is = goes_to s g gs k.of place g.stack k.is k.most;
        end = refl;
        memory = with_frames m (record f { place = cast_signed w32 place } ∷ fs);
        kept = kept;
        alike = record { heap = h.heap; frames = (placed_is s.heap m.room f fs g gs k place fits, callers) };
        same_room = refl;
      }

  same_goes : (s : State) (g : Frame) (gs : List Frame) (place : ℕ) (stack : List Value) → goes p s (record g { stack = stack }) gs place stack ≡ goes p s g gs place stack
  unfolding goes
  same_goes s g gs place stack = refl

  -- the same of a frame with another stack
  pub went_on : (u : Ram) (m : Memory) (s : State) (f : RamFrame) (fs : List RamFrame) (g : Frame) (gs : List Frame) (stack : List Value) → StandsFor p outer m s → IsMachineFrame p outer s.heap m.room f fs (record g { stack = stack }) gs → AreFrames p outer s.heap m.room fs gs
      → (place : ℕ) → place < 2 ^ 32 → Keeps u (with_frames m (record f { place = cast_signed w32 place } ∷ fs)) → GoesOn p outer s u m.room (goes p s g gs place stack)
  went_on u m s f fs g gs stack h k callers place fits kept =
      subst (GoesOn p outer s u m.room) (same_goes s g gs place stack) (on u m s f fs (record g { stack = stack }) gs h k callers place fits kept)

  -- the same with a value on top of the stack
  pub pushed_on : (u : Ram) (m : Memory) (s : State) (f : RamFrame) (fs : List RamFrame) (g : Frame) (gs : List Frame) → StandsFor p outer m s → (k : IsMachineFrame p outer s.heap m.room f fs g gs) → AreFrames p outer s.heap m.room fs gs
      → (r : RamValue) (v : Value) → IsValue m.room (f ∷ fs) r v → length g.stack < k.of.max_stack → (place : ℕ) → place < 2 ^ 32 → Keeps u (with_frames m (record (pushed f r) { place = cast_signed w32 place } ∷ fs))
      → GoesOn p outer s u m.room (goes p s g gs place (v ∷ g.stack))
  pushed_on u m s f fs g gs h k callers r v is room place fits kept =
      went_on u m s (pushed f r) fs g gs (v ∷ g.stack) h (pushed_is p outer s.heap m.room f fs g gs k r v is room) callers place fits kept
