-- How acts end after their values were taken off.
use Rattle.std.specs.Int.{w32, cast_signed}
use Rattle.std.proofs.Common.{◌≡◌, ℕ, ◌<◌, ◌^◌, Bool, true, List, ◌∷◌, length, Option, Some, None, refl, sym, ap, ◌∙◌, subst}
use Rattle.std.specs.Prelude.{is_some}
use Rattle.std.proofs.lemmas.Bool.{false≢true}
use Rattle.board_types.specs.declared.value.Value.{Value as RamValue}
use Rattle.board_types.specs.declared.board.Known.{Known}
use Rattle.machine.specs.Data.{Id, Value, Object, Thing, thing_at, Frame, State}
use Rattle.machine.specs.Program.{Program}
use Rattle.machine.specs.Throw.{on_some, goes}
use Rattle.machine.specs.Rows.{on_thing_or}
use Rattle.tiny_ram.specs.Memory.{RamFrame, Memory, with_frames, pushed}
use Rattle.tiny_ram.specs.Region.{Keeps}
use Rattle.tiny_ram.specs.declared.memory.Ram.{Ram}
use Rattle.step_ends.specs.declared.acted.Acted.{Acted}
use Rattle.step_ends.specs.declared.acted.Acted.TheVariants as acted
use Rattle.step_ends.specs.Ends.{GoesOn, Ends}
use Rattle.step_ends.proofs.Going.{on}
use Rattle.memory_states.specs.Values.{IsValue}
use Rattle.memory_states.proofs.Frames.{pushed_is}
use Rattle.step_operands.specs.Below.{Moves, Below, stacked}

-- only the frame's stack was replaced
pub same_goes : (p : Program) (s : State) (g : Frame) (gs : List Frame) (old : List Value) (place : ℕ) (stack : List Value) → goes p s (stacked g old) gs place stack ≡ goes p s g gs place stack
unfolding goes
same_goes p s g gs old place stack = refl

-- an operand that names a thing
pub on_found : (p : Program) (s : State) (known : Known) (v : Value) (n : ℕ) (x : Thing) (go : ℕ → Thing → Option State) → v ≡ Object n → thing_at s.heap n ≡ Some x → on_thing_or p s known v go ≡ go n x
on_found p s known v n x go e t = ap (λ (w : Value). on_thing_or p s known w go) e ∙ ap (λ (o : Option Thing). on_some o (go n)) t

pub some_of : {A : Type 0} (o : Option A) → is_some o ≡ true → (x : A) × (o ≡ Some x)
some_of None e = absurd (false≢true e)
some_of (Some x) e = (x, refl)

module _ (p : Program) (outer : Id → ℕ → ℕ → Bool) where
  -- the state's objects may have changed
  pub moves_from : (s t : State) (u : Ram) (room : ℕ) (next : Option State) (a : Acted) → t.end ≡ s.end → Moves p outer t u room next a → Moves p outer s u room next a
  moves_from s t u room next acted.Done q h = record {
    state = h.state;
    is = h.is;
    end = h.end ∙ q;
    memory = h.memory;
    kept = h.kept;
    alike = h.alike;
    same_room = h.same_room;
  }
  moves_from s t u room next acted.Stuck q h = h
  moves_from s t u room next acted.Spent q h = absurd h
  moves_from s t u room next (acted.Raises known) q h = absurd h

  pub moves_so : (s : State) (u : Ram) (room : ℕ) (next after : Option State) (a : Acted) → next ≡ after → Moves p outer s u room next a → Moves p outer s u room after a
  moves_so s u room next after a e h = subst (λ (z : Option State). Moves p outer s u room z a) e h

  -- an end after values were taken off is one of the whole act: t is the state in which the frame went on
  pub moved_ends : (m : Memory) (s t : State) (u : Ram) (room : ℕ) (next after : Option State) (a : Acted) → room ≡ m.room → t.end ≡ s.end → next ≡ after → Moves p outer t u room next a → Ends p outer m s u after a
  moved_ends m s t u room next after acted.Done r q e h = record {
    state = h.state;
    is = sym e ∙ h.is;
    end = h.end ∙ q;
    memory = h.memory;
    kept = h.kept;
    alike = h.alike;
    same_room = h.same_room ∙ r;
  }
  moved_ends m s t u room next after acted.Stuck r q e h = sym e ∙ h
  moved_ends m s t u room next after acted.Spent r q e h = absurd h
  moved_ends m s t u room next after (acted.Raises known) r q e h = absurd h

  pub ends_so : (m : Memory) (s : State) (u : Ram) (next after : Option State) (a : Acted) → next ≡ after → Ends p outer m s u next a → Ends p outer m s u after a
  ends_so m s u next after a e h = subst (λ (z : Option State). Ends p outer m s u z a) e h

  same_state : (s : State) (k : Frame) (gs : List Frame) (fs : List Frame) (place : ℕ) (stack : List Value) → goes p s k gs place stack ≡ goes p (let t : State = record s { frames = fs } in t) k gs place stack
  unfolding goes
  same_state s k gs fs place stack = refl

  module _ (u : Ram) (m : Memory) (s : State) (fs : List RamFrame) (gs : List Frame) where
    -- the frame goes on at a place; w is the region before it
    pub went : (w : Ram) (h : RamFrame) (k : Frame) → Below p outer w m s fs gs h k → (place : ℕ) → place < 2 ^ 32 → Keeps u (with_frames m (record h { place = cast_signed w32 place } ∷ fs)) → GoesOn p outer s u m.room (goes p s k gs place k.stack)
    went w h k b place fits kept =
        let t : State = record s { frames = k ∷ gs } in
        let on_it = on p outer u (with_frames m (h ∷ fs)) t h fs k gs (record { heap = b.things; frames = (b.frame, b.callers) }) b.frame b.callers place fits kept in
        record {
          state = on_it.state;
          is = same_state s k gs (k ∷ gs) place k.stack ∙ on_it.is;
          end = on_it.end;
          memory = on_it.memory;
          kept = on_it.kept;
          alike = on_it.alike;
          same_room = on_it.same_room;
        }

    -- the same with a value on top of the stack
    pub went_with : (v : Ram) (h : RamFrame) (k : Frame) (b : Below p outer v m s fs gs h k) → (r : RamValue) (x : Value) → IsValue m.room (h ∷ fs) r x → length k.stack < b.frame.of.max_stack → (place : ℕ) → place < 2 ^ 32 → (w : Ram) → Keeps w (with_frames m (pushed h r ∷ fs)) → Keeps u (with_frames m (record (pushed h r) { place = cast_signed w32 place } ∷ fs)) → GoesOn p outer s u m.room (goes p s (stacked k (x ∷ k.stack)) gs place (x ∷ k.stack))
    went_with v h k b r x is room place fits w before kept =
        went w (pushed h r) (stacked k (x ∷ k.stack)) (record { keeps = before; things = b.things; frame = pushed_is p outer s.heap m.room h fs k gs b.frame r x is room; callers = b.callers }) place fits kept

-- a memory whose innermost frame was given back
pub same_frames : (u : Ram) (m : Memory) (f : RamFrame) (fs : List RamFrame) → m.frames ≡ f ∷ fs → Keeps u (with_frames m (f ∷ fs)) → Keeps u m
same_frames u m f fs e k = subst (λ (z : List RamFrame). Keeps u (with_frames m z)) (sym e) k
