-- A frame that has ended, and its caller that goes on.
use Rattle.std.specs.Int.{w32, cast_signed, cast_unsigned}
use Rattle.std.proofs.lemmas.Int.{of_z-to_z}
use Rattle.std.proofs.Common.{◌≡◌, ℕ, ℤ, ◌^◌, ◌<◌, Bool, true, false, List, [], ◌∷◌, length, Option, Some, None, refl, sym, ap, ◌∙◌, subst, arith}
use Rattle.std.specs.Prelude.{slice_index}
use Rattle.std.specs.Option.{option_map}
use Rattle.std.proofs.lemmas.Bool.{ltb-true, ltb-false}
use Rattle.board_types.specs.declared.board.TypeAt.{TypeAt}
use Rattle.board_types.specs.declared.value.Value.{Value as RamValue}
use Rattle.board_types.specs.declared.value.Value.TheVariants as ram
use Rattle.machine.specs.Data.{Id, Value, Int, Long, Null, Object, Handle, Pointer, Thing, Frame, State}
use Rattle.machine.specs.Data as machine
use Rattle.machine.specs.Program.{Program, Line}
use Rattle.machine.specs.Throw.{on_some, goes}
use Rattle.machine.specs.Calls.{with_result, hand_back, result_of, return_value}
use Rattle.tiny_ram.specs.Memory.{RamFrame, Memory, with_frames}
use Rattle.tiny_ram.specs.Region.{Keeps}
use Rattle.tiny_ram.specs.declared.memory.Ram.{Ram}
use Rattle.memory_states.specs.Values.{id_of}
use Rattle.memory_states.specs.States.{AreFrames, IsMachineFrame, StandsFor}
use Rattle.memory_states.proofs.Frames.{stack_size}
use Rattle.kept_values.specs.declared.keeping.PlaceKind.{PlaceKind}
use Rattle.step_ends.specs.Ends.{GoesOn}
use Rattle.step_ends.specs.declared.acted.Acted.TheVariants as acted
use Rattle.step_ends.proofs.Going.{full, on, pushed_on}
use Rattle.step_return.specs.declared.returning.Returned.{Returned}
use Rattle.step_return.specs.declared.returning.Returned.TheVariants.{Acted, Ended}
use Rattle.step_return.specs.Returns.{LinesAre, HandsBack, IsResult, result_held, pushed_result, has_room, goes_behind, ended_with, Leaves, WentOn, EndsRun, ReturnEnds, HandedBack}
use Rattle.step_return.proofs.Results.{ResultAlike, result_alike}

some_same : {A : Type 0} (x y : A) → Some x ≡ Some y → x ≡ y
some_same x y e = cc e

module _ (p : Program) (behind : TypeAt → ℕ → Option ℕ) (lines : LinesAre p behind) (s : State) (g : Frame) (gs : List Frame) (v : Option Value) (of : TypeAt) (is : id_of of ≡ g.method) (fits : g.place < 2 ^ 32) where
  there : option_map (λ (line : Line). line.next) (p.fetch g.method g.place) ≡ behind of g.place
  there = ap (λ (id : Id). option_map (λ (line : Line). line.next) (p.fetch id g.place)) (sym is) ∙ lines of g.place fits

  pub no_line : behind of g.place ≡ None → goes_behind p s g gs v ≡ None
  no_line e = by (p.fetch g.method g.place) (there ∙ e)
    where
      by : (o : Option Line) → option_map (λ (line : Line). line.next) o ≡ None → on_some o (λ line. goes p s g gs line.next (with_result v g.stack)) ≡ None
      by None q = refl
      by (Some line) q = absurd (cc q)

  pub some_line : (n : ℕ) → behind of g.place ≡ Some n → goes_behind p s g gs v ≡ goes p s g gs n (with_result v g.stack)
  some_line n e = by (p.fetch g.method g.place) (there ∙ e)
    where
      by : (o : Option Line) → option_map (λ (line : Line). line.next) o ≡ Some n → on_some o (λ line. goes p s g gs line.next (with_result v g.stack)) ≡ goes p s g gs n (with_result v g.stack)
      by None q = absurd (cc q)
      by (Some line) q = ap (λ n. goes p s g gs n (with_result v g.stack)) (some_same line.next n q)

-- where a frame is in its code
pub place_back : (n : ℕ) (z y : ℤ) → n < 2 ^ 32 → z ≡ y → y ≡ cast_signed w32 n → cast_unsigned w32 (cast_signed w32 (cast_unsigned w32 z)) ≡ n
place_back n z y l e q = ap (λ z. cast_unsigned w32 (cast_signed w32 (cast_unsigned w32 z))) (e ∙ q) ∙ ap (λ n. cast_unsigned w32 (cast_signed w32 n)) (of_z-to_z w32 n l) ∙ of_z-to_z w32 n l

module _ (p : Program) (outer : Id → ℕ → ℕ → Bool) (m : Memory) (s : State) (f : RamFrame) (fs : List RamFrame) (g : Frame) (gs : List Frame) (h : StandsFor p outer m s) (k : IsMachineFrame p outer s.heap m.room f fs g gs) (below : AreFrames p outer s.heap m.room fs gs) where
  -- the stack is full
  pub no_room : (o : Option RamValue) (v : Option Value) → IsResult m.room (f ∷ fs) o v → has_room f o ≡ false → (n : ℕ) → goes p s g gs n (with_result v g.stack) ≡ None
  no_room None v q e n = absurd (cc e)
  no_room (Some r) None q e n = absurd q
  no_room (Some r) (Some v) q e n =
      let over = ltb-false f.depth (slice_index f.sizes 2) e in
      let size = stack_size p outer s.heap m.room f fs g gs k in
      let depth = k.depth in
      full p outer s g gs k.of n (v ∷ g.stack) k.is (omega (arith, over, size, depth))

  pub gone_on : (u : Ram) (o : Option RamValue) (v : Option Value) → IsResult m.room (f ∷ fs) o v → has_room f o ≡ true → (n : ℕ) → n < 2 ^ 32 → Keeps u (with_frames m (record (pushed_result f o) { place = cast_signed w32 n } ∷ fs)) → GoesOn p outer s u m.room (goes p s g gs n (with_result v g.stack))
  gone_on u None None q e n l kept = on p outer u m s f fs g gs h k below n l kept
  gone_on u (Some r) (Some v) q e n l kept =
      let room = ltb-true f.depth (slice_index f.sizes 2) e in
      let size = stack_size p outer s.heap m.room f fs g gs k in
      let depth = k.depth in
      let less : length g.stack < k.of.max_stack = omega (arith, room, size, depth) in
      pushed_on p outer u m s f fs g gs h k below r v q less n l kept
  gone_on u None (Some v) q e n l kept = absurd q
  gone_on u (Some r) None q e n l kept = absurd q

-- ---- the end of a frame

pub record First (gs : List Frame) : Type 0 where
  pub frame : Frame
  pub callers : List Frame
  pub is : gs ≡ frame ∷ callers

module _ (p : Program) (outer : Id → ℕ → ℕ → Bool) (r u : Ram) (m : Memory) (s : State) (f : RamFrame) (fs : List RamFrame) (gs : List Frame) (initialiser : Bool) (h : Leaves p outer r m s f fs gs initialiser) (kept : Keeps u (with_frames m fs)) where
  pub first_frame : (x : RamFrame) (xs : List RamFrame) → fs ≡ x ∷ xs → First gs
  first_frame x xs e = by gs (subst (λ (z : List RamFrame). AreFrames p outer s.heap m.room z gs) e h.callers.frames)
    where
      by : (gs : List Frame) → AreFrames p outer s.heap m.room (x ∷ xs) gs → First gs
      by [] w = absurd w
      by (g ∷ gs) w = record { frame = g; callers = gs; is = refl }

  pub no_frame : fs ≡ [] → gs ≡ []
  no_frame e = by gs (subst (λ (z : List RamFrame). AreFrames p outer s.heap m.room z gs) e h.callers.frames)
    where
      by : (gs : List Frame) → AreFrames p outer s.heap m.room [] gs → gs ≡ []
      by [] w = refl
      by (g ∷ gs) w = absurd w

  ends : fs ≡ [] → (number : Option ℤ) (next : Option State) → next ≡ Some (record s { frames = []; end = machine.Returned number }) → EndsRun p outer s u m.room next number
  ends e number next q = record {
    is = q;
    memory = with_frames m [];
    kept = subst (λ (z : List RamFrame). Keeps u (with_frames m z)) e kept;
    alike = record { heap = h.callers.heap; frames = tt };
    same_room = refl;
  }

  by_value : fs ≡ [] → (o : Option RamValue) (v : Option Value) → IsResult m.room fs o v → HandedBack p outer s u m.room (hand_back p s initialiser v []) (ended_with o)
  by_value e None None q = ends e None (hand_back p s initialiser None []) refl
  by_value e (Some (ram.Int n)) (Some (Int k)) q = ends e (Some n) (hand_back p s initialiser (Some (Int k)) []) (ap (λ (z : ℤ). Some (let t : State = record s { frames = []; end = machine.Returned (Some z) } in t)) (sym q))
  by_value e (Some (ram.Long n)) (Some (Long k)) q = refl
  by_value e (Some (ram.Ref n)) (Some Null) q = refl
  by_value e (Some (ram.Ref n)) (Some (Object k)) q = refl
  by_value e (Some (ram.Handle field)) (Some (Handle k)) q = refl
  by_value e (Some (ram.Pointer at)) (Some (Pointer c x)) q = refl
  by_value e _ _ q = absurd q

  -- the run ends with what the first method hands back
  pub run_ends : fs ≡ [] → (o : Option RamValue) (v : Option Value) → IsResult m.room fs o v → HandedBack p outer s u m.room (hand_back p s initialiser v gs) (ended_with o)
  run_ends e o v q = subst (λ (z : List Frame). HandedBack p outer s u m.room (hand_back p s initialiser v z) (ended_with o)) (sym (no_frame e)) (by_value e o v q)

  pub passed : initialiser ≡ true → (w : First gs) → (v : Option Value) → GoesOn p outer s u m.room (hand_back p s initialiser v gs)
  passed e w v = record {
    state = record s { frames = gs };
    is = ap (λ (b : Bool). hand_back p s b v gs) e ∙ ap (hand_back p s true v) w.is ∙ ap (λ (z : List Frame). Some (let t : State = record s { frames = z } in t)) (sym w.is);
    end = refl;
    memory = with_frames m fs;
    kept = kept;
    alike = h.callers;
    same_room = refl;
  }

  same_goes : (g : Frame) (rest : List Frame) (v : Option Value) → goes_behind p (record s { frames = gs }) g rest v ≡ goes_behind p s g rest v
  unfolding goes
  same_goes g rest v = refl

  handed : initialiser ≡ false → (w : First gs) (v : Option Value) → goes_behind p (record s { frames = gs }) w.frame w.callers v ≡ hand_back p s initialiser v gs
  handed e w v = same_goes w.frame w.callers v ∙ sym (ap (λ (b : Bool). hand_back p s b v gs) e ∙ ap (hand_back p s false v) w.is)

  pub gone_behind : initialiser ≡ false → (w : First gs) (v : Option Value) (q : Ram) → WentOn p outer (record s { frames = gs }) q m.room (goes_behind p (record s { frames = gs }) w.frame w.callers v) true → GoesOn p outer s q m.room (hand_back p s initialiser v gs)
  gone_behind e w v q x = record {
    state = x.state;
    is = sym (handed e w v) ∙ x.is;
    end = x.end;
    memory = x.memory;
    kept = x.kept;
    alike = x.alike;
    same_room = x.same_room;
  }

  pub not_behind : initialiser ≡ false → (w : First gs) (v : Option Value) (q : Ram) → WentOn p outer (record s { frames = gs }) q m.room (goes_behind p (record s { frames = gs }) w.frame w.callers v) false → hand_back p s initialiser v gs ≡ None
  not_behind e w v q x = sym (handed e w v) ∙ x

-- ---- the whole

pub whole : (p : Program) (outer : Id → ℕ → ℕ → Bool) (m : Memory) (s : State) (u : Ram) (next : Option State) (r : Returned) → HandedBack p outer s u m.room next r → ReturnEnds p outer m s u next r
whole p outer m s u next (Acted acted.Done) h = h
whole p outer m s u next (Acted acted.Stuck) h = h
whole p outer m s u next (Acted acted.Spent) h = absurd h
whole p outer m s u next (Acted (acted.Raises known)) h = absurd h
whole p outer m s u next (Ended number) h = h

module _ (p : Program) (outer : Id → ℕ → ℕ → Bool) (m : Memory) (s : State) (f : RamFrame) (fs : List RamFrame) (g : Frame) (gs : List Frame) (k : IsMachineFrame p outer s.heap m.room f fs g gs) (kind : Option PlaceKind) (back : HandsBack p g.method kind) where
  returns_by : return_value p s g gs ≡ on_some (result_of back.of.returns g.stack) (λ v. hand_back p s g.initialiser v gs)
  unfolding return_value
  returns_by = ap (λ o. on_some o (λ of. on_some (result_of of.returns g.stack) (λ v. hand_back p s g.initialiser v gs))) back.is

  -- what is handed back
  pub record Handed (o : Option RamValue) : Type 0 where
    pub value : Option Value
    pub is : IsResult m.room fs o value
    pub next : return_value p s g gs ≡ hand_back p s g.initialiser value gs

  pub some_result : (o : Option RamValue) → result_held kind f ≡ Some o → Handed o
  some_result o e = by (result_held kind f) (result_of back.of.returns g.stack) e refl (result_alike p outer s.heap m.room f fs g gs k kind back.of.returns back.kinds)
    where
      by : (a : Option (Option RamValue)) (b : Option (Option Value)) → a ≡ Some o → result_of back.of.returns g.stack ≡ b → ResultAlike m.room fs a b → Handed o
      by None b q w x = absurd (cc q)
      by (Some a) None q w x = absurd x
      by (Some a) (Some v) q w x = record {
        value = v;
        is = subst (λ (z : Option RamValue). IsResult m.room fs z v) (some_same a o q) x;
        next = returns_by ∙ ap (λ z. on_some z (λ v. hand_back p s g.initialiser v gs)) w;
      }

  pub no_result : result_held kind f ≡ None → return_value p s g gs ≡ None
  no_result e = by (result_held kind f) (result_of back.of.returns g.stack) e refl (result_alike p outer s.heap m.room f fs g gs k kind back.of.returns back.kinds)
    where
      by : (a : Option (Option RamValue)) (b : Option (Option Value)) → a ≡ None → result_of back.of.returns g.stack ≡ b → ResultAlike m.room fs a b → return_value p s g gs ≡ None
      by (Some a) b q w x = absurd (cc q)
      by None (Some v) q w x = absurd x
      by None None q w x = returns_by ∙ ap (λ z. on_some z (λ v. hand_back p s g.initialiser v gs)) w
