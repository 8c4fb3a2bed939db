-- A throw over a memory that stands for a state is the machine's throw of the state.
use Rattle.std.proofs.Common.{◌≡◌, ℕ, ◌+◌, ◌^◌, ◌<◌, ◌≤◌, Bool, true, false, ◌==◌, List, [], ◌∷◌, length, Option, Some, None, refl, sym, ap, ◌∙◌, subst, arith}
use Rattle.std.specs.Prelude.{if◌then◌else◌, nat_le, slice_get, slice_set, is_some}
use Rattle.std.proofs.lemmas.Bool.{eqb-true, le-leb}
use Rattle.std.proofs.lemmas.Option.{slice_get_within}
use Rattle.board_types.specs.declared.board.TypeAt.{TypeAt}
use Rattle.board_types.specs.declared.value.Value.{Value as RamValue}
use Rattle.board_types.specs.declared.value.Value.TheVariants.{Ref}
use Rattle.machine.specs.Data.{Id, Value, Object, Slot, Frame, State, Threw}
use Rattle.machine.specs.Program.{Program, Method, Clause}
use Rattle.machine.specs.Throw.{on_some, goes, Route, search_frames, enter_clause, follow, taken, throw}
use Rattle.machine_rename.specs.Again.{Nested}
use Rattle.tiny_ram.specs.Memory.{RamFrame, Memory, pushed}
use Rattle.memory_states.specs.Told.{Told}
use Rattle.memory_states.specs.Values.{id_of, AreThings}
use Rattle.memory_states.specs.States.{Tells, IsThrown, IsSlot, IsMachineFrame, StandsFor}
use Rattle.memory_states.proofs.Frames.{changed, pushed_is, put_slot_is, gone_is}
use Rattle.tiny_except.specs.declared.clauses.Found.{Found}
use Rattle.tiny_except.specs.declared.unwinding.Thrown.TheVariants as thrown
use Rattle.tiny_except.specs.Unwinding.{fits, Landing, landing, slot_index, entered, stopped, After, at_stop, caught, uncaught, thrown_after}
use Rattle.tiny_except.specs.Machine.{EndsAlike, Alike, ThrowsAlike}
use Rattle.tiny_except.proofs.Scans.{twin}
use Rattle.tiny_except.proofs.Plans.{clauses_are, fits_is}
use Rattle.tiny_except.proofs.Lands.{Lands, lands}

some_same : {A : Type 0} (x y : A) → Some x ≡ Some y → x ≡ y
some_same x y e = cc e

abbrev pub only_if : {A : Type 0} → Bool → A → Option A
only_if b x = if b then Some x else None

-- ---- a handler starts

module _ (p : Program) (t : Told) (outer : Id → ℕ → ℕ → Bool) (tells : Tells t p outer) (room : ℕ) (s : State) (f : RamFrame) (fs : List RamFrame) (g : Frame) (gs : List Frame) (k : IsMachineFrame p outer s.heap room f fs g gs) (x : Found) (e : slice_get (t.clauses f.method) x.number ≡ Some x.clause) (slot : Slot) where
  abbrev pub started : List Value → Frame
  started stack = record g { slots = slice_set g.slots x.number slot; place = x.clause.start; stack = stack }

  pub enter_is : (stack : List Value) → length stack ≤ k.of.max_stack → enter_clause p s g gs x.number stack slot ≡ Some (record s { frames = started stack ∷ gs })
  unfolding enter_clause goes
  enter_is stack l =
      let w = twin p t (t.clauses f.method) k.of.clauses (clauses_are p t outer tells s.heap room f fs g gs k) x.number x.clause e in
      let going : ℕ → Option Method → Option State = λ place o. on_some o (λ m. if nat_le (length stack) m.max_stack then Some (record s { frames = record g { slots = slice_set g.slots x.number slot; place = place; stack = stack } ∷ gs }) else None) in
      let entering : Option Method → Option State = λ o. on_some o (λ m. on_some (slice_get m.clauses x.number) (λ c. going c.start (p.method g.method))) in
      ap entering k.is
      ∙ ap (λ o. on_some o (λ (c : Clause). going c.start (p.method g.method))) w.is
      ∙ ap (going w.clause.start) k.is
      ∙ ap (λ (b : Bool). if b then Some (let u : State = record s { frames = record g { slots = slice_set g.slots x.number slot; place = w.clause.start; stack = stack } ∷ gs } in u) else None) (le-leb (length stack) k.of.max_stack l)
      ∙ ap (λ place. Some (let u : State = record s { frames = record g { slots = slice_set g.slots x.number slot; place = place; stack = stack } ∷ gs } in u)) w.start

  pub slot_there : x.number < length k.of.clauses
  slot_there =
      let w = twin p t (t.clauses f.method) k.of.clauses (clauses_are p t outer tells s.heap room f fs g gs k) x.number x.clause e in
      slice_get_within k.of.clauses x.number w.clause w.is

  pub entered_is : (v : RamValue) → IsSlot p outer s.heap k.of g.method g.initialiser gs x.number (Some v) slot → IsMachineFrame p outer s.heap room (entered f x v) fs (started []) gs
  entered_is v is =
      let small : x.clause.start < 2 ^ 16 = tells.starts f.method x.number x.clause e in
      let wide : x.clause.start < 2 ^ 32 = omega (arith, small) in
      gone_is p outer s.heap room (changed f (slice_set f.places (slot_index f x.number) (Some v)) f.place 0) fs (record g { slots = slice_set g.slots x.number slot; stack = [] }) gs
      (put_slot_is p outer s.heap room f fs g gs k x.number slot_there v slot is) x.clause.start wide

  pub taken_is : (object : ℕ) → x.clause.kind ≡ 0 → IsSlot p outer s.heap k.of g.method g.initialiser gs x.number (Some (Ref (1 + object))) slot → IsMachineFrame p outer s.heap room (pushed (entered f x (Ref (1 + object))) (Ref (1 + object))) fs (started (Object object ∷ [])) gs
  taken_is object kind is =
      let now = entered_is (Ref (1 + object)) is in
      let same : now.of ≡ k.of = some_same now.of k.of (sym now.is ∙ k.is) in
      let room_for : 0 < k.of.max_stack = tells.room f.method k.of (ap p.method k.method ∙ k.is) x.number x.clause e kind in
      pushed_is p outer s.heap room (entered f x (Ref (1 + object))) fs (started []) gs (entered_is (Ref (1 + object)) is) (Ref (1 + object)) (Object object) refl
      (subst (λ (z : Method). 0 < z.max_stack) (sym same) room_for)

-- ---- the whole

module _ (p : Program) (t : Told) (outer : Id → ℕ → ℕ → Bool) (tells : Tells t p outer) (nested : Nested p outer) where
  pub record Goes (s : State) (m : Memory) (o : Option State) : Type 0 where
    pub state : State
    pub is : o ≡ Some state
    pub alike : Alike p outer s m state
    pub end : state.end ≡ s.end

  -- the exception comes to its stop
  pub stops : (m : Memory) (s : State) → AreThings p m.room m.heap s.heap → (class : TypeAt) (object : ℕ) (th : IsThrown p outer s.heap object (id_of class)) (lo : Option Landing) (o : Option State) → Lands p t outer tells nested m.room s class object th lo o → Goes s (at_stop m lo (1 + object)) o
  stops m s things class object th lo o w = by (w.landing_is.stop.clause.kind == 0) refl
    where
      l : Landing
      l = w.landing_is

      stands : (stack : List Value) → IsMachineFrame p outer s.heap m.room (stopped w.landing_is.frame w.landing_is.stop (1 + object)) w.landing_is.callers (started p t outer tells m.room s w.landing_is.frame w.landing_is.callers w.frame w.callers w.at w.landing_is.stop w.found w.slot stack) w.callers → enter_clause p s w.frame w.callers w.landing_is.stop.number stack w.slot ≡ Some (record s { frames = started p t outer tells m.room s w.landing_is.frame w.landing_is.callers w.frame w.callers w.at w.landing_is.stop w.found w.slot stack ∷ w.callers }) → o ≡ enter_clause p s w.frame w.callers w.landing_is.stop.number stack w.slot → Goes s (at_stop m lo (1 + object)) o
      stands stack frame e q = record {
        state = record s { frames = started p t outer tells m.room s w.landing_is.frame w.landing_is.callers w.frame w.callers w.at w.landing_is.stop w.found w.slot stack ∷ w.callers };
        is = q ∙ e;
        alike = record {
          stands = subst (λ (z : Option Landing). StandsFor p outer (at_stop m z (1 + object)) (record s { frames = started p t outer tells m.room s w.landing_is.frame w.landing_is.callers w.frame w.callers w.at w.landing_is.stop w.found w.slot stack ∷ w.callers })) (sym w.is) (record { heap = things; frames = (frame, w.below) });
          rest = record { literals = refl; statics = refl; started = refl; output = refl };
        };
        end = refl;
      }

      by : (b : Bool) → (w.landing_is.stop.clause.kind == 0) ≡ b → Goes s (at_stop m lo (1 + object)) o
      by true b =
          let kind : w.landing_is.stop.clause.kind ≡ 0 = eqb-true w.landing_is.stop.clause.kind 0 b in
          let most : 1 ≤ w.at.of.max_stack = omega (arith, tells.room w.landing_is.frame.method w.at.of (ap p.method w.at.method ∙ w.at.is) w.landing_is.stop.number w.landing_is.stop.clause w.found kind) in
          stands (Object object ∷ [])
          (subst (λ (z : Bool). IsMachineFrame p outer s.heap m.room (if z then pushed (entered w.landing_is.frame w.landing_is.stop (Ref (1 + object))) (Ref (1 + object)) else entered w.landing_is.frame w.landing_is.stop (Ref (1 + object))) w.landing_is.callers (started p t outer tells m.room s w.landing_is.frame w.landing_is.callers w.frame w.callers w.at w.landing_is.stop w.found w.slot (Object object ∷ [])) w.callers) (sym b)
          (taken_is p t outer tells m.room s w.landing_is.frame w.landing_is.callers w.frame w.callers w.at w.landing_is.stop w.found w.slot object kind w.slot_is))
          (enter_is p t outer tells m.room s w.landing_is.frame w.landing_is.callers w.frame w.callers w.at w.landing_is.stop w.found w.slot (Object object ∷ []) most)
          (w.follows ∙ ap (λ (z : Bool). enter_clause p s w.frame w.callers w.landing_is.stop.number (if z then Object object ∷ [] else []) w.slot) b)
      by false b =
          stands []
          (subst (λ (z : Bool). IsMachineFrame p outer s.heap m.room (if z then pushed (entered w.landing_is.frame w.landing_is.stop (Ref (1 + object))) (Ref (1 + object)) else entered w.landing_is.frame w.landing_is.stop (Ref (1 + object))) w.landing_is.callers (started p t outer tells m.room s w.landing_is.frame w.landing_is.callers w.frame w.callers w.at w.landing_is.stop w.found w.slot []) w.callers) (sym b)
          (entered_is p t outer tells m.room s w.landing_is.frame w.landing_is.callers w.frame w.callers w.at w.landing_is.stop w.found w.slot (Ref (1 + object)) w.slot_is))
          (enter_is p t outer tells m.room s w.landing_is.frame w.landing_is.callers w.frame w.callers w.at w.landing_is.stop w.found w.slot [] (omega arith))
          (w.follows ∙ ap (λ (z : Bool). enter_clause p s w.frame w.callers w.landing_is.stop.number (if z then Object object ∷ [] else []) w.slot) b)

  -- what a throw of an object comes to
  abbrev pub done : Memory → TypeAt → ℕ → Bool → After
  done m class object true = record { class = None; memory = at_stop m (landing t class None m.frames) object }
  done m class object false = record { class = Some class; memory = m }

  pub record Throws (m : Memory) (s : State) (class : TypeAt) (object : ℕ) : Type 0 where
    pub state : State
    pub is : throw p s (id_of class) object ≡ Some state
    pub alike : Alike p outer s (done m class (1 + object) (fits t class m.frames)).memory state
    pub end : EndsAlike s state (done m class (1 + object) (fits t class m.frames)).class

  pub throws : (m : Memory) (s : State) → StandsFor p outer m s → (class : TypeAt) (object : ℕ) → IsThrown p outer s.heap object (id_of class) → Throws m s class object
  unfolding throw
  throws m s h class object th = by (search_frames p (id_of class) s.frames) refl
    where
      fit : fits t class m.frames ≡ is_some (search_frames p (id_of class) s.frames)
      fit = fits_is p t outer tells s.heap m.room class m.frames s.frames h.frames

      by : (o : Option Route) → search_frames p (id_of class) s.frames ≡ o → Throws m s class object
      by None q =
          let no : false ≡ fits t class m.frames = sym (fit ∙ ap is_some q) in
          record {
            state = record s { end = Threw (id_of class) };
            is = ap (taken p s (id_of class) object) q;
            alike = subst (λ (b : Bool). Alike p outer s (done m class (1 + object) b).memory (record s { end = Threw (id_of class) })) no (record {
              stands = record { heap = h.heap; frames = h.frames };
              rest = record { literals = refl; statics = refl; started = refl; output = refl };
            });
            end = subst (λ (b : Bool). EndsAlike s (record s { end = Threw (id_of class) }) (done m class (1 + object) b).class) no refl;
          }
      by (Some r) q =
          let yes : true ≡ fits t class m.frames = sym (fit ∙ ap is_some q) in
          let w = stops m s h.heap class object th (landing t class None m.frames) (follow p s s.frames r.turns r.catch object) (lands p t outer tells nested m.room s class object th m.frames s.frames h.frames r q) in
          record {
            state = w.state;
            is = ap (taken p s (id_of class) object) q ∙ w.is;
            alike = subst (λ (b : Bool). Alike p outer s (done m class (1 + object) b).memory w.state) yes w.alike;
            end = subst (λ (b : Bool). EndsAlike s w.state (done m class (1 + object) b).class) yes w.end;
          }

  -- ---- an object that is there
  object_after : (m : Memory) (class : TypeAt) (object : ℕ) (b : Bool) → (if b then caught m (landing t class None m.frames) (thrown.Object object) else uncaught m class (thrown.Object object)) ≡ Some (done m class object b)
  object_after m class object true = by (landing t class None m.frames)
    where
      by : (l : Option Landing) → caught m l (thrown.Object object) ≡ Some (record { class = None; memory = at_stop m l object })
      by None = refl
      by (Some l) = refl
  object_after m class object false = refl

  pub object_throws : (m : Memory) (s : State) → StandsFor p outer m s → (class : TypeAt) (object : ℕ) → IsThrown p outer s.heap object (id_of class) → ThrowsAlike p outer s m.room (thrown_after t m class (thrown.Object (1 + object))) (throw p s (id_of class) object)
  object_throws m s h class object th =
      let w = throws m s h class object th in
      subst (λ (o : Option State). ThrowsAlike p outer s m.room (thrown_after t m class (thrown.Object (1 + object))) o) (sym w.is)
      (subst (λ (a : Option After). ThrowsAlike p outer s m.room a (Some w.state)) (sym (object_after m class (1 + object) (fits t class m.frames))) (w.alike, w.end))
