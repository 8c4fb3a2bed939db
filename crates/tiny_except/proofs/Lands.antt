-- The second pass comes to the stop that the machine's plan comes to.
use Rattle.std.proofs.Common.{◌≡◌, ℕ, suc, ◌+◌, Bool, true, false, not, ◌==◌, List, [], ◌∷◌, Option, Some, None, refl, sym, ap, ◌∙◌, subst}
use Rattle.std.specs.Prelude.{if◌then◌else◌, slice_get}
use Rattle.board_types.specs.declared.board.TypeAt.{TypeAt}
use Rattle.board_types.specs.declared.value.Value.TheVariants.{Ref}
use Rattle.machine.specs.Data.{Id, Object, Turn, Finally, Slot, Caught, Throwing, Frame, State}
use Rattle.machine.specs.Program.{Program, Method, Clause}
use Rattle.machine.specs.Throw.{on_some, scan, Route, route_of, search_frames, enter_clause, follow, is_final}
use Rattle.machine_rename.specs.Again.{scan_by, after, again, Nested}
use Rattle.machine_rename.proofs.AgainLaws.{again_first, again_next}
use Rattle.tiny_ram.specs.Memory.{RamFrame}
use Rattle.memory_states.specs.Told.{Told}
use Rattle.memory_states.specs.Values.{id_of}
use Rattle.memory_states.specs.States.{Tells, IsThrown, IsFinal, IsSlot, IsMachineFrame, AreFrames}
use Rattle.tiny_except.specs.declared.clauses.Found.{Found}
use Rattle.tiny_except.specs.declared.clauses.Goal.TheVariants as goal
use Rattle.tiny_except.specs.Unwinding.{stop_in, Landing, landed_in, landing}
use Rattle.tiny_except.proofs.Scans.{NoTurn, RunFinally, TakeCatch, turn_by, turn_at, twin}
use Rattle.tiny_except.proofs.Stops.{stop_clause}
use Rattle.tiny_except.proofs.Plans.{no_turn, catch_turn, final_turn, ended_route, final_route, final_by, clauses_are, EndedIs, scan_in, found_by}

some_same : {A : Type 0} (x y : A) → Some x ≡ Some y → x ≡ y
some_same x y e = cc e

abbrev pub with_turns : List Turn → ℕ → Route
with_turns turns catch = record { turns = turns; catch = catch }

module _ (p : Program) (t : Told) (outer : Id → ℕ → ℕ → Bool) (tells : Tells t p outer) (nested : Nested p outer) (room : ℕ) (s : State) (class : TypeAt) (object : ℕ) (thrown : IsThrown p outer s.heap object (id_of class)) where
  -- the stop, beside the machine's
  pub record Lands (lo : Option Landing) (o : Option State) : Type 0 where
    pub landing_is : Landing
    pub is : lo ≡ Some landing_is
    pub frame : Frame
    pub callers : List Frame
    pub at : IsMachineFrame p outer s.heap room landing_is.frame landing_is.callers frame callers
    pub below : AreFrames p outer s.heap room landing_is.callers callers
    pub found : slice_get (t.clauses landing_is.frame.method) landing_is.stop.number ≡ Some landing_is.stop.clause
    pub slot : Slot
    pub slot_is : IsSlot p outer s.heap at.of frame.method frame.initialiser callers landing_is.stop.number (Some (Ref (1 + object))) slot
    pub follows : o ≡ enter_clause p s frame callers landing_is.stop.number (if landing_is.stop.clause.kind == 0 then Object object ∷ [] else []) slot

  module _ (f : RamFrame) (fs : List RamFrame) (g : Frame) (gs : List Frame) (k : IsMachineFrame p outer s.heap room f fs g gs) (below : AreFrames p outer s.heap room fs gs) (ended : Option Found) (there : EndedIs p t outer tells s.heap room ended f) where
    kind_of : (x : Found) (b : Bool) → slice_get (t.clauses f.method) x.number ≡ Some x.clause → (x.clause.kind == 0) ≡ b → IsFinal p outer s.heap k.of x.number (not b)
    kind_of x b e q c h =
        let w = twin p t (t.clauses f.method) k.of.clauses (clauses_are p t outer tells s.heap room f fs g gs k) x.number x.clause e in
        let same : w.clause ≡ c = some_same w.clause c (sym w.is ∙ h) in
        subst (λ (z : Clause). is_final z.kind ≡ not b) same (final_by p t x.clause w.clause.kind b w.kind q)

    module _ (rest : Option Route) (onward : (q : Route) → rest ≡ Some q → Lands (landing t class None fs) (follow p s gs q.turns q.catch object)) (r : Route) (h : route_of g.initialiser (scan_in p t outer tells s.heap room class ended g k.of).finals (scan_in p t outer tells s.heap room class ended g k.of).catch rest ≡ Some r) (searched : (n : ℕ) (ts : List Turn) → r.turns ≡ Finally n ∷ ts → again p outer g.method g.initialiser n (id_of class) gs ≡ Some (with_turns ts r.catch)) where
      stopped_at : (x : Found) → slice_get (t.clauses f.method) x.number ≡ Some x.clause → (slot : Slot) → IsSlot p outer s.heap k.of g.method g.initialiser gs x.number (Some (Ref (1 + object))) slot → follow p s (g ∷ gs) r.turns r.catch object ≡ enter_clause p s g gs x.number (if x.clause.kind == 0 then Object object ∷ [] else []) slot → Lands (Some (record { frame = f; callers = fs; stop = x })) (follow p s (g ∷ gs) r.turns r.catch object)
      stopped_at x e slot is q = record {
        landing_is = record { frame = f; callers = fs; stop = x };
        is = refl;
        frame = g;
        callers = gs;
        at = k;
        below = below;
        found = e;
        slot = slot;
        slot_is = is;
        follows = q;
      }

      goes_out : (finals : List ℕ) (catch : Option ℕ) → route_of g.initialiser finals catch rest ≡ Some r → NoTurn ≡ turn_by finals catch → Lands (landing t class None fs) (follow p s (g ∷ gs) r.turns r.catch object)
      goes_out finals catch e q =
          let none = no_turn finals catch q in
          let way = ended_route g.initialiser rest r (sym (ap (λ z. route_of g.initialiser z catch rest) none.0 ∙ ap (λ z. route_of g.initialiser [] z rest) none.1) ∙ e) in
          let on = onward way.0 way.1 in
          record {
            landing_is = on.landing_is;
            is = on.is;
            frame = on.frame;
            callers = on.callers;
            at = on.at;
            below = on.below;
            found = on.found;
            slot = on.slot;
            slot_is = on.slot_is;
            follows = ap (λ (z : Route). follow p s (g ∷ gs) z.turns z.catch object) way.2 ∙ on.follows;
          }

      catches : (x : Found) → slice_get (t.clauses f.method) x.number ≡ Some x.clause → (x.clause.kind == 0) ≡ true → (finals : List ℕ) (catch : Option ℕ) → route_of g.initialiser finals catch rest ≡ Some r → TakeCatch x.number ≡ turn_by finals catch → Lands (Some (record { frame = f; callers = fs; stop = x })) (follow p s (g ∷ gs) r.turns r.catch object)
      catches x e b finals catch w q =
          let some = catch_turn x.number finals catch q in
          let is : with_turns [] x.number ≡ r = some_same _ r (sym (ap (λ z. route_of g.initialiser z catch rest) some.0 ∙ ap (λ z. route_of g.initialiser [] z rest) some.1) ∙ w) in
          stopped_at x e (Caught object) (refl, kind_of x true e b, (id_of class, thrown))
          (ap (λ (z : Route). follow p s (g ∷ gs) z.turns z.catch object) (sym is) ∙ ap (λ (z : Bool). enter_clause p s g gs x.number (if z then Object object ∷ [] else []) (Caught object)) (sym b))

      runs : (x : Found) → slice_get (t.clauses f.method) x.number ≡ Some x.clause → (x.clause.kind == 0) ≡ false → (finals : List ℕ) (catch : Option ℕ) → route_of g.initialiser finals catch rest ≡ Some r → RunFinally x.number ≡ turn_by finals catch → Lands (Some (record { frame = f; callers = fs; stop = x })) (follow p s (g ∷ gs) r.turns r.catch object)
      runs x e b finals catch w q =
          let some = final_turn x.number finals catch q in
          let way = final_route g.initialiser x.number some.0 catch rest r (sym (ap (λ z. route_of g.initialiser z catch rest) some.1) ∙ w) in
          stopped_at x e (Throwing way.0 r.catch object)
          (refl, kind_of x false e b, record { class = id_of class; thrown = thrown; rest = searched x.number way.0 way.1 })
          (ap (λ z. follow p s (g ∷ gs) z r.catch object) way.1 ∙ ap (λ (z : Bool). enter_clause p s g gs x.number (if z then Object object ∷ [] else []) (Throwing way.0 r.catch object)) (sym b))

      pub in_frame : Lands (landed_in f fs (stop_in t (goal.Stop class) ended f) (landing t class None fs)) (follow p s (g ∷ gs) r.turns r.catch object)
      in_frame = by (stop_in t (goal.Stop class) ended f) refl
        where
          by : (o : Option Found) → stop_in t (goal.Stop class) ended f ≡ o → Lands (landed_in f fs o (landing t class None fs)) (follow p s (g ∷ gs) r.turns r.catch object)
          by None q =
              let found = found_by p t outer tells s.heap room class f fs g gs k ended there in
              goes_out (scan_in p t outer tells s.heap room class ended g k.of).finals (scan_in p t outer tells s.heap room class ended g k.of).catch h (sym (ap turn_at q) ∙ found.stop)
          by (Some x) q = on_kind (x.clause.kind == 0) refl
            where
              clause : slice_get (t.clauses f.method) x.number ≡ Some x.clause
              clause = stop_clause t (goal.Stop class) ended f x q

              on_kind : (b : Bool) → (x.clause.kind == 0) ≡ b → Lands (Some (record { frame = f; callers = fs; stop = x })) (follow p s (g ∷ gs) r.turns r.catch object)
              on_kind true b =
                  let found = found_by p t outer tells s.heap room class f fs g gs k ended there in
                  let turn : turn_at (Some x) ≡ TakeCatch x.number = ap (λ (y : Bool). if y then TakeCatch x.number else RunFinally x.number) b in
                  catches x clause b (scan_in p t outer tells s.heap room class ended g k.of).finals (scan_in p t outer tells s.heap room class ended g k.of).catch h (sym turn ∙ sym (ap turn_at q) ∙ found.stop)
              on_kind false b =
                  let found = found_by p t outer tells s.heap room class f fs g gs k ended there in
                  let turn : turn_at (Some x) ≡ RunFinally x.number = ap (λ (y : Bool). if y then TakeCatch x.number else RunFinally x.number) b in
                  runs x clause b (scan_in p t outer tells s.heap room class ended g k.of).finals (scan_in p t outer tells s.heap room class ended g k.of).catch h (sym turn ∙ sym (ap turn_at q) ∙ found.stop)

  pub lands : (fs : List RamFrame) (gs : List Frame) → AreFrames p outer s.heap room fs gs → (r : Route) → search_frames p (id_of class) gs ≡ Some r → Lands (landing t class None fs) (follow p s gs r.turns r.catch object)
  lands [] [] h r e = absurd (cc e)
  lands (f ∷ fs) (g ∷ gs) h r e =
      let k = h.0 in
      let go : Option Method → Option Route = λ o. on_some o (λ m. let z = scan p g.method g.place (id_of class) 0 m.clauses in route_of g.initialiser z.finals z.catch (search_frames p (id_of class) gs)) in
      let route : route_of g.initialiser (scan p g.method g.place (id_of class) 0 k.of.clauses).finals (scan p g.method g.place (id_of class) 0 k.of.clauses).catch (search_frames p (id_of class) gs) ≡ Some r = sym (ap go k.is) ∙ e in
      in_frame f fs g gs k h.1 None tt (search_frames p (id_of class) gs) (λ q w. lands fs gs h.1 q w) r route
      (λ n ts w. again_first p outer nested (id_of class) gs g.method k.of k.is g.initialiser g.place n ts r.catch (route ∙ ap (λ z. Some (with_turns z r.catch)) w))
  lands [] (g ∷ gs) h r e = absurd h
  lands (f ∷ fs) [] h r e = absurd h

  -- on from a finally that has ended
  pub lands_again : (f : RamFrame) (fs : List RamFrame) (g : Frame) (gs : List Frame) → AreFrames p outer s.heap room (f ∷ fs) (g ∷ gs) → (x : Found) → slice_get (t.clauses f.method) x.number ≡ Some x.clause → (r : Route) → again p outer g.method g.initialiser x.number (id_of class) gs ≡ Some r → Lands (landing t class (Some x) (f ∷ fs)) (follow p s (g ∷ gs) r.turns r.catch object)
  lands_again f fs g gs h x there r e =
      let k = h.0 in
      let go : Option Method → Option Route = λ o. on_some o (λ m. let z = scan_by p (λ j. outer g.method j x.number) (id_of class) (suc x.number) (after (suc x.number) m.clauses) in route_of g.initialiser z.finals z.catch (search_frames p (id_of class) gs)) in
      in_frame f fs g gs k h.1 (Some x) there (search_frames p (id_of class) gs) (λ q w. lands fs gs h.1 q w) r (sym (ap go k.is) ∙ e)
      (λ n ts w. again_next p outer nested (id_of class) gs g.method k.of k.is g.initialiser x.number n ts r.catch (e ∙ ap (λ z. Some (with_turns z r.catch)) w))
