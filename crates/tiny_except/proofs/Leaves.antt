-- A leave, and the end of a finally, over a memory that stands for a state.
use Rattle.std.specs.Int.{w32, cast_signed, cast_unsigned}
use Rattle.std.proofs.Common.{◌≡◌, ◌≢◌, inl, inr, ℕ, suc, ◌+◌, ◌-◌, ◌^◌, ◌<◌, Bool, true, false, not, ◌==◌, List, [], ◌∷◌, length, drop, Option, Some, None, refl, sym, ap, ◌∙◌, subst, arith, get_or}
use Rattle.std.specs.Prelude.{◌⊎◌, ◌&&◌, nat_eq, nat_le, if◌then◌else◌, slice_get, unwrap_or, is_some}
use Rattle.std.specs.Option.{option_map}
use Rattle.std.proofs.lemmas.Int.{of_z-to_z}
use Rattle.std.proofs.lemmas.Bool.{le-leb, eqb-true}
use Rattle.std.proofs.lemmas.Bool.Decides.{eqb_tells}
use Rattle.std.proofs.lemmas.Option.{slice_get_within, slice_get-get_or}
use Rattle.board_types.specs.declared.board.TypeAt.{TypeAt}
use Rattle.board_types.specs.declared.value.Value.{Value as RamValue}
use Rattle.board_types.specs.declared.value.Value.TheVariants.{Int, Ref}
use Rattle.machine.specs.Data.{Id, Thing, Instance, Text, Elements, Boxed, StaticCell, thing_at, Slot, Nothing, Caught, Throwing, Leaving, Frame, State}
use Rattle.machine.specs.Program.{Program, Method, Clause}
use Rattle.machine.specs.Throw.{on_some, goes, enter_clause, follow, is_final, left, leave, take_up, thrown_class}
use Rattle.machine_rename.specs.Again.{after, left_by, left_again, again, Nested}
use Rattle.machine_rename.proofs.LeaveLaws.{leave_first, leave_next}
use Rattle.tiny_ram.specs.Things.{Entry}
use Rattle.tiny_ram.specs.Memory.{RamFrame, Memory, entry_at, with_frames}
use Rattle.memory_states.specs.Told.{Told, in_try, is_round}
use Rattle.memory_states.specs.Values.{id_of, AreThings}
use Rattle.memory_states.specs.States.{Tells, IsThrown, IsFinal, IsSlot, IsMachineFrame, AreFrames, StandsFor}
use Rattle.memory_states.proofs.Frames.{gone_is}
use Rattle.memory_states.proofs.Heaps.{entry_is}
use Rattle.tiny_except.specs.Clauses.{counts, is_finally}
use Rattle.tiny_except.specs.declared.clauses.Found.{Found}
use Rattle.tiny_except.specs.declared.clauses.Regions.TheVariants.{Try, Round, Handler}
use Rattle.tiny_except.specs.declared.clauses.Goal.TheVariants as goal
use Rattle.tiny_except.specs.declared.unwinding.Plan.{Plan}
use Rattle.tiny_except.specs.declared.unwinding.Plan.TheVariants as plan
use Rattle.tiny_except.specs.Unwinding.{code_place, regions_from, first_from, stop_in, landing, entered, class_in, at_stop, left_by as left_frame, left_in, topped, on_top, slot_held, ended_in, ended_at, plan_by, plan_in, plan_at, class_or_none, taken_up}
use Rattle.tiny_except.specs.Searches.{IsThere}
use Rattle.tiny_except.specs.Machine.{Alike, GoesAlike}
use Rattle.tiny_except.proofs.Firsts.{is_clause, is_met}
use Rattle.tiny_except.proofs.Scans.{number_of, first_of, clauses_after, twin, Leaves, leaves, left_is}
use Rattle.tiny_except.proofs.Stops.{stop_clause}
use Rattle.tiny_except.proofs.Plans.{clauses_are, place_is, tries_are, rounds_are, final_by}
use Rattle.tiny_except.proofs.Lands.{lands_again}
use Rattle.tiny_except.proofs.Throws.{enter_is, entered_is, started, Goes, stops}

some_same : {A : Type 0} (x y : A) → Some x ≡ Some y → x ≡ y
some_same x y e = cc e

left_same : (p : Program) (m : Id) (from to k : ℕ) (cs : List Clause) → left p m from to k cs ≡ left_by (λ j. p.try_holds m j from && not (p.try_holds m j to)) k cs
left_same p m from to k [] = refl
left_same p m from to k (c ∷ cs) =
    ap (λ rest. if is_final c.kind && (p.try_holds m k from && not (p.try_holds m k to)) then k ∷ rest else rest) (left_same p m from to (suc k) cs)

pub not_zero : (n : ℕ) → (1 + n == 0) ≡ false
not_zero n = by (eqb_tells (1 + n) 0)
  where
    by : ((nat_eq (1 + n) 0 ≡ true) × (1 + n ≡ 0)) ⊎ ((nat_eq (1 + n) 0 ≡ false) × (1 + n ≢ 0)) → (1 + n == 0) ≡ false
    by (inl q) = absurd (omega (arith, q.1))
    by (inr q) = q.0

both : (a b : Bool) → (a && b) ≡ true → (a ≡ true) × (b ≡ true)
both true b e = (refl, e)
both false b e = absurd (cc e)

module _ (p : Program) (outer : Id → ℕ → ℕ → Bool) (m : Memory) (s : State) (things : AreThings p m.room m.heap s.heap) where
  -- an object that was thrown has its class in the memory
  pub record Classed (object : ℕ) (class : Id) : Type 0 where
    pub of : TypeAt
    pub there : class_in m.heap (1 + object) ≡ Some of
    pub is_class : id_of of ≡ class

  pub classed : (object : ℕ) (class : Id) → IsThrown p outer s.heap object class → Classed object class
  classed object class h = by (thing_at s.heap object) refl h.is
    where
      back : 1 + object - 1 ≡ object
      back = omega arith

      by : (o : Option Thing) → thing_at s.heap object ≡ o → on_some o thrown_class ≡ Some class → Classed object class
      by None q e = absurd (cc e)
      by (Some (Text units)) q e = absurd (cc e)
      by (Some (Elements element vs)) q e = absurd (cc e)
      by (Some (Boxed type v)) q e = absurd (cc e)
      by (Some (StaticCell type v)) q e = absurd (cc e)
      by (Some (Instance own vs)) q e =
          let entry = entry_is p m.room m.heap s.heap things object (Instance own vs) q in
          let same : own ≡ class = some_same own class e in
          record {
            of = entry.2.of;
            there =
                ap (λ (b : Bool). if b then None else option_map (λ (z : Entry). z.shape.of.of) (entry_at m.heap (1 + object - 1))) (not_zero object)
                ∙ ap (λ n. option_map (λ (z : Entry). z.shape.of.of) (entry_at m.heap n)) back
                ∙ ap (option_map (λ (z : Entry). z.shape.of.of)) entry.1
                ∙ ap (λ z. Some z.of.of) entry.2.shape;
            is_class = entry.2.class_is ∙ same;
          }

module _ (p : Program) (t : Told) (outer : Id → ℕ → ℕ → Bool) (tells : Tells t p outer) (nested : Nested p outer) (m : Memory) (s : State) (things : AreThings p m.room m.heap s.heap) (f : RamFrame) (fs : List RamFrame) (g : Frame) (gs : List Frame) (k : IsMachineFrame p outer s.heap m.room f fs g gs) (below : AreFrames p outer s.heap m.room fs gs) (is : m.frames ≡ f ∷ fs) where
  -- a finally of the method
  pub final_of : (x : Found) → slice_get (t.clauses f.method) x.number ≡ Some x.clause → is_finally x.clause ≡ true → IsFinal p outer s.heap k.of x.number true
  final_of x e b c h =
      let w = twin p t (t.clauses f.method) k.of.clauses (clauses_are p t outer tells s.heap m.room f fs g gs k) x.number x.clause e in
      let kind : x.clause.kind ≡ 2 = eqb-true x.clause.kind 2 b in
      let same : w.clause ≡ c = some_same w.clause c (sym w.is ∙ h) in
      subst (λ (z : Clause). is_final z.kind ≡ true) same (final_by p t x.clause w.clause.kind false w.kind (ap (λ n. n == 0) kind))

  stop_final : (target : ℕ) (ended : Option Found) (x : Found) → stop_in t (goal.Leaving target) ended f ≡ Some x → is_finally x.clause ≡ true
  stop_final target ended x e =
      let met = is_met t (record { regions = regions_from ended (code_place f); goal = goal.Leaving target }) (first_from ended) (drop (first_from ended) (t.clauses f.method)) x e in
      let two = both (counts (regions_from ended (code_place f)) x.clause) (is_finally x.clause && not (in_try x.clause target)) met in
      (both (is_finally x.clause) (not (in_try x.clause target)) two.1).0

  stands : (h : RamFrame) (u : Frame) (go : RamFrame → RamFrame) → go f ≡ h → IsMachineFrame p outer s.heap m.room h fs u gs → Alike p outer s (on_top m go) (record s { frames = u ∷ gs })
  stands h u go e w = record {
    stands = subst (λ (z : List RamFrame). StandsFor p outer (with_frames m z) (record s { frames = u ∷ gs })) (sym (ap (λ z. topped z go) is ∙ ap (λ (z : RamFrame). z ∷ fs) e)) (record { heap = things; frames = (w, below) });
    rest = record { literals = refl; statics = refl; started = refl; output = refl };
  }

  module _ (target : ℕ) (fits : target < 2 ^ 32) (ended : Option Found) where
    goes_there : stop_in t (goal.Leaving target) ended f ≡ None → Goes p t outer tells nested s (on_top m (left_in t target ended)) (goes p s g gs target [])
    unfolding goes
    goes_there e = record {
      state = record s { frames = record g { place = target; stack = [] } ∷ gs };
      is =
          ap (λ (o : Option Method). on_some o (λ m. if nat_le 0 m.max_stack then Some (let u : State = record s { frames = record g { place = target; stack = [] } ∷ gs } in u) else None)) k.is
          ∙ ap (λ (b : Bool). if b then Some (let u : State = record s { frames = record g { place = target; stack = [] } ∷ gs } in u) else None) (le-leb 0 k.of.max_stack (omega arith));
      alike = stands (record f { place = cast_signed w32 target; depth = 0 }) (record g { place = target; stack = [] }) (left_in t target ended) (ap (left_frame f target) e) (gone_is p outer s.heap m.room f fs g gs k target fits);
      end = refl;
    }

    runs : (x : Found) (ks : List ℕ) → stop_in t (goal.Leaving target) ended f ≡ Some x → ks ≡ left_again p outer g.method x.number target k.of.clauses → Goes p t outer tells nested s (on_top m (left_in t target ended)) (enter_clause p s g gs x.number [] (Leaving ks target))
    runs x ks e q =
        let clause : slice_get (t.clauses f.method) x.number ≡ Some x.clause = stop_clause t (goal.Leaving target) ended f x e in
        let slot : IsSlot p outer s.heap k.of g.method g.initialiser gs x.number (Some (Int (cast_signed w32 target))) (Leaving ks target) = (refl, final_of x clause (stop_final target ended x e), fits, q) in
        record {
          state = record s { frames = started p t outer tells m.room s f fs g gs k x clause (Leaving ks target) [] ∷ gs };
          is = enter_is p t outer tells m.room s f fs g gs k x clause (Leaving ks target) [] (omega arith);
          alike = stands (entered f x (Int (cast_signed w32 target))) (started p t outer tells m.room s f fs g gs k x clause (Leaving ks target) []) (left_in t target ended) (ap (left_frame f target) e) (entered_is p t outer tells m.room s f fs g gs k x clause (Leaving ks target) (Int (cast_signed w32 target)) slot);
          end = refl;
        }

    pub leaving : (finals : List ℕ) → number_of (stop_in t (goal.Leaving target) ended f) ≡ first_of finals → ((n : ℕ) (ks : List ℕ) → finals ≡ n ∷ ks → ks ≡ left_again p outer g.method n target k.of.clauses) → Goes p t outer tells nested s (on_top m (left_in t target ended)) (leave p s g gs finals target)
    leaving finals e tail = by (stop_in t (goal.Leaving target) ended f) refl finals (sym e) tail
      where
        by : (o : Option Found) → stop_in t (goal.Leaving target) ended f ≡ o → (ns : List ℕ) → first_of ns ≡ number_of o → ((n : ℕ) (ks : List ℕ) → ns ≡ n ∷ ks → ks ≡ left_again p outer g.method n target k.of.clauses) → Goes p t outer tells nested s (on_top m (left_in t target ended)) (leave p s g gs ns target)
        by None q [] h w = goes_there q
        by None q (n ∷ ks) h w = absurd (cc h)
        by (Some x) q [] h w = absurd (cc h)
        by (Some x) q (n ∷ ks) h w =
            let same : n ≡ x.number = some_same n x.number h in
            subst (λ j. Goes p t outer tells nested s (on_top m (left_in t target ended)) (enter_clause p s g gs j [] (Leaving ks target))) (sym same)
            (runs x ks q (w n ks refl ∙ ap (λ j. left_again p outer g.method j target k.of.clauses) same))

  -- from the place in the code
  pub leaves_here : (target : ℕ) → target < 2 ^ 32 → Goes p t outer tells nested s (on_top m (left_in t target None)) (leave p s g gs (left p g.method g.place target 0 k.of.clauses) target)
  leaves_here target fits =
      let test : ℕ → Bool = λ j. p.try_holds g.method j g.place && not (p.try_holds g.method j target) in
      let tests : Leaves p t (Try (code_place f)) target test 0 (t.clauses f.method) =
      leaves p t (Try (code_place f)) target test (t.clauses f.method)
      (λ j c e.
      ap (λ b. b && not (p.try_holds g.method j target)) (tries_are p t outer tells s.heap m.room f fs g gs k g.place j c e ∙ ap (in_try c) (sym (place_is p t outer tells s.heap m.room f fs g gs k)))
      ∙ ap (λ b. in_try c (code_place f) && not b) (tries_are p t outer tells s.heap m.room f fs g gs k target j c e))
      0 (t.clauses f.method) refl in
      leaving target fits None (left p g.method g.place target 0 k.of.clauses)
      (left_is p t (Try (code_place f)) target test 0 (t.clauses f.method) k.of.clauses (clauses_are p t outer tells s.heap m.room f fs g gs k) tests ∙ ap first_of (sym (left_same p g.method g.place target 0 k.of.clauses)))
      (λ n ks e. sym (leave_first p outer nested g.method target k.of.clauses g.place n ks e))

  -- on from a finally that has ended
  pub leaves_on : (target : ℕ) → target < 2 ^ 32 → (x : Found) → slice_get (t.clauses f.method) x.number ≡ Some x.clause → (finals : List ℕ) → finals ≡ left_again p outer g.method x.number target k.of.clauses → Goes p t outer tells nested s (on_top m (left_in t target (Some x))) (leave p s g gs finals target)
  leaves_on target fits x there finals q =
      let test : ℕ → Bool = λ j. outer g.method j x.number && not (p.try_holds g.method j target) in
      let tests : Leaves p t (Round x.clause) target test (suc x.number) (drop (suc x.number) (t.clauses f.method)) =
      leaves p t (Round x.clause) target test (t.clauses f.method)
      (λ j c e.
      ap (λ b. b && not (p.try_holds g.method j target)) (rounds_are p t outer tells s.heap m.room f fs g gs k x there j c e)
      ∙ ap (λ b. is_round c x.clause && not b) (tries_are p t outer tells s.heap m.room f fs g gs k target j c e))
      (suc x.number) (drop (suc x.number) (t.clauses f.method)) refl in
      leaving target fits (Some x) finals
      (left_is p t (Round x.clause) target test (suc x.number) (drop (suc x.number) (t.clauses f.method)) (after (suc x.number) k.of.clauses) (clauses_after p t (suc x.number) (t.clauses f.method) k.of.clauses (clauses_are p t outer tells s.heap m.room f fs g gs k)) tests ∙ ap first_of (sym q))
      (λ n ks e. sym (leave_next p outer nested g.method target k.of.clauses x.number n ks (sym q ∙ e)))

  -- ---- the end of a finally

  module _ (x : Found) (at : ended_in t f ≡ Some x) where
    pub there : slice_get (t.clauses f.method) x.number ≡ Some x.clause
    there = is_clause t (record { regions = Handler (code_place f); goal = goal.Finally }) (t.clauses f.method) 0 (t.clauses f.method) refl x at

    final : IsFinal p outer s.heap k.of x.number true
    final =
        let met = is_met t (record { regions = Handler (code_place f); goal = goal.Finally }) 0 (t.clauses f.method) x at in
        final_of x there (both (counts (Handler (code_place f)) x.clause) (is_finally x.clause) met).1

    ended : ended_at t m.frames ≡ Some x
    ended = ap (ended_at t) is ∙ at

    plan_held : (held : Option RamValue) → slot_held f x.number ≡ held → plan_at t m.frames ≡ plan_by (unwrap_or held (Ref 0))
    plan_held held e = ap (plan_at t) is ∙ ap (plan_in f) at ∙ ap (λ o. plan_by (unwrap_or o (Ref 0))) e

    by_goes : (o : Option State) (w : Memory) → Goes p t outer tells nested s w o → GoesAlike p outer s (Some w) o
    by_goes o w y = subst (λ (z : Option State). GoesAlike p outer s (Some w) z) (sym y.is) (y.alike, y.end)

    by_slot : (slot : Slot) → IsSlot p outer s.heap k.of g.method g.initialiser gs x.number (slot_held f x.number) slot → GoesAlike p outer s (taken_up t m (plan_at t m.frames)) (take_up p s g gs (Some slot))
    by_slot Nothing h = subst (λ (q : Plan). GoesAlike p outer s (taken_up t m q) None) (sym (plan_held None h)) tt
    by_slot (Caught object) h =
        let w = twin p t (t.clauses f.method) k.of.clauses (clauses_are p t outer tells s.heap m.room f fs g gs k) x.number x.clause there in
        let differ : true ≡ false = sym (final w.clause w.is) ∙ h.1 w.clause w.is in
        absurd (cc differ)
    by_slot (Leaving finals target) h =
        let back : cast_unsigned w32 (cast_signed w32 target) ≡ target = of_z-to_z w32 target h.2 in
        let going : plan_at t m.frames ≡ plan.GoingTo target = plan_held (Some (Int (cast_signed w32 target))) h.0 ∙ ap plan.GoingTo back in
        subst (λ (q : Plan). GoesAlike p outer s (taken_up t m q) (leave p s g gs finals target)) (sym going)
        (subst (λ (z : Option Found). GoesAlike p outer s (Some (on_top m (left_in t target z))) (leave p s g gs finals target)) (sym ended)
        (by_goes (leave p s g gs finals target) (on_top m (left_in t target (Some x))) (leaves_on target h.2 x there finals h.3)))
    by_slot (Throwing turns catch object) h =
        let y = classed p outer m s things object h.2.class h.2.thrown in
        let own : IsThrown p outer s.heap object (id_of y.of) = subst (λ (z : Id). IsThrown p outer s.heap object z) (sym y.is_class) h.2.thrown in
        let rest : again p outer g.method g.initialiser x.number (id_of y.of) gs ≡ Some (record { turns = turns; catch = catch }) = ap (λ (z : Id). again p outer g.method g.initialiser x.number z gs) y.is_class ∙ h.2.rest in
        let found = lands_again p t outer tells nested m.room s y.of object own f fs g gs (k, below) x there (record { turns = turns; catch = catch }) rest in
        let goes : Goes p t outer tells nested s (at_stop m (landing t y.of (Some x) (f ∷ fs)) (1 + object)) (follow p s (g ∷ gs) turns catch object) =
        stops p t outer tells nested m s things y.of object own (landing t y.of (Some x) (f ∷ fs)) (follow p s (g ∷ gs) turns catch object) found in
        let going : plan_at t m.frames ≡ plan.Throwing (1 + object) = plan_held (Some (Ref (1 + object))) h.0 ∙ ap (λ (b : Bool). if b then plan.NoPlan else plan.Throwing (1 + object)) (not_zero object) in
        subst (λ (q : Plan). GoesAlike p outer s (taken_up t m q) (follow p s (g ∷ gs) turns catch object)) (sym going)
        (subst (λ (c : Option TypeAt). GoesAlike p outer s (class_or_none c (λ class. at_stop m (landing t class (ended_at t m.frames) m.frames) (1 + object))) (follow p s (g ∷ gs) turns catch object)) (sym y.there)
        (subst (λ (z : Option Found). GoesAlike p outer s (Some (at_stop m (landing t y.of z m.frames) (1 + object))) (follow p s (g ∷ gs) turns catch object)) (sym ended)
        (subst (λ (z : List RamFrame). GoesAlike p outer s (Some (at_stop m (landing t y.of (Some x) z) (1 + object))) (follow p s (g ∷ gs) turns catch object)) (sym is)
        (by_goes (follow p s (g ∷ gs) turns catch object) (at_stop m (landing t y.of (Some x) (f ∷ fs)) (1 + object)) goes))))

    slot_is : (slot : Slot) → slice_get g.slots x.number ≡ Some slot → GoesAlike p outer s (taken_up t m (plan_at t m.frames)) (take_up p s g gs (slice_get g.slots x.number))
    slot_is slot e = subst (λ (o : Option Slot). GoesAlike p outer s (taken_up t m (plan_at t m.frames)) (take_up p s g gs o)) (sym e) (by_slot slot (k.slots x.number slot e))

    pub ends : GoesAlike p outer s (taken_up t m (plan_at t m.frames)) (take_up p s g gs (slice_get g.slots x.number))
    ends =
        let w = twin p t (t.clauses f.method) k.of.clauses (clauses_are p t outer tells s.heap m.room f fs g gs k) x.number x.clause there in
        let inside : x.number < length k.of.clauses = slice_get_within k.of.clauses x.number w.clause w.is in
        let within : x.number < length g.slots = omega (arith, inside, k.slot_count) in
        slot_is (get_or g.slots x.number Nothing) (slice_get-get_or g.slots x.number Nothing within)

    -- the plan's exception is there
    there_by : (slot : Slot) → IsSlot p outer s.heap k.of g.method g.initialiser gs x.number (slot_held f x.number) slot → IsThere m (plan_at t m.frames)
    there_by Nothing h = subst (IsThere m) (sym (plan_held None h)) tt
    there_by (Caught object) h = subst (IsThere m) (sym (plan_held (Some (Ref (1 + object))) h.0 ∙ ap (λ (b : Bool). if b then plan.NoPlan else plan.Throwing (1 + object)) (not_zero object))) (ap is_some (classed p outer m s things object h.2.0 h.2.1).there)
    there_by (Leaving finals target) h = subst (IsThere m) (sym (plan_held (Some (Int (cast_signed w32 target))) h.0)) tt
    there_by (Throwing turns catch object) h = subst (IsThere m) (sym (plan_held (Some (Ref (1 + object))) h.0 ∙ ap (λ (b : Bool). if b then plan.NoPlan else plan.Throwing (1 + object)) (not_zero object))) (ap is_some (classed p outer m s things object h.2.class h.2.thrown).there)

    pub plan_there : IsThere m (plan_at t m.frames)
    plan_there =
        let w = twin p t (t.clauses f.method) k.of.clauses (clauses_are p t outer tells s.heap m.room f fs g gs k) x.number x.clause there in
        let inside : x.number < length k.of.clauses = slice_get_within k.of.clauses x.number w.clause w.is in
        let within : x.number < length g.slots = omega (arith, inside, k.slot_count) in
        there_by (get_or g.slots x.number Nothing) (k.slots x.number (get_or g.slots x.number Nothing) (slice_get-get_or g.slots x.number Nothing within))
