-- Exceptions of a typed program find their way.
use Rattle.std.proofs.Common.{◌≡◌, ◌⊎◌, inl, inr, ⊎_elim, ℕ, suc, ◌+◌, ◌<◌, ◌≤◌, Bool, true, false, ◌&&◌, not, List, [], ◌∷◌, ◌++◌, map, length, Option, Some, None, refl, sym, ap, ◌∙◌, subst, arith}
use Rattle.std.specs.Prelude.{if◌then◌else◌, slice_get, slice_set}
use Rattle.std.proofs.Math.ListN.{length-set}
use Rattle.std.proofs.lemmas.Option.{slice_get_within}
use Rattle.board_types.specs.declared.board.Known.{Known}
use Rattle.board_types.specs.declared.board.Known.TheVariants.{NullReference}
use Rattle.machine.specs.Data.{Id, CliType, ClassOf, thing_at, end_of, type_of, Value, Int, Long, Null, Object, Handle, Pointer, Thing, Instance, Text, Elements, Boxed, StaticCell, Turn, Finally, EndFrame, Slot, Caught, Throwing, Leaving, Frame, State}
use Rattle.machine.specs.Program.{Program, Method, Clause, ClauseKind, Catch, Final, Idle}
use Rattle.machine.specs.Numbers.{zero_of}
use Rattle.machine.specs.Throw.{on_some, Scan, scanned, scan, Route as Way, route_of, search_frames, enter_clause, follow, taken, throw, raise, is_final, left, leave, take_up, throw_thing, throw_value, throw_again, throw_exception}
use Rattle.machine_typed.specs.Typing.{StackType, O, is_number}
use Rattle.machine_typed.specs.Accepted.{Typing, Leaves, Regions, Starts, Accepted, IsThrown}
use Rattle.machine_typed.proofs.Heaps.{OfClass, mould_of, mould_at, mould_there, same_or_not, some_same, some_inv, and_left, and_right, get_set_same, get_set_other, get_seam}
use Rattle.machine_typed.proofs.Values.{Context, type_of_mould, Names, HasType, HaveAll, zeros_have}
use Rattle.machine_typed.proofs.States.{over, clause_at, Thrown, ThingFits, Things, there_at, Enters, Around, Route, Exit, IsCaught, IsPlan, SlotFits, Base, Callers, Stored, Goes, some_goes, Now, method_fits, goes_fine, now_grown}

module _ (p : Program) (t : Typing) (a : Accepted p t) where
  clause_there : (heap : List Thing) (f : Frame) (fs : List Frame) (m : Method) → Base p t heap f fs m → (k : ℕ) (c : Clause) → clause_at p t f.method k ≡ Some c → slice_get m.clauses k ≡ Some c
  clause_there heap f fs m b k c e = subst (λ o. on_some o (λ m. slice_get m.clauses k) ≡ Some c) b.is e

  -- a handler starts
  enter_fine : (s : State) (f : Frame) (fs : List Frame) (m : Method) → Stored p t s → Base p t s.heap f fs m → Callers p t s.heap f.initialiser m.returns fs → (running : ℕ → Type 0) (k : ℕ) (e : Enters p t f.method running k) → ((i : ℕ) → running i → SlotFits p t s.heap f.method m fs i (slice_get f.slots i)) → (stack : List Value) (slot : Slot) (us : List StackType) → t.types f.method e.clause.start ≡ Some us → HaveAll p (over s.heap (f ∷ fs)) stack us → SlotFits p t s.heap f.method m fs k (Some slot) → Goes p t (enter_clause p s f fs k stack slot)
  unfolding enter_clause
  enter_fine s f fs m st b c running k e slots stack slot us typed have fits =
      some_goes p t (p.method f.method) m _ b.is
      (some_goes p t (slice_get m.clauses k) e.clause _ there
      (goes_fine p t a s (record f { slots = slice_set f.slots k slot }) fs m st
      (record { is = b.is; code = b.code; arguments = b.arguments; locals = b.locals; count = length-set f.slots k slot ∙ b.count })
      c e.clause.start stack us typed have
      (λ i h. same i (same_or_not i k) (e.inside i h))))
    where
      there : slice_get m.clauses k ≡ Some e.clause
      there = clause_there s.heap f fs m b k e.clause e.is

      within : k < length f.slots
      within = let h : k < length m.clauses = slice_get_within m.clauses k e.clause there in subst (λ n. k < n) (sym b.count) h

      same : (i : ℕ) → (i ≡ k) ⊎ (i ≡ k → ⊥) → (i ≡ k) ⊎ running i → SlotFits p t s.heap f.method m fs i (slice_get (slice_set f.slots k slot) i)
      same i (inl h) o =
          subst (λ j. SlotFits p t s.heap f.method m fs j (slice_get (slice_set f.slots k slot) j)) (sym h)
          (subst (SlotFits p t s.heap f.method m fs k) (sym (get_set_same f.slots k slot within)) fits)
      same i (inr n) (inl h) = absurd (n h)
      same i (inr n) (inr h) = subst (SlotFits p t s.heap f.method m fs i) (sym (get_set_other f.slots k i slot n)) (slots i h)

  -- a clause is not of two kinds
  not_both : (m : Method) (k : ℕ) (c d : Clause) (class : Id) → slice_get m.clauses k ≡ Some c → slice_get m.clauses k ≡ Some d → c.kind ≡ Catch class → d.kind ≡ Final → ⊥
  not_both m k c d class e g x y =
      let same : c.kind ≡ d.kind = ap (λ (q : Clause). q.kind) (some_same c d (sym e ∙ g)) in
      let z : Catch class ≡ Final = sym x ∙ same ∙ y in cc z

  caught_slot : (heap : List Thing) (f : Frame) (fs : List Frame) (m : Method) (k : ℕ) (c : Clause) (class : Id) (object : ℕ) → slice_get m.clauses k ≡ Some c → c.kind ≡ Catch class → Thrown p t heap object class → SlotFits p t heap f.method m fs k (Some (Caught object))
  caught_slot heap f fs m k c class object e kind n =
      record { caught = λ x. (n.own, n.count, n.at); plan = λ x. absurd (not_both m k c x.clause class e x.is kind x.kind) }

  final_slot : (heap : List Thing) (id : Id) (fs : List Frame) (m : Method) (k : ℕ) (c : Clause) (slot : Slot) → slice_get m.clauses k ≡ Some c → c.kind ≡ Final → IsPlan p t heap id fs k (Some slot) → SlotFits p t heap id m fs k (Some slot)
  final_slot heap id fs m k c slot e kind plan =
      record { caught = λ x. absurd (not_both m k x.clause c x.class x.is e x.kind kind); plan = λ x. plan }

  -- the types at the start of a handler
  start_at : (heap : List Thing) (f : Frame) (fs : List Frame) (m : Method) → Base p t heap f fs m → (k : ℕ) (c : Clause) → slice_get m.clauses k ≡ Some c → (kind : ClauseKind) → c.kind ≡ kind → Starts p t f.method kind c.start
  start_at heap f fs m b k c e kind h = subst (λ z. Starts p t f.method z c.start) h ((method_fits p t a heap f fs m b).regions.starts k c e)

  thrown_has : (cx : Context) (object : ℕ) (class : Id) (u : CliType) → Thrown p t cx.heap object class → ((c : Id) → p.is_sub c class ≡ true → p.fits (ClassOf c) u ≡ true) → HasType p cx (Object object) (O u)
  thrown_has cx object class u n h = record { own = ClassOf n.own; at = ap (λ o. on_some o type_of_mould) n.at; below = h n.own n.below }

  follow_fine : (s : State) (f : Frame) (fs : List Frame) (m : Method) → Stored p t s → Base p t s.heap f fs m → Callers p t s.heap f.initialiser m.returns fs → (running : ℕ → Type 0) (turns : List Turn) (catch object : ℕ) → Route p t s.heap running f.method fs turns catch object → ((i : ℕ) → running i → SlotFits p t s.heap f.method m fs i (slice_get f.slots i)) → Goes p t (follow p s (f ∷ fs) turns catch object)
  follow_fine s f fs m st b c running [] catch object r slots =
      let there = clause_there s.heap f fs m b catch r.0.clause r.0.is in
      let u = start_at s.heap f fs m b catch r.0.clause there (Catch r.1) r.2 in
      enter_fine s f fs m st b c running catch r.0 slots (Object object ∷ []) (Caught object) (O u.0 ∷ []) u.1
      (thrown_has (over s.heap (f ∷ fs)) object r.1 u.0 r.3 u.2, tt)
      (caught_slot s.heap f fs m catch r.0.clause r.1 object there r.2 r.3)
  follow_fine s f fs m st b c running (Finally k ∷ turns) catch object r slots =
      let there = clause_there s.heap f fs m b k r.0.clause r.0.is in
      enter_fine s f fs m st b c running k r.0 slots [] (Throwing turns catch object) [] (start_at s.heap f fs m b k r.0.clause there Final r.1) tt
      (final_slot s.heap f.method fs m k r.0.clause (Throwing turns catch object) there r.1 (r.0.clause, r.0.is, r.2))
  follow_fine s f [] m st b c running (EndFrame ∷ turns) catch object r slots = absurd r
  follow_fine s f (g ∷ gs) m st b c running (EndFrame ∷ turns) catch object r slots =
      follow_fine s g gs c.0 st c.1 c.4 (λ i. t.handled g.method i g.place ≡ true) turns catch object r c.2.at

  leave_fine : (s : State) (f : Frame) (fs : List Frame) (m : Method) → Stored p t s → Base p t s.heap f fs m → Callers p t s.heap f.initialiser m.returns fs → (running : ℕ → Type 0) (ks : List ℕ) (target : ℕ) → Exit p t running f.method ks target → ((i : ℕ) → running i → SlotFits p t s.heap f.method m fs i (slice_get f.slots i)) → Goes p t (leave p s f fs ks target)
  leave_fine s f fs m st b c running [] target x slots =
      goes_fine p t a s f fs m st b c target [] [] x.0 tt (λ i h. slots i (x.1 i h))
  leave_fine s f fs m st b c running (k ∷ ks) target x slots =
      let there = clause_there s.heap f fs m b k x.0.clause x.0.is in
      enter_fine s f fs m st b c running k x.0 slots [] (Leaving ks target) [] (start_at s.heap f fs m b k x.0.clause there Final x.1) tt
      (final_slot s.heap f.method fs m k x.0.clause (Leaving ks target) there x.1 (x.0.clause, x.0.is, x.2))

  -- the plan of a finally that has ended
  pub take_up_fine : (s : State) (f : Frame) (fs : List Frame) (m : Method) → Now p t s f fs m → (k : ℕ) → t.handled f.method k f.place ≡ true → (slot : Option Slot) → IsPlan p t s.heap f.method fs k slot → Goes p t (take_up p s f fs slot)
  take_up_fine s f fs m n k h (Some (Throwing turns catch object)) x =
      let there = clause_there s.heap f fs m n.base k x.0 x.1 in
      follow_fine s f fs m n.stored n.base n.callers (Around p t f.method x.0.start k) turns catch object x.2
      (λ i r. n.slots.at i ((method_fits p t a s.heap f fs m n.base).regions.inside i k f.place x.0 there h r.0))
  take_up_fine s f fs m n k h (Some (Leaving ks target)) x =
      let there = clause_there s.heap f fs m n.base k x.0 x.1 in
      leave_fine s f fs m n.stored n.base n.callers (Around p t f.method x.0.start k) ks target x.2
      (λ i r. n.slots.at i ((method_fits p t a s.heap f fs m n.base).regions.inside i k f.place x.0 there h r.0))
  take_up_fine s f fs m n k h _ x = absurd x

  -- the clauses from the k-th on, where the ones from the next on follow
  abbrev From : Method → ℕ → List Clause → Type 0
  From m k cs = (i : ℕ) → slice_get cs i ≡ slice_get m.clauses (k + i)

  from_here : (m : Method) (k : ℕ) (c : Clause) (cs : List Clause) → From m k (c ∷ cs) → slice_get m.clauses k ≡ Some c
  from_here m k c cs at = let e : k + 0 ≡ k = omega arith in subst (λ n. slice_get m.clauses n ≡ Some c) e (sym (at 0))

  from_next : (m : Method) (k : ℕ) (c : Clause) (cs : List Clause) → From m k (c ∷ cs) → From m (suc k) cs
  from_next m k c cs at i = let e : k + suc i ≡ suc k + i = omega arith in subst (λ n. slice_get cs i ≡ slice_get m.clauses n) e (at (suc i))

  final_kind : (k : ClauseKind) → is_final k ≡ true → k ≡ Final
  final_kind Final e = refl
  final_kind (Catch c) e = absurd (cc e)
  final_kind Idle e = absurd (cc e)

  not_true : (b : Bool) → not b ≡ true → b ≡ false
  not_true true e = absurd (cc e)
  not_true false e = refl

  -- each later clause whose try holds the place can be entered
  abbrev Open : Id → Method → ℕ → ℕ → (ℕ → Type 0) → Type 0
  Open id m place k running = (j i : ℕ) (d : Clause) → k ≤ j → slice_get m.clauses j ≡ Some d → p.try_holds id j place ≡ true → t.handled id i d.start ≡ true → (i ≡ j) ⊎ running i

  module _ (id : Id) (m : Method) (is : p.method id ≡ Some m) (g : Regions p t id m) (place : ℕ) where
    clause_here : (k : ℕ) (c : Clause) → slice_get m.clauses k ≡ Some c → clause_at p t id k ≡ Some c
    clause_here k c e = subst (λ o. on_some o (λ m. slice_get m.clauses k) ≡ Some c) (sym is) e

    open_next : (k : ℕ) (running : ℕ → Type 0) → Open id m place k running → Open id m place (suc k) running
    open_next k running ok j i d le = ok j i d (omega arith)

    open_inner : (k : ℕ) (c : Clause) → slice_get m.clauses k ≡ Some c → p.try_holds id k place ≡ true → Open id m place (suc k) (Around p t id c.start k)
    open_inner k c there hold j i d le = λ e h x. g.onward i k j place c d le there e hold h x

    abbrev enters : (k : ℕ) (c : Clause) (running : ℕ → Type 0) → slice_get m.clauses k ≡ Some c → Open id m place k running → p.try_holds id k place ≡ true → Enters p t id running k
    enters k c running there ok hold = record { clause = c; is = clause_here k c there; inside = λ i h. ok k i c (omega arith) there hold h }

    -- the finally blocks that a leave leaves
    exit_of : (to : ℕ) (w : Leaves p t id m place to) (k : ℕ) (cs : List Clause) → From m k cs → (running : ℕ → Type 0) → Open id m place k running → ((i : ℕ) → t.handled id i to ≡ true → running i) → Exit p t running id (left p id place to k cs) to
    exit_of to w k [] at running ok last = (w.typed, last)
    exit_of to w k (c ∷ cs) at running ok last =
        pick (is_final c.kind && (p.try_holds id k place && not (p.try_holds id k to))) refl
        (λ hold out. exit_of to w (suc k) cs (from_next m k c cs at) (Around p t id c.start k) (open_inner k c there hold) (w.through k c there hold out))
        (exit_of to w (suc k) cs (from_next m k c cs at) running (open_next k running ok) last)
      where
        there : slice_get m.clauses k ≡ Some c
        there = from_here m k c cs at

        pick : (b : Bool) → is_final c.kind && (p.try_holds id k place && not (p.try_holds id k to)) ≡ b → (p.try_holds id k place ≡ true → p.try_holds id k to ≡ false → Exit p t (Around p t id c.start k) id (left p id place to (suc k) cs) to) → Exit p t running id (left p id place to (suc k) cs) to → Exit p t running id (if b then k ∷ left p id place to (suc k) cs else left p id place to (suc k) cs) to
        pick true e inner skip =
            let hold = and_left (p.try_holds id k place) (not (p.try_holds id k to)) (and_right (is_final c.kind) _ e) in
            let out = not_true (p.try_holds id k to) (and_right (p.try_holds id k place) (not (p.try_holds id k to)) (and_right (is_final c.kind) _ e)) in
            (enters k c running there ok hold, final_kind c.kind (and_left (is_final c.kind) _ e), inner hold out)
        pick false e inner skip = skip

    -- what a scan of a frame finds leads to a catch, or out of the frame
    record Ways (heap : List Thing) (fs : List Frame) (object : ℕ) (running : ℕ → Type 0) (r : Scan) : Type 0 where
      caught : (q : ℕ) → r.catch ≡ Some q → Route p t heap running id fs (map Finally r.finals) q object
      passed : r.catch ≡ None → (turns : List Turn) (q : ℕ) → Route p t heap (λ i. ⊥) id fs (EndFrame ∷ turns) q object → Route p t heap running id fs (map Finally r.finals ++ EndFrame ∷ turns) q object

    out_of : (heap : List Thing) (fs : List Frame) (object : ℕ) (running : ℕ → Type 0) (turns : List Turn) (q : ℕ) → Route p t heap (λ i. ⊥) id fs (EndFrame ∷ turns) q object → Route p t heap running id fs (EndFrame ∷ turns) q object
    out_of heap [] object running turns q h = h
    out_of heap (g' ∷ gs) object running turns q h = h

    ways_of : (heap : List Thing) (fs : List Frame) (object : ℕ) (class : Id) (count : ℕ) → mould_at heap object ≡ Some (OfClass class count) → (k : ℕ) (cs : List Clause) → From m k cs → (running : ℕ → Type 0) → Open id m place k running → Ways heap fs object running (scan p id place class k cs)
    ways_of heap fs object class count named k [] at running ok =
        record { caught = λ q e. absurd (cc e); passed = λ e turns q h. out_of heap fs object running turns q h }
    ways_of heap fs object class count named k (c ∷ cs) at running ok =
        by_hold (p.try_holds id k place) refl c.kind refl (ways_of heap fs object class count named (suc k) cs (from_next m k c cs at) running (open_next k running ok)) (λ hold. ways_of heap fs object class count named (suc k) cs (from_next m k c cs at) (Around p t id c.start k) (open_inner k c (from_here m k c cs at) hold))
      where
        there : slice_get m.clauses k ≡ Some c
        there = from_here m k c cs at

        rest : Scan
        rest = scan p id place class (suc k) cs

        by_sub : (hold : p.try_holds id k place ≡ true) (d : Id) → c.kind ≡ Catch d → (b : Bool) → p.is_sub class d ≡ b → Ways heap fs object running rest → Ways heap fs object running (if b then record { finals = []; catch = Some k } else rest)
        by_sub hold d ek true sub skip =
            record {
              caught = λ q e. subst (λ n. Route p t heap running id fs [] n object) (some_same k q e) (enters k c running there ok hold, d, ek, record { own = class; count = count; at = named; below = sub });
              passed = λ e. absurd (cc e);
            }
        by_sub hold d ek false sub skip = skip

        by_hold : (b : Bool) → p.try_holds id k place ≡ b → (kind : ClauseKind) → c.kind ≡ kind → Ways heap fs object running rest → (p.try_holds id k place ≡ true → Ways heap fs object (Around p t id c.start k) rest) → Ways heap fs object running (scanned p class k b kind rest)
        by_hold false e kind ek skip inner = skip
        by_hold true e Final ek skip inner =
            record {
              caught = λ q x. (enters k c running there ok e, ek, (inner e).caught q x);
              passed = λ x turns q h. (enters k c running there ok e, ek, (inner e).passed x turns q h);
            }
        by_hold true e (Catch d) ek skip inner = by_sub e d ek (p.is_sub class d) refl skip
        by_hold true e Idle ek skip inner = skip

  -- the search of a running program finds a way, if any, that can be gone
  route_found : (initialiser : Bool) (r : Scan) (o : Option Way) (w : Way) → route_of initialiser r.finals r.catch o ≡ Some w → ((q : ℕ) × (r.catch ≡ Some q) × (w ≡ record { turns = map Finally r.finals; catch = q })) ⊎ ((v : Way) × (r.catch ≡ None) × (o ≡ Some v) × (w ≡ record { turns = map Finally r.finals ++ EndFrame ∷ v.turns; catch = v.catch }))
  route_found initialiser r o w e = by_catch r.catch refl initialiser o e
    where
      by_catch : (c : Option ℕ) → r.catch ≡ c → (b : Bool) (o : Option Way) → route_of b r.finals c o ≡ Some w → ((q : ℕ) × (r.catch ≡ Some q) × (w ≡ record { turns = map Finally r.finals; catch = q })) ⊎ ((v : Way) × (r.catch ≡ None) × (o ≡ Some v) × (w ≡ record { turns = map Finally r.finals ++ EndFrame ∷ v.turns; catch = v.catch }))
      by_catch (Some q) e b o h = inl (q, e, sym (some_same _ _ h))
      by_catch None e true o h = absurd (cc h)
      by_catch None e false None h = absurd (cc h)
      by_catch None e false (Some v) h = inr (v, e, refl, sym (some_same _ _ h))

  search_here : (heap : List Thing) (class : Id) (object count : ℕ) → mould_at heap object ≡ Some (OfClass class count) → (f : Frame) (fs : List Frame) (m : Method) → Base p t heap f fs m → ((v : Way) → search_frames p class fs ≡ Some v → Route p t heap (λ i. ⊥) f.method fs (EndFrame ∷ v.turns) v.catch object) → (w : Way) → search_frames p class (f ∷ fs) ≡ Some w → Route p t heap (λ i. t.handled f.method i f.place ≡ true) f.method fs w.turns w.catch object
  search_here heap class object count named f fs m b outer w e =
      ⊎_elim
      (λ x. subst (λ (v : Way). Route p t heap (λ i. t.handled f.method i f.place ≡ true) f.method fs v.turns v.catch object) (sym x.2) (ways.caught x.0 x.1))
      (λ x. subst (λ (v : Way). Route p t heap (λ i. t.handled f.method i f.place ≡ true) f.method fs v.turns v.catch object) (sym x.3) (ways.passed x.1 x.0.turns x.0.catch (outer x.0 x.2)))
      (route_found f.initialiser (scan p f.method f.place class 0 m.clauses) (search_frames p class fs) w found)
    where
      found : route_of f.initialiser (scan p f.method f.place class 0 m.clauses).finals (scan p f.method f.place class 0 m.clauses).catch (search_frames p class fs) ≡ Some w
      found = subst (λ o. on_some o (λ m. route_of f.initialiser (scan p f.method f.place class 0 m.clauses).finals (scan p f.method f.place class 0 m.clauses).catch (search_frames p class fs)) ≡ Some w) b.is e

      regions : Regions p t f.method m
      regions = (method_fits p t a heap f fs m b).regions

      zero_at : From m 0 m.clauses
      zero_at i = let e : i ≡ 0 + i = omega arith in ap (slice_get m.clauses) e

      ways : Ways f.method m b.is regions f.place heap fs object (λ i. t.handled f.method i f.place ≡ true) (scan p f.method f.place class 0 m.clauses)
      ways = ways_of f.method m b.is regions f.place heap fs object class count named 0 m.clauses zero_at (λ i. t.handled f.method i f.place ≡ true) (λ j i d le there hold h. regions.out i j f.place d there hold h)

  search_fine : (heap : List Thing) (class : Id) (object count : ℕ) → mould_at heap object ≡ Some (OfClass class count) → (f : Frame) (fs : List Frame) (m : Method) → Base p t heap f fs m → Callers p t heap f.initialiser m.returns fs → (w : Way) → search_frames p class (f ∷ fs) ≡ Some w → Route p t heap (λ i. t.handled f.method i f.place ≡ true) f.method fs w.turns w.catch object
  search_fine heap class object count named f [] m b c w e = search_here heap class object count named f [] m b (λ v x. absurd (cc x)) w e
  search_fine heap class object count named f (g ∷ gs) m b c w e =
      search_here heap class object count named f (g ∷ gs) m b (λ v x. search_fine heap class object count named g gs c.0 c.1 c.4 v x) w e

  pub throw_fine : (s : State) (f : Frame) (fs : List Frame) (m : Method) → Now p t s f fs m → s.frames ≡ f ∷ fs → (class : Id) (object count : ℕ) → mould_at s.heap object ≡ Some (OfClass class count) → Goes p t (throw p s class object)
  unfolding throw
  throw_fine s f fs m n fr class object count named =
      subst (λ q. Goes p t (taken p s class object (search_frames p class q))) (sym fr) (by_way (search_frames p class (f ∷ fs)) refl)
    where
      by_way : (o : Option Way) → search_frames p class (f ∷ fs) ≡ o → Goes p t (taken p s class object o)
      by_way None e = tt
      by_way (Some w) e =
          subst (λ q. Goes p t (follow p s q w.turns w.catch object)) (sym fr)
          (follow_fine s f fs m n.stored n.base n.callers (λ i. t.handled f.method i f.place ≡ true) w.turns w.catch object (search_fine s.heap class object count named f fs m n.base n.callers w e) n.slots.at)

  -- a new instance, with all fields zero
  pub fresh : (cx : Context) (class : Id) (types : List CliType) → p.fields class ≡ Some types → t.made (ClassOf class) ≡ true → ThingFits p t cx (Instance class (map zero_of types))
  fresh cx class types is made = (types, is, zeros_have p cx types (λ n k x. a.fields class types n k is x), made)

  pub raise_fine : (s : State) (f : Frame) (fs : List Frame) (m : Method) → Now p t s f fs m → s.frames ≡ f ∷ fs → (k : Known) → Goes p t (raise p s k)
  unfolding raise
  raise_fine s f fs m n fr k =
      let x = a.known k in
      let made : Thing = Instance x.class (map zero_of x.types) in
      some_goes p t (p.known k) x.class _ x.is
      (some_goes p t (p.fields x.class) x.types _ x.fields
      (throw_fine (record s { heap = s.heap ++ made ∷ [] }) f fs m
      (now_grown p t a s f fs m n made (fresh (over (s.heap ++ made ∷ []) []) x.class x.types x.fields x.made)) fr x.class (end_of s.heap) (length (map zero_of x.types))
      (mould_there (s.heap ++ made ∷ []) (end_of s.heap) made (get_seam s.heap made))))

  -- an instance lies where a mould of its class is
  instance_at : (heap : List Thing) (n : ℕ) (class : Id) (count : ℕ) → mould_at heap n ≡ Some (OfClass class count) → (vs : List Value) × (thing_at heap n ≡ Some (Instance class vs))
  instance_at heap n class count e =
      let x = some_inv (thing_at heap n) (λ x. Some (mould_of x)) (OfClass class count) e in
      at x.0 x.1 (some_same (mould_of x.0) (OfClass class count) x.2)
    where
      at : (x : Thing) → thing_at heap n ≡ Some x → mould_of x ≡ OfClass class count → (vs : List Value) × (thing_at heap n ≡ Some (Instance class vs))
      at (Instance c vs) h k = let same : c ≡ class = cc k in (vs, h ∙ ap (λ z. Some (Instance z vs)) same)
      at (Text units) h k = absurd (cc k)
      at (Elements element vs) h k = absurd (cc k)
      at (Boxed type v) h k = absurd (cc k)
      at (StaticCell type v) h k = absurd (cc k)

  throw_thing_fine : (s : State) (f : Frame) (fs : List Frame) (m : Method) → Now p t s f fs m → s.frames ≡ f ∷ fs → (object : ℕ) (class : Id) (count : ℕ) → mould_at s.heap object ≡ Some (OfClass class count) → Goes p t (throw_thing p s object)
  unfolding throw_thing
  throw_thing_fine s f fs m n fr object class count named =
      let y = instance_at s.heap object class count named in
      some_goes p t (thing_at s.heap object) (Instance class y.0) _ y.1 (throw_fine s f fs m n fr class object count named)

  throw_exception_fine : (s : State) (f : Frame) (fs : List Frame) (m : Method) → Now p t s f fs m → s.frames ≡ f ∷ fs → (object : ℕ) (class : Id) (count : ℕ) → mould_at s.heap object ≡ Some (OfClass class count) → IsThrown p t class → Goes p t (throw_exception p s object)
  unfolding throw_exception
  throw_exception_fine s f fs m n fr object class count named w =
      let y = instance_at s.heap object class count named in
      some_goes p t (thing_at s.heap object) (Instance class y.0) _ y.1
      (some_goes p t p.exception w.0 _ w.1
      (subst (λ (q : Bool). Goes p t (if q then throw p s class object else None)) (sym w.2) (throw_fine s f fs m n fr class object count named)))

  -- an object of an exception's class is an instance
  exception_mould : (heap : List Thing) (things : Things p t heap) (n : ℕ) → Names p heap n t.exception → (c : Id) × (count : ℕ) × (mould_at heap n ≡ Some (OfClass c count)) × IsThrown p t c
  exception_mould heap things n h =
      let x = there_at p t a heap things n h.own h.at in
      let c = a.exceptions h.own x.made h.below in
      at x.thing x.at x.fits c.0 (x.type ∙ ap Some c.1) c.2
    where
      at : (x : Thing) → thing_at heap n ≡ Some x → ThingFits p t (over heap []) x → (c : Id) → type_of x ≡ Some (ClassOf c) → IsThrown p t c → (c : Id) × (count : ℕ) × (mould_at heap n ≡ Some (OfClass c count)) × IsThrown p t c
      at (Instance d vs) e fits c k w = let same : d ≡ c = cc k in (d, length vs, mould_there heap n (Instance d vs) e, subst (IsThrown p t) (sym same) w)
      at (Text units) e fits c k w = absurd (cc k)
      at (Elements element vs) e fits c k w = absurd (cc k)
      at (Boxed type v) e fits c k w = let no : is_number (ClassOf c) ≡ true = subst (λ z. is_number z ≡ true) (some_same type (ClassOf c) k) fits.1 in absurd (cc no)
      at (StaticCell type v) e fits c k w = absurd (cc k)

  pub throw_value_fine : (s : State) (f : Frame) (fs : List Frame) (m : Method) → Now p t s f fs m → s.frames ≡ f ∷ fs → (v : Value) → HasType p (over s.heap (f ∷ fs)) v (O t.exception) → Goes p t (throw_value p s v)
  throw_value_fine s f fs m n fr (Object k) h = let x = exception_mould s.heap n.stored.heap k h in throw_exception_fine s f fs m n fr k x.0 x.1 x.2 x.3
  throw_value_fine s f fs m n fr Null h = raise_fine s f fs m n fr NullReference
  throw_value_fine s f fs m n fr (Int k) h = absurd h
  throw_value_fine s f fs m n fr (Long k) h = absurd h
  throw_value_fine s f fs m n fr (Handle k) h = absurd h
  throw_value_fine s f fs m n fr (Pointer k x) h = absurd h

  pub throw_again_fine : (s : State) (f : Frame) (fs : List Frame) (m : Method) → Now p t s f fs m → s.frames ≡ f ∷ fs → (slot : Option Slot) → IsCaught p t s.heap slot → Goes p t (throw_again p s slot)
  throw_again_fine s f fs m n fr (Some (Caught object)) h = throw_thing_fine s f fs m n fr object h.0 h.1 h.2
  throw_again_fine s f fs m n fr _ h = absurd h

  -- a leave from the frame's place
  pub leaves_fine : (s : State) (f : Frame) (fs : List Frame) (m : Method) → Now p t s f fs m → (to : ℕ) → Leaves p t f.method m f.place to → Goes p t (leave p s f fs (left p f.method f.place to 0 m.clauses) to)
  leaves_fine s f fs m n to w =
      let regions = (method_fits p t a s.heap f fs m n.base).regions in
      let zero_at : From m 0 m.clauses = λ i. let e : i ≡ 0 + i = omega arith in ap (slice_get m.clauses) e in
      leave_fine s f fs m n.stored n.base n.callers (λ i. t.handled f.method i f.place ≡ true) (left p f.method f.place to 0 m.clauses) to
      (exit_of f.method m n.base.is regions f.place to w 0 m.clauses zero_at (λ i. t.handled f.method i f.place ≡ true) (λ j i d le there hold h. regions.out i j f.place d there hold h) w.stays)
      n.slots.at
