-- A throw of an object that is made for it.
use Rattle.std.proofs.Common.{◌≡◌, inl, inr, ℕ, suc, ◌+◌, ◌-◌, ◌<◌, ◌≤◌, Bool, true, false, ◌==◌, List, [], ◌∷◌, ◌++◌, map, length, Option, Some, None, refl, sym, ap, ◌∙◌, subst, arith}
use Rattle.std.specs.Prelude.{◌⊎◌, nat_eq, if◌then◌else◌, nat_le, nat_lt}
use Rattle.std.specs.Option.{option_map}
use Rattle.std.proofs.lemmas.Bool.Decides.{leb_tells, eqb_tells}
use Rattle.board_types.specs.declared.board.TypeAt.{TypeAt}
use Rattle.board_types.specs.declared.board.Known.{Known}
use Rattle.board_types.specs.declared.value.Value.TheVariants.{Ref}
use Rattle.machine.specs.Data.{Id, CliType, Thing, Instance, Text, Elements, Boxed, StaticCell, thing_at, thing_size, end_of, State}
use Rattle.machine.specs.Program.{Program}
use Rattle.machine.specs.Numbers.{zero_of}
use Rattle.machine.specs.Throw.{on_some, throw, raise, thrown_class}
use Rattle.machine_rename.specs.Again.{Nested}
use Rattle.tiny_ram.specs.Things.{Entry, entry_cells, fresh, object_shape}
use Rattle.tiny_ram.specs.Memory.{RamFrame, Memory, heap_cells, frame_cells, used, with_entry, with_frames, pushed}
use Rattle.memory_states.specs.Told.{Told}
use Rattle.memory_states.specs.Values.{id_of}
use Rattle.memory_states.specs.States.{Tells, IsThrown, StandsFor}
use Rattle.memory_states.proofs.Heaps.{sizes_are, things_more, made_is, frames_more, used_is}
use Rattle.tiny_except.specs.declared.clauses.Found.{Found}
use Rattle.tiny_except.specs.declared.unwinding.Thrown.TheVariants as thrown
use Rattle.tiny_except.specs.Unwinding.{fits, Landing, landing, entered, stopped, After, at_stop, caught, uncaught, thrown_after}
use Rattle.tiny_except.specs.Machine.{EndsAlike, Alike, ThrowsAlike}
use Rattle.tiny_except.proofs.Throws.{only_if, done, throws}

heap_more : (es : List Entry) (e : Entry) → heap_cells (es ++ e ∷ []) ≡ heap_cells es + entry_cells e
heap_more [] e = omega arith
heap_more (d ∷ es) e = let rest = heap_more es e in omega (arith, rest)

thing_some : (x : Thing) → 0 < thing_size x
thing_some (Instance class vs) = omega arith
thing_some (Text units) = omega arith
thing_some (Elements element vs) = omega arith
thing_some (Boxed type v) = omega arith
thing_some (StaticCell type v) = omega arith

-- a thing behind all others
last_at : (xs : List Thing) (x : Thing) → thing_at (xs ++ x ∷ []) (end_of xs) ≡ Some x
last_at [] x = refl
last_at (y ∷ xs) x =
    ap (λ (b : Bool). if b then Some y else (if nat_lt (thing_size y + end_of xs) (thing_size y) then None else thing_at (xs ++ x ∷ []) (thing_size y + end_of xs - thing_size y))) apart
    ∙ ap (λ (b : Bool). if b then None else thing_at (xs ++ x ∷ []) (thing_size y + end_of xs - thing_size y)) behind
    ∙ ap (thing_at (xs ++ x ∷ [])) rest
    ∙ last_at xs x
  where
    some : 0 < thing_size y
    some = thing_some y

    rest : thing_size y + end_of xs - thing_size y ≡ end_of xs
    rest = omega arith

    apart : (thing_size y + end_of xs == 0) ≡ false
    apart = by (eqb_tells (thing_size y + end_of xs) 0)
      where
        by : ((nat_eq (thing_size y + end_of xs) 0 ≡ true) × (thing_size y + end_of xs ≡ 0)) ⊎ ((nat_eq (thing_size y + end_of xs) 0 ≡ false) × (thing_size y + end_of xs ≡ 0 → ⊥)) → (thing_size y + end_of xs == 0) ≡ false
        by (inl q) = let some : 0 < thing_size y = thing_some y in absurd (omega (arith, q.1, some))
        by (inr q) = q.0

    behind : nat_lt (thing_size y + end_of xs) (thing_size y) ≡ false
    behind = by (leb_tells (suc (thing_size y + end_of xs)) (thing_size y))
      where
        by : ((nat_le (suc (thing_size y + end_of xs)) (thing_size y) ≡ true) × (suc (thing_size y + end_of xs) ≤ thing_size y)) ⊎ ((nat_le (suc (thing_size y + end_of xs)) (thing_size y) ≡ false) × (thing_size y < suc (thing_size y + end_of xs))) → nat_lt (thing_size y + end_of xs) (thing_size y) ≡ false
        by (inl q) = absurd (omega (arith, q.1))
        by (inr q) = q.0

stopped_cells : (f : RamFrame) (x : Found) (object : ℕ) → frame_cells (stopped f x object) ≡ frame_cells f
stopped_cells f x object = by (x.clause.kind == 0)
  where
    by : (b : Bool) → frame_cells (if b then pushed (entered f x (Ref object)) (Ref object) else entered f x (Ref object)) ≡ frame_cells f
    by true = refl
    by false = refl

mapped : {A B : Type 0} (go : A → B) (b : Bool) (x : A) → option_map go (if b then Some x else None) ≡ (if b then Some (go x) else None)
mapped go true x = refl
mapped go false x = refl

module _ (p : Program) (t : Told) (outer : Id → ℕ → ℕ → Bool) (tells : Tells t p outer) (nested : Nested p outer) where
  -- what a throw of a new object comes to, where the cells do
  made_after : (m : Memory) (class : TypeAt) (n : ℕ) (b : Bool) → (if b then caught m (landing t class None m.frames) (thrown.Made class n) else uncaught m class (thrown.Made class n)) ≡ only_if (nat_le (used (done p t outer tells nested (with_entry m (fresh (object_shape class n))) class (1 + heap_cells m.heap) b).memory) m.room) (done p t outer tells nested (with_entry m (fresh (object_shape class n))) class (1 + heap_cells m.heap) b)
  made_after m class n false =
      let e : Entry = fresh (object_shape class n) in
      let more : heap_cells (m.heap ++ e ∷ []) ≡ heap_cells m.heap + entry_cells e = heap_more m.heap e in
      let size : used m + entry_cells e ≡ used (with_entry m e) = omega (arith, more) in
      mapped (λ made. let a : After = record { class = Some class; memory = made } in a) (nat_le (used m + entry_cells e) m.room) (with_entry m e)
      ∙ ap (λ k. only_if (nat_le k m.room) (let a : After = record { class = Some class; memory = with_entry m e } in a)) size
  made_after m class n true = by (landing t class None m.frames)
    where
      by : (l : Option Landing) → caught m l (thrown.Made class n) ≡ only_if (nat_le (used (at_stop (with_entry m (fresh (object_shape class n))) l (1 + heap_cells m.heap))) m.room) (record { class = None; memory = at_stop (with_entry m (fresh (object_shape class n))) l (1 + heap_cells m.heap) })
      by None =
          let more : heap_cells (m.heap ++ fresh (object_shape class n) ∷ []) ≡ heap_cells m.heap + entry_cells (fresh (object_shape class n)) = heap_more m.heap (fresh (object_shape class n)) in
          let size : used (with_frames m []) + entry_cells (fresh (object_shape class n)) ≡ used (with_frames (with_entry m (fresh (object_shape class n))) []) = omega (arith, more) in
          mapped (λ made. let a : After = record { class = None; memory = at_stop made None (1 + heap_cells m.heap) } in a) (nat_le (used (with_frames m []) + entry_cells (fresh (object_shape class n))) m.room) (with_entry (with_frames m []) (fresh (object_shape class n)))
          ∙ ap (λ k. only_if (nat_le k m.room) (let a : After = record { class = None; memory = with_frames (with_entry m (fresh (object_shape class n))) [] } in a)) size
      by (Some l) =
          let more : heap_cells (m.heap ++ fresh (object_shape class n) ∷ []) ≡ heap_cells m.heap + entry_cells (fresh (object_shape class n)) = heap_more m.heap (fresh (object_shape class n)) in
          let frame : frame_cells (stopped l.frame l.stop (1 + heap_cells m.heap)) ≡ frame_cells l.frame = stopped_cells l.frame l.stop (1 + heap_cells m.heap) in
          let size : used (with_frames m (l.frame ∷ l.callers)) + entry_cells (fresh (object_shape class n)) ≡ used (with_frames (with_entry m (fresh (object_shape class n))) (stopped l.frame l.stop (1 + heap_cells m.heap) ∷ l.callers)) = omega (arith, more, frame) in
          mapped (λ made. let a : After = record { class = None; memory = at_stop made (Some l) (1 + heap_cells m.heap) } in a) (nat_le (used (with_frames m (l.frame ∷ l.callers)) + entry_cells (fresh (object_shape class n))) m.room) (with_entry (with_frames m (l.frame ∷ l.callers)) (fresh (object_shape class n)))
          ∙ ap (λ k. only_if (nat_le k m.room) (let a : After = record { class = None; memory = with_frames (with_entry m (fresh (object_shape class n))) (stopped l.frame l.stop (1 + heap_cells m.heap) ∷ l.callers) } in a)) size

  -- the answer, by whether the cells do
  by_room : (s u : State) (room : ℕ) (a : After) → Alike p outer s a.memory u → EndsAlike s u a.class → ThrowsAlike p outer s room (only_if (nat_le (used a.memory) room) a) (Some u)
  by_room s u room a alike end = by (leb_tells (used a.memory) room)
    where
      by : ((nat_le (used a.memory) room ≡ true) × (used a.memory ≤ room)) ⊎ ((nat_le (used a.memory) room ≡ false) × (room < used a.memory)) → ThrowsAlike p outer s room (only_if (nat_le (used a.memory) room) a) (Some u)
      by (inl q) = subst (λ (b : Bool). ThrowsAlike p outer s room (only_if b a) (Some u)) (sym q.0) (alike, end)
      by (inr q) = subst (λ (b : Bool). ThrowsAlike p outer s room (only_if b a) (Some u)) (sym q.0) (subst (λ k. room < k) (used_is p outer a.memory u alike.stands) q.1)

  pub made_throws : (m : Memory) (s : State) → StandsFor p outer m s → (known : Known) (class : TypeAt) (types : List CliType) → p.known known ≡ Some (id_of class) → p.fields (id_of class) ≡ Some types → ThrowsAlike p outer s m.room (thrown_after t m class (thrown.Made class (length types))) (raise p s known)
  unfolding raise
  made_throws m s h known class types is fields =
      let x : Thing = Instance (id_of class) (map zero_of types) in
      let now : State = record s { heap = s.heap ++ Instance (id_of class) (map zero_of types) ∷ [] } in
      let e : Entry = fresh (object_shape class (length types)) in
      let w : Memory = with_entry m e in
      let stands : StandsFor p outer w now = record { heap = things_more p m.room m.heap s.heap e x h.heap (made_is p m.room class types fields); frames = frames_more p outer s.heap (x ∷ []) m.room m.frames s.frames h.frames } in
      let there : IsThrown p outer now.heap (end_of s.heap) (id_of class) = record { is = ap (λ o. on_some o thrown_class) (last_at s.heap x) } in
      let y = throws p t outer tells nested w now stands class (end_of s.heap) there in
      let number : heap_cells m.heap ≡ end_of s.heap = sizes_are p m.room m.heap s.heap h.heap in
      let goes : raise p s known ≡ Some y.state =
      ap (λ o. on_some o (λ c. on_some (p.fields c) (λ kinds. throw p (record s { heap = s.heap ++ Instance c (map zero_of kinds) ∷ [] }) c (end_of s.heap)))) is
      ∙ ap (λ o. on_some o (λ kinds. throw p (record s { heap = s.heap ++ Instance (id_of class) (map zero_of kinds) ∷ [] }) (id_of class) (end_of s.heap))) fields
      ∙ y.is in
      let alike : Alike p outer s (done p t outer tells nested w class (1 + end_of s.heap) (fits t class m.frames)).memory y.state =
      record { stands = y.alike.stands; rest = record { literals = y.alike.rest.literals; statics = y.alike.rest.statics; started = y.alike.rest.started; output = y.alike.rest.output } } in
      let answer : ThrowsAlike p outer s m.room (only_if (nat_le (used (done p t outer tells nested w class (1 + end_of s.heap) (fits t class m.frames)).memory) m.room) (done p t outer tells nested w class (1 + end_of s.heap) (fits t class m.frames))) (Some y.state) =
      by_room s y.state m.room (done p t outer tells nested w class (1 + end_of s.heap) (fits t class m.frames)) alike y.end in
      subst (λ (o : Option State). ThrowsAlike p outer s m.room (thrown_after t m class (thrown.Made class (length types))) o) (sym goes)
      (subst (λ (o : Option After). ThrowsAlike p outer s m.room o (Some y.state)) (sym (made_after m class (length types) (fits t class m.frames)))
      (subst (λ n. ThrowsAlike p outer s m.room (only_if (nat_le (used (done p t outer tells nested (with_entry m (fresh (object_shape class (length types)))) class (1 + n) (fits t class m.frames)).memory) m.room) (done p t outer tells nested (with_entry m (fresh (object_shape class (length types)))) class (1 + n) (fits t class m.frames))) (Some y.state)) (sym number) answer))
