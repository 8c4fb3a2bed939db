-- The machine's new object and its constructor, beside the memory's.
use Rattle.std.proofs.Common.{◌≡◌, ℕ, zero, suc, ◌+◌, ◌-◌, ◌<◌, ◌≤◌, Bool, true, false, List, [], ◌∷◌, ◌++◌, map, length, Option, Some, None, refl, sym, ap, ◌∙◌, subst, arith}
use Rattle.std.specs.Prelude.{slice_get, slice_index, is_some}
use Rattle.std.proofs.lemmas.Bool.{leb-true, leb-false}
use Rattle.board_types.specs.declared.value.Value.{Value as RamValue}
use Rattle.board_types.specs.declared.value.Value.TheVariants.{Ref}
use Rattle.machine.specs.Data.{Id, CliType, end_of, thing_size, PlaceType, Value, Object, Thing, Instance, Frame, State}
use Rattle.machine.specs.Program.{Program, Method, Code, Missing}
use Rattle.machine.specs.Numbers.{zero_of}
use Rattle.machine.specs.Throw.{on_some}
use Rattle.machine.specs.Rows.{Taken, take_arguments, keep_all, frames_cells}
use Rattle.machine.specs.Calls.{start_frame, construct, new_object, starts}
use Rattle.ram_words.specs.declared.elements.ElementKind.TheVariants.{Number, Reference}
use Rattle.kept_values.specs.declared.keeping.PlaceKind.{PlaceKind}
use Rattle.kept_values.specs.declared.keeping.PlaceKind.TheVariants as kind
use Rattle.kept_values.specs.Keeping.{kept_as}
use Rattle.tiny_ram.specs.Things.{Entry, entry_cells, fresh, object_shape}
use Rattle.tiny_ram.specs.Memory.{RamFrame, Memory, heap_cells, variables, fresh_frame, frame_cells, used, with_entry, with_frames, pushed}
use Rattle.tiny_ram.specs.Memory as ram
use Rattle.tiny_ram.specs.declared.memory.Ram.{Ram}
use Rattle.memory_states.specs.Values.{id_of, IsValue, IsThing}
use Rattle.memory_states.specs.States.{AreFrames, IsMachineFrame, StandsFor}
use Rattle.memory_states.proofs.Frames.{value_over, pushed_is, stack_size}
use Rattle.memory_states.proofs.Heaps.{size_is, sizes_are, things_more, made_is, frame_more, frames_more, used_is}
use Rattle.step_ends.specs.Ends.{GoesOn, LacksCells, Ends}
use Rattle.step_ends.specs.declared.acted.Acted.{Acted}
use Rattle.step_ends.specs.declared.acted.Acted.TheVariants as acted
use Rattle.step_calls.specs.declared.callee.Callee.{Callee}
use Rattle.step_calls.specs.declared.arguments.Given.{Given}
use Rattle.step_calls.specs.Callees.{body_of, IsCallee, HasPlaces}
use Rattle.step_calls.specs.Arguments.{value_of, IsKeptAs, LacksKind, AllKept, IsGiven}
use Rattle.step_calls.specs.Starts.{lacks_room_in, EndsWithout, LacksFrame}
use Rattle.step_calls.proofs.Taking.{Taking, taking, too_few, KeptAll}
use Rattle.step_calls.proofs.Starting.{rest_is}
use Rattle.step_calls.proofs.Calling.{on_none, full, over, started, off_stack, lacking, keeping, new_is, frame_size}
use Rattle.step_constructors.specs.declared.making.Made.{Made}
use Rattle.step_constructors.specs.Made.{IsMade, behind_object, IsConstructed, Constructs}

no_items : {A : Type 0} (xs : List A) → length xs ≡ 0 → xs ≡ []
no_items [] e = refl
no_items (x ∷ xs) e = absurd (omega (arith, e))

end_more : (xs : List Thing) (x : Thing) → end_of (xs ++ x ∷ []) ≡ end_of xs + thing_size x
end_more [] x = omega arith
end_more (y ∷ xs) x = let rest = end_more xs x in omega (arith, rest)

-- every reference is of the same kinds
ref_none : (k : PlaceKind) (a b : ℕ) → kept_as k (Ref a) ≡ None → kept_as k (Ref b) ≡ None
ref_none (kind.Holds (Number integer)) a b e = refl
ref_none (kind.Holds Reference) a b e = absurd (cc e)
ref_none (kind.HoldsPointer wide) a b e = refl
ref_none kind.HoldsHandle a b e = refl
ref_none kind.Nothing a b e = refl

ref_some : (k : PlaceKind) (a b : ℕ) (w : RamValue) → kept_as k (Ref a) ≡ Some w → IsKeptAs k (Ref b)
ref_some (kind.Holds (Number integer)) a b w e = absurd (cc e)
ref_some (kind.Holds Reference) a b w e = record { value = Ref b; is = refl }
ref_some (kind.HoldsPointer wide) a b w e = absurd (cc e)
ref_some kind.HoldsHandle a b w e = absurd (cc e)
ref_some kind.Nothing a b w e = absurd (cc e)

other_lacks : (f : RamFrame) (kinds : ℕ → PlaceKind) (x : Given) (a b n : ℕ) → LacksKind f kinds (behind_object x a) n → LacksKind f kinds (behind_object x b) n
other_lacks f kinds x a b n h = record { index = h.index; within = h.within; none = by h.index h.none }
  where
    by : (i : ℕ) → kept_as (kinds i) (value_of f (behind_object x a) i) ≡ None → kept_as (kinds i) (value_of f (behind_object x b) i) ≡ None
    by zero e = ref_none (kinds 0) a b e
    by (suc i) e = e

other_kept : (f : RamFrame) (kinds : ℕ → PlaceKind) (x : Given) (a b n : ℕ) → AllKept f kinds (behind_object x a) n → AllKept f kinds (behind_object x b) n
other_kept f kinds x a b n h = λ i l. by i (h i l)
  where
    by : (i : ℕ) → IsKeptAs (kinds i) (value_of f (behind_object x a) i) → IsKeptAs (kinds i) (value_of f (behind_object x b) i)
    by zero q = ref_some (kinds 0) a b q.value q.is
    by (suc i) q = q

module _ (p : Program) (outer : Id → ℕ → ℕ → Bool) (m : Memory) (s : State) (f : RamFrame) (fs : List RamFrame) (g : Frame) (gs : List Frame) (h : StandsFor p outer m s) (e : m.frames ≡ f ∷ fs) (d : s.frames ≡ g ∷ gs) (k : IsMachineFrame p outer s.heap m.room f fs g gs) (below : AreFrames p outer s.heap m.room fs gs)
    (class id : Id) (made : Made) (mk : IsMade p class made) (c : Callee) (callee : IsCallee p id c) where
  after : State
  after = record s { heap = s.heap ++ Instance class (map zero_of mk.types) ∷ [] }

  size : slice_index c.sizes 0 ≡ length callee.of.arguments
  size = ap (λ (z : List ℕ). slice_index z 0) callee.sizes

  asked : new_object p s g gs class id ≡ on_some (take_arguments (length callee.of.arguments - 1) g.stack []) (λ t. on_some (keep_all callee.of.arguments (Object (end_of s.heap) ∷ t.arguments)) (λ a. construct p (record s { heap = s.heap ++ Instance class (map zero_of mk.types) ∷ [] }) g gs (Object (end_of s.heap) ∷ t.rest) id callee.of a callee.of.body))
  unfolding new_object
  asked =
      ap (λ (o : Option Method). on_some o (λ m. on_some (p.fields class) (λ types. on_some (take_arguments (length m.arguments - 1) g.stack []) (λ t. on_some (keep_all m.arguments (Object (end_of s.heap) ∷ t.arguments)) (λ a. construct p (record s { heap = s.heap ++ Instance class (map zero_of types) ∷ [] }) g gs (Object (end_of s.heap) ∷ t.rest) id m a m.body))))) callee.is
      ∙ ap (λ (o : Option (List CliType)). on_some o (λ types. on_some (take_arguments (length callee.of.arguments - 1) g.stack []) (λ t. on_some (keep_all callee.of.arguments (Object (end_of s.heap) ∷ t.arguments)) (λ a. construct p (record s { heap = s.heap ++ Instance class (map zero_of types) ∷ [] }) g gs (Object (end_of s.heap) ∷ t.rest) id callee.of a callee.of.body)))) mk.fields

  pub no_body : c.has_code ≡ false → new_object p s g gs class id ≡ None
  unfolding after
  no_body q =
      let body : callee.of.body ≡ Missing = callee.body ∙ ap body_of q in
      asked ∙ on_none (take_arguments (length callee.of.arguments - 1) g.stack []) (λ t. on_some (keep_all callee.of.arguments (Object (end_of s.heap) ∷ t.arguments)) (λ a. construct p after g gs (Object (end_of s.heap) ∷ t.rest) id callee.of a callee.of.body))
      (λ t. on_none (keep_all callee.of.arguments (Object (end_of s.heap) ∷ t.arguments)) (λ a. construct p after g gs (Object (end_of s.heap) ∷ t.rest) id callee.of a callee.of.body) (λ a. ap (construct p after g gs (Object (end_of s.heap) ∷ t.rest) id callee.of a) body))

  pub no_arguments : slice_index c.sizes 0 ≡ 0 → new_object p s g gs class id ≡ None
  unfolding after
  no_arguments q =
      let none = no_items callee.of.arguments (sym size ∙ q) in
      asked ∙ on_none (take_arguments (length callee.of.arguments - 1) g.stack []) (λ t. on_some (keep_all callee.of.arguments (Object (end_of s.heap) ∷ t.arguments)) (λ a. construct p after g gs (Object (end_of s.heap) ∷ t.rest) id callee.of a callee.of.body))
      (λ t. ap (λ (z : List PlaceType). on_some (keep_all z (Object (end_of s.heap) ∷ t.arguments)) (λ a. construct p after g gs (Object (end_of s.heap) ∷ t.rest) id callee.of a callee.of.body)) none)

  pub few : f.depth < slice_index c.sizes 0 - 1 → new_object p s g gs class id ≡ None
  unfolding after
  few l =
      let deep = k.depth in
      let many = size in
      asked ∙ ap (λ o. on_some o (λ (t : Taken Value). on_some (keep_all callee.of.arguments (Object (end_of s.heap) ∷ t.arguments)) (λ a. construct p after g gs (Object (end_of s.heap) ∷ t.rest) id callee.of a callee.of.body))) (too_few (length callee.of.arguments - 1) g.stack [] (omega (arith, l, deep, many)))

  module _ (code : c.has_code ≡ true) (some : 0 < slice_index c.sizes 0) (kinds : ℕ → PlaceKind) (places : HasPlaces p id kinds) (x : Given) (given : IsGiven m f (slice_index c.sizes 0 - 1) x) where
    with_code : callee.of.body ≡ Code
    with_code = callee.body ∙ ap body_of code

    off : Taking (length callee.of.arguments - 1) g.stack []
    off = let one = given.enough in let two = size in let three = k.depth in taking (length callee.of.arguments - 1) g.stack [] (omega (arith, one, two, three))

    left : x.below ≡ length off.rest
    left = let one = given.below in let two = size in let three = k.depth in let four = off.rest_count in omega (arith, one, two, three, four)

    all : List Value
    all = Object (end_of s.heap) ∷ off.arguments

    stack : List Value
    stack = Object (end_of s.heap) ∷ off.rest

    taken : new_object p s g gs class id ≡ on_some (keep_all callee.of.arguments (Object (end_of s.heap) ∷ off.arguments)) (λ a. construct p (record s { heap = s.heap ++ Instance class (map zero_of mk.types) ∷ [] }) g gs (Object (end_of s.heap) ∷ off.rest) id callee.of a callee.of.body)
    taken = asked ∙ ap (λ o. on_some o (λ (t : Taken Value). on_some (keep_all callee.of.arguments (Object (end_of s.heap) ∷ t.arguments)) (λ a. construct p (record s { heap = s.heap ++ Instance class (map zero_of mk.types) ∷ [] }) g gs (Object (end_of s.heap) ∷ t.rest) id callee.of a callee.of.body))) off.is

    not_started : ((a : List Value) → starts p after g gs (Object (end_of s.heap) ∷ off.rest) id callee.of a ≡ None) → new_object p s g gs class id ≡ None
    unfolding after
    not_started q = taken ∙ on_none (keep_all callee.of.arguments (Object (end_of s.heap) ∷ off.arguments)) (λ a. construct p (record s { heap = s.heap ++ Instance class (map zero_of mk.types) ∷ [] }) g gs (Object (end_of s.heap) ∷ off.rest) id callee.of a callee.of.body) (λ a. ap (construct p (record s { heap = s.heap ++ Instance class (map zero_of mk.types) ∷ [] }) g gs (Object (end_of s.heap) ∷ off.rest) id callee.of a) with_code ∙ q a)

    pub no_place : lacks_room_in f true x.below ≡ true → new_object p s g gs class id ≡ None
    no_place q =
        let most = leb-true (slice_index f.sizes 2) x.below q in
        let max = stack_size p outer s.heap m.room f fs g gs k in
        let rest = left in
        not_started (λ a. over p after g gs 0 id callee.of callee.is (Object (end_of s.heap) ∷ off.rest) k.of k.is a (omega (arith, most, max, rest)))

    pub crowded : lacks_room_in f c.gives (x.below + 1) ≡ true → new_object p s g gs class id ≡ None
    crowded q = by c.gives refl q
      where
        by : (b : Bool) → c.gives ≡ b → lacks_room_in f b (x.below + 1) ≡ true → new_object p s g gs class id ≡ None
        by false w z = absurd (cc z)
        by true w z =
            let most = leb-true (slice_index f.sizes 2) (x.below + 1) z in
            let max = stack_size p outer s.heap m.room f fs g gs k in
            let rest = left in
            not_started (λ a. full p after g gs 0 id callee.of callee.is (Object (end_of s.heap) ∷ off.rest) k.of k.is a (sym callee.gives ∙ w) (omega (arith, most, max, rest)))

    count : length (Object (end_of s.heap) ∷ off.arguments) ≡ length callee.of.arguments
    count = let own = off.count in let many = size in omega (arith, own, many, some)

    value_at : (i : ℕ) (v : Value) → i < length callee.of.arguments → slice_get (Object (end_of s.heap) ∷ off.arguments) i ≡ Some v → IsValue m.room (f ∷ fs) (value_of f (behind_object x (1 + end_of s.heap)) i) v
    value_at zero v l q = let is : Object (end_of s.heap) ≡ v = cc q in subst (λ (z : Value). IsValue m.room (f ∷ fs) (Ref (1 + end_of s.heap)) z) is refl
    value_at (suc i) v l q =
        let many = size in
        off_stack p outer s.heap m.room f fs g gs k (length callee.of.arguments - 1) (slice_index c.sizes 0 - 1) x.first off given.first given.enough (ap (λ n. n - 1) many) i v (omega (arith, l)) q

    pub stuck : LacksKind f kinds (behind_object x (1 + end_of s.heap)) (slice_index c.sizes 0) → new_object p s g gs class id ≡ None
    stuck lacks =
        taken ∙ ap (λ o. on_some o (λ a. construct p (record s { heap = s.heap ++ Instance class (map zero_of mk.types) ∷ [] }) g gs (Object (end_of s.heap) ∷ off.rest) id callee.of a callee.of.body))
        (lacking p m.room f fs id callee.of callee.is kinds places (behind_object x (1 + end_of s.heap)) (slice_index c.sizes 0) size (Object (end_of s.heap) ∷ off.arguments) count value_at lacks)

    kept_there : (all : AllKept f kinds (behind_object x (1 + end_of s.heap)) (slice_index c.sizes 0)) → KeptAll (λ i w. (l : i < slice_index c.sizes 0) → IsValue m.room (f ∷ fs) (all i l).value w) callee.of.arguments (Object (end_of s.heap) ∷ off.arguments)
    kept_there = keeping p m.room f fs id callee.of callee.is kinds places (behind_object x (1 + end_of s.heap)) (slice_index c.sizes 0) size (Object (end_of s.heap) ∷ off.arguments) count value_at

    -- ---- the object

    entry : Entry
    entry = fresh (object_shape made.class made.fields)

    thing_is : IsThing p m.room (fresh (object_shape made.class made.fields)) (Instance class (map zero_of mk.types))
    thing_is =
        subst (λ (z : Id). IsThing p m.room (fresh (object_shape made.class made.fields)) (Instance z (map zero_of mk.types))) mk.is
        (subst (λ n. IsThing p m.room (fresh (object_shape made.class n)) (Instance (id_of made.class) (map zero_of mk.types))) (sym mk.count)
        (made_is p m.room made.class mk.types (ap p.fields mk.is ∙ mk.fields)))

    stands : StandsFor p outer (with_entry m (fresh (object_shape made.class made.fields))) (record s { heap = s.heap ++ Instance class (map zero_of mk.types) ∷ [] })
    stands = record {
      heap = things_more p m.room m.heap s.heap (fresh (object_shape made.class made.fields)) (Instance class (map zero_of mk.types)) h.heap thing_is;
      frames = frames_more p outer s.heap (Instance class (map zero_of mk.types) ∷ []) m.room m.frames s.frames h.frames;
    }

    module _ (one : lacks_room_in f true x.below ≡ false) (two : lacks_room_in f c.gives (x.below + 1) ≡ false) where
      low : x.below < slice_index f.sizes 2
      low = leb-false (slice_index f.sizes 2) x.below one

      fits_stack : length (Object (end_of s.heap) ∷ off.rest) ≤ k.of.max_stack
      fits_stack = let less = low in let max = stack_size p outer s.heap m.room f fs g gs k in let rest = left in omega (arith, less, max, rest)

      roomy : is_some callee.of.returns ≡ true → length (Object (end_of s.heap) ∷ off.rest) < k.of.max_stack
      roomy q =
          let gives : c.gives ≡ true = callee.gives ∙ q in
          let less = leb-false (slice_index f.sizes 2) (x.below + 1) (sym (ap (λ b. lacks_room_in f b (x.below + 1)) gives) ∙ two) in
          let max = stack_size p outer s.heap m.room f fs g gs k in
          let rest = left in
          omega (arith, less, max, rest)

      begun : (a : List Value) → keep_all callee.of.arguments (Object (end_of s.heap) ∷ off.arguments) ≡ Some a → new_object p s g gs class id ≡ Some (record s { heap = s.heap ++ Instance class (map zero_of mk.types) ∷ []; frames = start_frame false id callee.of a ∷ record g { stack = Object (end_of s.heap) ∷ off.rest } ∷ gs })
      begun a q =
          let t : State = record s { heap = s.heap ++ Instance class (map zero_of mk.types) ∷ [] } in
          taken ∙ ap (λ o. on_some o (λ a. construct p t g gs (Object (end_of s.heap) ∷ off.rest) id callee.of a callee.of.body)) q
          ∙ ap (construct p t g gs (Object (end_of s.heap) ∷ off.rest) id callee.of a) with_code
          ∙ started p t g gs 0 id callee.of callee.is (Object (end_of s.heap) ∷ off.rest) k.of k.is a roomy fits_stack

      -- the object's cells don't do
      pub spent : AllKept f kinds (behind_object x (1 + end_of s.heap)) (slice_index c.sizes 0) → m.room < used m + entry_cells (fresh (object_shape made.class made.fields)) → LacksCells p outer m.room (new_object p s g gs class id)
      spent kept l =
          let r = kept_there kept in
          let in_use = used_is p outer m s h in
          let same = size_is p m.room (fresh (object_shape made.class made.fields)) (Instance class (map zero_of mk.types)) thing_is in
          let more = end_more s.heap (Instance class (map zero_of mk.types)) in
          let old = ap (frames_cells p) d in
          record {
            state = record s { heap = s.heap ++ Instance class (map zero_of mk.types) ∷ []; frames = start_frame false id callee.of r.values ∷ record g { stack = Object (end_of s.heap) ∷ off.rest } ∷ gs };
            is = begun r.values r.is;
            more = omega (arith, l, in_use, same, more, old);
          }

      -- the frame's cells don't do
      spent_frame : LacksFrame (with_entry m (fresh (object_shape made.class made.fields))) f c kinds (behind_object x (1 + end_of s.heap)) → LacksCells p outer m.room (new_object p s g gs class id)
      spent_frame lacks =
          let r = kept_there lacks.kept in
          let in_use = used_is p outer (with_entry m (fresh (object_shape made.class made.fields))) (record s { heap = s.heap ++ Instance class (map zero_of mk.types) ∷ [] }) stands in
          let same = frame_size p id c callee in
          let old = ap (frames_cells p) d in
          let more = lacks.more in
          record {
            state = record s { heap = s.heap ++ Instance class (map zero_of mk.types) ∷ []; frames = start_frame false id callee.of r.values ∷ record g { stack = Object (end_of s.heap) ∷ off.rest } ∷ gs };
            is = begun r.values r.is;
            more = omega (arith, more, in_use, same, old);
          }

      done : (u : Ram) → IsConstructed u (with_entry m (fresh (object_shape made.class made.fields))) f fs c kinds x (1 + end_of s.heap) → GoesOn p outer s u m.room (new_object p s g gs class id)
      done u st =
          let t : State = record s { heap = s.heap ++ Instance class (map zero_of mk.types) ∷ [] } in
          let w : Memory = with_entry m (fresh (object_shape made.class made.fields)) in
          let z : RamFrame = pushed (record f { depth = x.below }) (Ref (1 + end_of s.heap)) in
          let r = kept_there (λ i l. (st.each i l).kept) in
          let many = size in
          let less = given.below in
          let room = low in
          let max = stack_size p outer s.heap m.room f fs g gs k in
          let rest = left in
          let fits = st.fits in
          let frames = ap ram.frames_cells e in
          let mine = frame_more p outer s.heap (Instance class (map zero_of mk.types) ∷ []) m.room f fs g gs k in
          let lower = rest_is p outer t.heap m.room f fs g gs mine (length callee.of.arguments - 1) x.below off.rest off.rest_at off.rest_count (omega (arith, less, many)) in
          let caller = pushed_is p outer t.heap m.room (record f { depth = x.below }) fs (record g { stack = off.rest }) gs lower (Ref (1 + end_of s.heap)) (Object (end_of s.heap)) refl (omega (arith, room, max, rest)) in
          let others = frames_more p outer s.heap (Instance class (map zero_of mk.types) ∷ []) m.room fs gs below in
          let new = new_is p outer t.heap w f z fs (record g { stack = Object (end_of s.heap) ∷ off.rest }) gs id c callee kinds (behind_object x (1 + end_of s.heap)) (λ v q y. value_over m.room f fs z.places f.place z.depth v q y) (omega (arith, fits, frames)) st.places st.count st.each st.others (Object (end_of s.heap) ∷ off.arguments) r in
          record {
            state = record s { heap = s.heap ++ Instance class (map zero_of mk.types) ∷ []; frames = start_frame false id callee.of r.values ∷ record g { stack = Object (end_of s.heap) ∷ off.rest } ∷ gs };
            is = begun r.values r.is;
            end = refl;
            memory = with_frames w (record (fresh_frame c.method c.sizes) { places = st.places } ∷ z ∷ fs);
            kept = st.keeps;
            alike = record { heap = stands.heap; frames = (new, (caller, others)) };
            same_room = refl;
          }

      pub ends : (u : Ram) (object : ℕ) → object ≡ 1 + heap_cells m.heap → (a : Acted) → Constructs u (with_entry m (fresh (object_shape made.class made.fields))) f fs c kinds x object a → Ends p outer m s u (new_object p s g gs class id) a
      ends u object number a st = by a (subst (λ n. Constructs u (with_entry m (fresh (object_shape made.class made.fields))) f fs c kinds x n a) (number ∙ ap (λ n. 1 + n) (sizes_are p m.room m.heap s.heap h.heap)) st)
        where
          by : (a : Acted) → Constructs u (with_entry m (fresh (object_shape made.class made.fields))) f fs c kinds x (1 + end_of s.heap) a → Ends p outer m s u (new_object p s g gs class id) a
          by acted.Done st = done u st
          by acted.Stuck lacks = stuck lacks
          by acted.Spent lacks = spent_frame lacks
          by (acted.Raises known) w = absurd w

      pub without : (u : Ram) (a : Acted) → EndsWithout f kinds (behind_object x 1) (slice_index c.sizes 0) a → m.room < used m + entry_cells (fresh (object_shape made.class made.fields)) → Ends p outer m s u (new_object p s g gs class id) a
      without u acted.Done w l = absurd w
      without u acted.Stuck lacks l = stuck (other_lacks f kinds x 1 (1 + end_of s.heap) (slice_index c.sizes 0) lacks)
      without u acted.Spent kept l = spent (other_kept f kinds x 1 (1 + end_of s.heap) (slice_index c.sizes 0) kept) l
      without u (acted.Raises known) w l = absurd w
