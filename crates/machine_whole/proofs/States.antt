-- Whole states, and what goes on from them.
use Rattle.std.proofs.Common.{◌≡◌, ⊎_elim, ℕ, suc, Bool, true, false, List, [], ◌∷◌, ◌++◌, map, length, Option, Some, None, refl, sym, ap, ◌∙◌, subst}
use Rattle.std.specs.Prelude.{if◌then◌else◌, nat_le, slice_get, slice_set}
use Rattle.std.proofs.lemmas.Bool.{leb-true}
use Rattle.std.proofs.Math.ListN.{length-set}
use Rattle.board_types.specs.declared.board.Known.{Known}
use Rattle.board_types.specs.declared.board.Known.TheVariants.{NullReference}
use Rattle.machine.specs.Data.{Id, CliType, thing_at, put_thing, end_of, Value, Int, Long, Null, Object, Handle, Pointer, Thing, Instance, Text, Elements, Boxed, StaticCell, Turn, Finally, EndFrame, Slot, Nothing, Caught, Throwing, Leaving, Frame, State}
use Rattle.machine.specs.Program.{Program, Method}
use Rattle.machine.specs.Numbers.{zero_of, Answer, Gives, Raises, NoCase}
use Rattle.machine.specs.Throw.{on_some, goes, Route, search_frames, enter_clause, follow, taken, throw, raise, leave, take_up, thrown_class, throw_thing, throw_exception, throw_value, throw_again}
use Rattle.machine.specs.Rows.{on_top, answered, or_raise, on_thing_or, on_instance, on_elements}
use Rattle.machine_whole.specs.Whole.{OfClass, OfText, OfStatic, mould_of, Context, over, Names, AllName, IsInstance, SlotNames, SlotsName, FrameWhole, FramesWhole, ThingWhole, Stored, Whole}
use Rattle.machine_whole.proofs.Heaps.{Extends, grows, puts, put_either, get_either, get_seam, mould_there, some_same}
use Rattle.machine_whole.proofs.Named.{names_more, all_more, slots_more, slot_at, slots_set, reach, zeros_name, AnswerNames}

pub length-map : {A B : Type 0} (g : A → B) (xs : List A) → length (map g xs) ≡ length xs
length-map g [] = refl
length-map g (x ∷ xs) = ap suc (length-map g xs)

pub instance_of : (x : Thing) (c : Id) → thrown_class x ≡ Some c → (vs : List Value) × (x ≡ Instance c vs)
instance_of (Instance class vs) c e = (vs, ap (λ z. Instance z vs) (some_same class c e))
instance_of (Text units) c e = absurd (cc e)
instance_of (Elements element vs) c e = absurd (cc e)
instance_of (Boxed type v) c e = absurd (cc e)
instance_of (StaticCell type v) c e = absurd (cc e)

module _ (fields frames : Bool) (p : Program) where
  -- ---- what stays where things keep their moulds

  module _ (old new : List Thing) (x : Extends old new) where
    pub thing_more : (y : Thing) → ThingWhole fields frames p old y → ThingWhole fields frames p new y
    thing_more (Instance class vs) h = (all_more fields frames p (over old []) (over new []) (reach fields frames p old new x []) vs h.0, h.1)
    thing_more (Text units) h = tt
    thing_more (Elements element vs) h = all_more fields frames p (over old []) (over new []) (reach fields frames p old new x []) vs h
    thing_more (Boxed type v) h = names_more fields frames p (over old []) (over new []) (reach fields frames p old new x []) v h
    thing_more (StaticCell type v) h = names_more fields frames p (over old []) (over new []) (reach fields frames p old new x []) v h

    pub frame_more : (f : Frame) (fs : List Frame) → FrameWhole fields frames p old f fs → FrameWhole fields frames p new f fs
    frame_more f fs h =
        let r = reach fields frames p old new x (f ∷ fs) in
        record {
          of = h.of;
          is = h.is;
          arguments = all_more fields frames p (over old (f ∷ fs)) (over new (f ∷ fs)) r f.arguments h.arguments;
          locals = all_more fields frames p (over old (f ∷ fs)) (over new (f ∷ fs)) r f.locals h.locals;
          stack = all_more fields frames p (over old (f ∷ fs)) (over new (f ∷ fs)) r f.stack h.stack;
          slots = slots_more fields frames p old new x f.slots h.slots;
          argument_count = h.argument_count;
          local_count = h.local_count;
          slot_count = h.slot_count;
          depth = h.depth;
        }

    pub frames_more : (fs : List Frame) → FramesWhole fields frames p old fs → FramesWhole fields frames p new fs
    frames_more [] h = tt
    frames_more (f ∷ fs) h = (frame_more f fs h.0, frames_more fs h.1)

  -- the state in the middle of a step: the frame f stands over the callers
  pub record Now (s : State) (f : Frame) (fs : List Frame) : Type 0 where
    pub stored : Stored fields frames p s
    pub top : FrameWhole fields frames p s.heap f fs
    pub callers : FramesWhole fields frames p s.heap fs

  pub now_of : (s : State) (f : Frame) (fs : List Frame) → Whole fields frames p s → s.frames ≡ f ∷ fs → Now s f fs
  now_of s f fs w e = let h = subst (FramesWhole fields frames p s.heap) e w.stack in record { stored = w.stored; top = h.0; callers = h.1 }

  stored_grown : (s : State) → Stored fields frames p s → (x : Thing) → ThingWhole fields frames p (s.heap ++ x ∷ []) x → Stored fields frames p (record s { heap = s.heap ++ x ∷ [] })
  stored_grown s st x h =
      let heap : List Thing = s.heap ++ x ∷ [] in
      let more = grows s.heap x in
      record {
        things = λ i y e. ⊎_elim (λ o. thing_more s.heap heap more y (st.things i y o)) (λ o. subst (ThingWhole fields frames p heap) (sym o) h) (get_either s.heap x i y e);
        statics = λ g i k e o. more.keeps i (OfStatic k) (st.statics g i k e o);
        literals = λ units i e. let y = st.literals units i e in (y.0, more.keeps i (OfText y.0) y.1);
      }

  -- a new thing
  pub now_grown : (s : State) (f : Frame) (fs : List Frame) → Now s f fs → (x : Thing) → ThingWhole fields frames p (s.heap ++ x ∷ []) x → Now (record s { heap = s.heap ++ x ∷ [] }) f fs
  now_grown s f fs n x h =
      let heap : List Thing = s.heap ++ x ∷ [] in
      let more = grows s.heap x in
      record {
        stored = stored_grown s n.stored x h;
        top = frame_more s.heap heap more f fs n.top;
        callers = frames_more s.heap heap more fs n.callers;
      }

  -- a thing of the same mould
  pub now_put : (s : State) (f : Frame) (fs : List Frame) → Now s f fs → (object : ℕ) (x y : Thing) → thing_at s.heap object ≡ Some x → mould_of y ≡ mould_of x → ThingWhole fields frames p s.heap y → Now (record s { heap = put_thing s.heap object y }) f fs
  now_put s f fs n object x y ex same h =
      let heap : List Thing = put_thing s.heap object y in
      let more = puts s.heap object x y ex same in
      record {
        stored = record {
          things = λ i z e. ⊎_elim (λ o. thing_more s.heap heap more z (n.stored.things i z o)) (λ o. subst (ThingWhole fields frames p heap) (sym o) (thing_more s.heap heap more y h)) (put_either s.heap object x y ex same i z e);
          statics = λ g i k e o. more.keeps i (OfStatic k) (n.stored.statics g i k e o);
          literals = λ units i e. let z = n.stored.literals units i e in (z.0, more.keeps i (OfText z.0) z.1);
        };
        top = frame_more s.heap heap more f fs n.top;
        callers = frames_more s.heap heap more fs n.callers;
      }

  -- ---- outcomes

  abbrev pub Fine : Option State → Type 0
  Fine None = Unit {0}
  Fine (Some s) = Whole fields frames p s

  pub fine_some : {A : Type 0} (o : Option A) (k : A → Option State) → ((x : A) → o ≡ Some x → Fine (k x)) → Fine (on_some o k)
  fine_some None k g = tt
  fine_some (Some x) k g = g x refl

  pub fine_if : (b : Bool) (x y : Option State) → (b ≡ true → Fine x) → (b ≡ false → Fine y) → Fine (if b then x else y)
  fine_if true x y g h = g refl
  fine_if false x y g h = h refl

  pub fine_top : (cx : Context) (vs : List Value) (k : Value → List Value → Option State) → AllName fields frames p cx vs → ((v : Value) (rest : List Value) → Names fields frames p cx v → AllName fields frames p cx rest → Fine (k v rest)) → Fine (on_top vs k)
  fine_top cx [] k h g = tt
  fine_top cx (v ∷ vs) k h g = g v vs h.0 h.1

  -- the frame goes on
  pub goes_fine : (s : State) (f : Frame) (fs : List Frame) → Now s f fs → (place : ℕ) (stack : List Value) → AllName fields frames p (over s.heap (f ∷ fs)) stack → Fine (goes p s f fs place stack)
  unfolding goes
  goes_fine s f fs n place stack h =
      fine_some (p.method f.method) _ (λ m is.
      let same = some_same n.top.of m (sym n.top.is ∙ is) in
      fine_if (nat_le (length stack) m.max_stack) (Some (record s { frames = record f { place = place; stack = stack } ∷ fs })) None (λ e.
      record {
        stored = record { things = n.stored.things; statics = n.stored.statics; literals = n.stored.literals };
        stack = (
          record {
            of = m;
            is = is;
            arguments = n.top.arguments;
            locals = n.top.locals;
            stack = h;
            slots = n.top.slots;
            argument_count = n.top.argument_count ∙ ap (λ (m : Method). length m.arguments) same;
            local_count = n.top.local_count ∙ ap (λ (m : Method). length m.locals) same;
            slot_count = n.top.slot_count ∙ ap (λ (m : Method). length m.clauses) same;
            depth = leb-true (length stack) m.max_stack e;
          },
          n.callers,
        );
      }) (λ e. tt))

  -- ---- exceptions

  enter_fine : (s : State) (f : Frame) (fs : List Frame) → Now s f fs → (k : ℕ) (stack : List Value) (slot : Slot) → AllName fields frames p (over s.heap (f ∷ fs)) stack → SlotNames fields frames p s.heap slot → Fine (enter_clause p s f fs k stack slot)
  unfolding enter_clause
  enter_fine s f fs n k stack slot h g =
      fine_some (p.method f.method) _ (λ m is.
      fine_some (slice_get m.clauses k) _ (λ c e.
      goes_fine s (record f { slots = slice_set f.slots k slot }) fs
      (record {
        stored = n.stored;
        top = record {
          of = n.top.of;
          is = n.top.is;
          arguments = n.top.arguments;
          locals = n.top.locals;
          stack = n.top.stack;
          slots = slots_set fields frames p s.heap f.slots k slot n.top.slots g;
          argument_count = n.top.argument_count;
          local_count = n.top.local_count;
          slot_count = length-set f.slots k slot ∙ n.top.slot_count;
          depth = n.top.depth;
        };
        callers = n.callers;
      })
      c.start stack h))

  object_names : (cx : Context) (object : ℕ) → IsInstance fields frames p cx.heap object → Names fields frames p cx (Object object)
  object_names cx object i = record { mould = OfClass i.class i.count; at = i.at }

  follow_fine : (s : State) → Stored fields frames p s → (fs : List Frame) → FramesWhole fields frames p s.heap fs → (turns : List Turn) (catch object : ℕ) → IsInstance fields frames p s.heap object → Fine (follow p s fs turns catch object)
  follow_fine s st [] h turns catch object i = tt
  follow_fine s st (f ∷ fs) h [] catch object i = enter_fine s f fs (record { stored = st; top = h.0; callers = h.1 }) catch (Object object ∷ []) (Caught object) (object_names (over s.heap (f ∷ fs)) object i, tt) i
  follow_fine s st (f ∷ fs) h (Finally k ∷ turns) catch object i = enter_fine s f fs (record { stored = st; top = h.0; callers = h.1 }) k [] (Throwing turns catch object) tt i
  follow_fine s st (f ∷ fs) h (EndFrame ∷ turns) catch object i = follow_fine s st fs h.1 turns catch object i

  taken_fine : (s : State) → Whole fields frames p s → (class : Id) (object : ℕ) → IsInstance fields frames p s.heap object → (r : Option Route) → Fine (taken p s class object r)
  taken_fine s w class object i None = record { stored = record { things = w.stored.things; statics = w.stored.statics; literals = w.stored.literals }; stack = w.stack }
  taken_fine s w class object i (Some r) = follow_fine s w.stored s.frames w.stack r.turns r.catch object i

  throw_fine : (s : State) → Whole fields frames p s → (class : Id) (object : ℕ) → IsInstance fields frames p s.heap object → Fine (throw p s class object)
  unfolding throw
  throw_fine s w class object i = taken_fine s w class object i (search_frames p class s.frames)

  pub zeros_thing : (heap : List Thing) (class : Id) (types : List CliType) → p.fields class ≡ Some types → ThingWhole fields frames p heap (Instance class (map zero_of types))
  zeros_thing heap class types e = (zeros_name fields frames p (over heap []) types, record { types = types; is = e; count = length-map zero_of types })

  pub raise_fine : (s : State) → Whole fields frames p s → (known : Known) → Fine (raise p s known)
  unfolding raise
  raise_fine s w known =
      fine_some (p.known known) _ (λ class e.
      fine_some (p.fields class) _ (λ kinds is.
      let x : Thing = Instance class (map zero_of kinds) in
      let heap : List Thing = s.heap ++ x ∷ [] in
      throw_fine (record s { heap = heap })
      (record { stored = stored_grown s w.stored x (zeros_thing heap class kinds is); stack = frames_more s.heap heap (grows s.heap x) s.frames w.stack })
      class (end_of s.heap)
      (record { class = class; count = length (map zero_of kinds); at = mould_there heap (end_of s.heap) x (get_seam s.heap x) })))

  thing_instance : (heap : List Thing) (object : ℕ) (x : Thing) (c : Id) → thing_at heap object ≡ Some x → thrown_class x ≡ Some c → IsInstance fields frames p heap object
  thing_instance heap object x c e k =
      let y = instance_of x c k in
      record { class = c; count = length y.0; at = mould_there heap object x e ∙ ap (λ z. Some (mould_of z)) y.1 }

  throw_thing_fine : (s : State) → Whole fields frames p s → (object : ℕ) → Fine (throw_thing p s object)
  unfolding throw_thing
  throw_thing_fine s w object =
      fine_some (thing_at s.heap object) _ (λ x e.
      fine_some (thrown_class x) _ (λ c k. throw_fine s w c object (thing_instance s.heap object x c e k)))

  throw_exception_fine : (s : State) → Whole fields frames p s → (object : ℕ) → Fine (throw_exception p s object)
  unfolding throw_exception
  throw_exception_fine s w object =
      fine_some (thing_at s.heap object) _ (λ x e.
      fine_some (thrown_class x) _ (λ c k.
      fine_some p.exception _ (λ top t.
      fine_if (p.is_sub c top) (throw p s c object) None (λ b. throw_fine s w c object (thing_instance s.heap object x c e k)) (λ b. tt))))

  pub throw_value_fine : (s : State) → Whole fields frames p s → (v : Value) → Fine (throw_value p s v)
  throw_value_fine s w (Object n) = throw_exception_fine s w n
  throw_value_fine s w Null = raise_fine s w NullReference
  throw_value_fine s w (Int n) = tt
  throw_value_fine s w (Long n) = tt
  throw_value_fine s w (Handle h) = tt
  throw_value_fine s w (Pointer c x) = tt

  pub throw_again_fine : (s : State) → Whole fields frames p s → (slot : Option Slot) → Fine (throw_again p s slot)
  throw_again_fine s w (Some (Caught object)) = throw_thing_fine s w object
  throw_again_fine s w (Some (Throwing turns catch object)) = tt
  throw_again_fine s w (Some (Leaving finals target)) = tt
  throw_again_fine s w (Some Nothing) = tt
  throw_again_fine s w None = tt

  pub leave_fine : (s : State) (f : Frame) (fs : List Frame) → Now s f fs → (ks : List ℕ) (target : ℕ) → Fine (leave p s f fs ks target)
  leave_fine s f fs n [] target = goes_fine s f fs n target [] tt
  leave_fine s f fs n (k ∷ ks) target = enter_fine s f fs n k [] (Leaving ks target) tt tt

  abbrev SlotOption : List Thing → Option Slot → Type 0
  SlotOption heap None = Unit {0}
  SlotOption heap (Some slot) = SlotNames fields frames p heap slot

  slot_option : (heap : List Thing) (xs : List Slot) (k : ℕ) (o : Option Slot) → SlotsName fields frames p heap xs → slice_get xs k ≡ o → SlotOption heap o
  slot_option heap xs k None h e = tt
  slot_option heap xs k (Some slot) h e = slot_at fields frames p heap xs k slot h e

  take_up_by : (s : State) (f : Frame) (fs : List Frame) → Now s f fs → (o : Option Slot) → SlotOption s.heap o → Fine (take_up p s f fs o)
  take_up_by s f fs n (Some (Throwing turns catch object)) h = follow_fine s n.stored (f ∷ fs) (n.top, n.callers) turns catch object h
  take_up_by s f fs n (Some (Leaving finals target)) h = leave_fine s f fs n finals target
  take_up_by s f fs n (Some Nothing) h = tt
  take_up_by s f fs n (Some (Caught object)) h = tt
  take_up_by s f fs n None h = tt

  pub take_up_fine : (s : State) (f : Frame) (fs : List Frame) → Now s f fs → (k : ℕ) → Fine (take_up p s f fs (slice_get f.slots k))
  take_up_fine s f fs n k = take_up_by s f fs n (slice_get f.slots k) (slot_option s.heap f.slots k (slice_get f.slots k) n.top.slots refl)

  -- ---- what rows are made of

  module _ (s : State) (w : Whole fields frames p s) where
    pub answered_fine : (f : Frame) (fs : List Frame) → Now s f fs → (next : ℕ) (rest : List Value) → AllName fields frames p (over s.heap (f ∷ fs)) rest → (o : Answer) → AnswerNames fields frames p (over s.heap (f ∷ fs)) o → Fine (answered p s f fs next rest o)
    answered_fine f fs n next rest h (Gives v) g = goes_fine s f fs n next (v ∷ rest) (g, h)
    answered_fine f fs n next rest h (Raises k) g = raise_fine s w k
    answered_fine f fs n next rest h NoCase g = tt

    pub or_raise_fine : {A : Type 0} (k : Known) (o : Option A) (go : A → Option State) → ((x : A) → o ≡ Some x → Fine (go x)) → Fine (or_raise p s k o go)
    or_raise_fine k None go h = raise_fine s w k
    or_raise_fine k (Some x) go h = h x refl

    pub thing_fine : (known : Known) (v : Value) (k : ℕ → Thing → Option State) → ((object : ℕ) (x : Thing) → thing_at s.heap object ≡ Some x → Fine (k object x)) → Fine (on_thing_or p s known v k)
    thing_fine known (Object n) k g = fine_some (thing_at s.heap n) (k n) (λ x e. g n x e)
    thing_fine known Null k g = raise_fine s w known
    thing_fine known (Int n) k g = tt
    thing_fine known (Long n) k g = tt
    thing_fine known (Handle h) k g = tt
    thing_fine known (Pointer c x) k g = tt

  pub instance_fine : (owner : Id) (x : Thing) (go : Id → List Value → Option State) → ((class : Id) (vs : List Value) → x ≡ Instance class vs → p.is_sub class owner ≡ true → Fine (go class vs)) → Fine (on_instance p owner x go)
  instance_fine owner (Instance class vs) go g = fine_if (p.is_sub class owner) (go class vs) None (λ e. g class vs refl e) (λ e. tt)
  instance_fine owner (Text units) go g = tt
  instance_fine owner (Elements element vs) go g = tt
  instance_fine owner (Boxed type v) go g = tt
  instance_fine owner (StaticCell type v) go g = tt

  pub elements_fine : (x : Thing) (go : CliType → List Value → Option State) → ((element : CliType) (vs : List Value) → x ≡ Elements element vs → Fine (go element vs)) → Fine (on_elements x go)
  elements_fine (Elements element vs) go g = g element vs refl
  elements_fine (Instance class vs) go g = tt
  elements_fine (Text units) go g = tt
  elements_fine (Boxed type v) go g = tt
  elements_fine (StaticCell type v) go g = tt
