-- The cells of objects never fall: what a step is made of.
use Rattle.std.proofs.Common.{◌≡◌, ℕ, ◌+◌, ◌-◌, ◌*◌, ◌/◌, ◌≤◌, Bool, true, false, List, [], ◌∷◌, ◌++◌, map, length, Option, Some, None, refl, sym, ap, ◌∙◌, subst, arith}
use Rattle.std.specs.Prelude.{if◌then◌else◌, ◌==◌, nat_le, nat_lt, slice_get, slice_set}
use Rattle.std.proofs.lemmas.List.{length-set}
use Rattle.board_types.specs.declared.board.Known.{Known}
use Rattle.board_types.specs.declared.board.Known.TheVariants.{NullReference}
use Rattle.machine.specs.Data.{Id, thing_size, end_of, thing_at, put_thing, CliType, Cell, cell_of, element_bytes, Spot, InArgument, InLocal, InObject, Value, Int, Long, Null, Object, Handle, Pointer, Thing, Instance, Text, Elements, Boxed, StaticCell, Turn, Finally, EndFrame, Slot, Nothing, Caught, Throwing, Leaving, Frame, State}
use Rattle.machine.specs.Program.{Program}
use Rattle.machine.specs.Numbers.{Answer, Gives, Raises, NoCase, zero_of, same_width}
use Rattle.machine.specs.Throw.{on_some, goes, Route, enter_clause, follow, taken, throw, raise, leave, take_up, thrown_class, throw_thing, throw_value, throw_again, search_frames, throw_exception}
use Rattle.machine.specs.Rows.{on_top, on_two, on_three, answered, or_raise, on_thing_or, on_thing, on_instance, on_elements, on_cell, frame_at, frames_cells, with_value, Written, write, on_pointer}

pub end_of-append : (xs : List Thing) (x : Thing) → end_of xs ≤ end_of (xs ++ x ∷ [])
end_of-append [] x = omega arith
end_of-append (y ∷ ys) x = let h = end_of-append ys x in omega arith

-- an object is replaced by one of its size
pub end_of-put : (xs : List Thing) (n : ℕ) (x y : Thing) → thing_at xs n ≡ Some x → thing_size y ≡ thing_size x → end_of (put_thing xs n y) ≡ end_of xs
end_of-put [] n x y e h = refl
end_of-put (z ∷ zs) n x y e h = at (n == 0) (nat_lt n (thing_size z)) (λ q. end_of-put zs (n - thing_size z) x y q h) e
  where
    at : (b c : Bool) → (thing_at zs (n - thing_size z) ≡ Some x → end_of (put_thing zs (n - thing_size z) y) ≡ end_of zs) → (if b then Some z else (if c then None else thing_at zs (n - thing_size z))) ≡ Some x → end_of (if b then y ∷ zs else (if c then z ∷ zs else z ∷ put_thing zs (n - thing_size z) y)) ≡ thing_size z + end_of zs
    at true c rest e = let q : z ≡ x = cc e in ap (λ k. k + end_of zs) (h ∙ ap thing_size (sym q))
    at false true rest e = absurd (cc e)
    at false false rest e = ap (λ k. thing_size z + k) (rest e)

-- a value in an object is changed
pub with_value_size : (x : Thing) (n : ℕ) (v : Value) → thing_size (with_value x n v) ≡ thing_size x
with_value_size (Instance class fields) n v = ap (λ k. 1 + k) (length-set fields n v)
with_value_size (Elements element values) n v = ap (λ k. 1 + (k * element_bytes (cell_of element) + 11) / 12) (length-set values n v)
with_value_size (Boxed type value) n v = refl
with_value_size (StaticCell type value) n v = refl
with_value_size (Text units) n v = refl

-- an array of as many elements
pub elements_size : (t : CliType) (vs ws : List Value) → length ws ≡ length vs → thing_size (Elements t ws) ≡ thing_size (Elements t vs)
elements_size t vs ws h = ap (λ k. 1 + (k * element_bytes (cell_of t) + 11) / 12) h

-- whatever state comes has objects of n cells or more
abbrev pub Grows : ℕ → Option State → Type 0
Grows n o = (t : State) → o ≡ Some t → n ≤ end_of t.heap

module _ (n : ℕ) where
  pub none_grows : Grows n None
  none_grows t e = absurd (cc e)

  pub state_grows : (s : State) → n ≤ end_of s.heap → Grows n (Some s)
  state_grows s h t e = let q : s ≡ t = cc e in subst (λ (u : State). n ≤ end_of u.heap) q h

  pub some_grows : {A : Type 0} (o : Option A) (k : A → Option State) → ((x : A) → o ≡ Some x → Grows n (k x)) → Grows n (on_some o k)
  some_grows None k h t e = absurd (cc e)
  some_grows (Some x) k h t e = h x refl t e

  pub if_grows : (b : Bool) (x y : Option State) → (b ≡ true → Grows n x) → (b ≡ false → Grows n y) → Grows n (if b then x else y)
  if_grows true x y p q = p refl
  if_grows false x y p q = q refl

  pub top_grows : (vs : List Value) (k : Value → List Value → Option State) → ((v : Value) (rest : List Value) → Grows n (k v rest)) → Grows n (on_top vs k)
  top_grows [] k h t e = absurd (cc e)
  top_grows (v ∷ rest) k h t e = h v rest t e

  pub two_grows : (vs : List Value) (k : Value → Value → List Value → Option State) → ((x y : Value) (rest : List Value) → Grows n (k x y rest)) → Grows n (on_two vs k)
  two_grows [] k h t e = absurd (cc e)
  two_grows (y ∷ []) k h t e = absurd (cc e)
  two_grows (y ∷ x ∷ rest) k h t e = h x y rest t e

  pub three_grows : (vs : List Value) (k : Value → Value → Value → List Value → Option State) → ((x y z : Value) (rest : List Value) → Grows n (k x y z rest)) → Grows n (on_three vs k)
  three_grows [] k h t e = absurd (cc e)
  three_grows (z ∷ []) k h t e = absurd (cc e)
  three_grows (z ∷ y ∷ []) k h t e = absurd (cc e)
  three_grows (z ∷ y ∷ x ∷ rest) k h t e = h x y z rest t e

  pub elements_grows : (x : Thing) (k : CliType → List Value → Option State) → ((t : CliType) (vs : List Value) → x ≡ Elements t vs → Grows n (k t vs)) → Grows n (on_elements x k)
  elements_grows (Elements t vs) k h = h t vs refl
  elements_grows (Instance class fields) k h = none_grows
  elements_grows (Text units) k h = none_grows
  elements_grows (Boxed type value) k h = none_grows
  elements_grows (StaticCell type value) k h = none_grows

  pub on_cell_grows : (t : CliType) (wide : Cell) (k : Cell → Option State) → ((c : Cell) → Grows n (k c)) → Grows n (on_cell t wide k)
  on_cell_grows t wide k h =
      some_grows (cell_of t) _ (λ c e. if_grows (same_width c wide) _ _ (λ w. h c) (λ w. none_grows))

  pub pointer_grows : (v : Value) (wide : Cell) (k : Cell → Spot → Option State) → ((c : Cell) (x : Spot) → Grows n (k c x)) → Grows n (on_pointer v wide k)
  pointer_grows (Pointer c x) wide k h = if_grows (same_width c wide) _ _ (λ w. h c x) (λ w. none_grows)
  pointer_grows (Int i) wide k h = none_grows
  pointer_grows (Long i) wide k h = none_grows
  pointer_grows Null wide k h = none_grows
  pointer_grows (Object i) wide k h = none_grows
  pointer_grows (Handle f) wide k h = none_grows

  module _ (p : Program) where
    pub goes_grows : (s : State) (f : Frame) (fs : List Frame) (place : ℕ) (stack : List Value) → n ≤ end_of s.heap → Grows n (goes p s f fs place stack)
    unfolding goes
    goes_grows s f fs place stack h =
        some_grows (p.method f.method) _ (λ m e.
        if_grows (nat_le (length stack) m.max_stack) _ _ (λ w. state_grows (record s { frames = record f { place = place; stack = stack } ∷ fs }) h) (λ w. none_grows))

    pub enter_clause_grows : (s : State) (f : Frame) (fs : List Frame) (k : ℕ) (stack : List Value) (slot : Slot) → n ≤ end_of s.heap → Grows n (enter_clause p s f fs k stack slot)
    unfolding enter_clause
    enter_clause_grows s f fs k stack slot h =
        some_grows (p.method f.method) _ (λ m e.
        some_grows (slice_get m.clauses k) _ (λ c e. goes_grows s (record f { slots = slice_set f.slots k slot }) fs c.start stack h))

    pub follow_grows : (s : State) (fs : List Frame) (turns : List Turn) (catch object : ℕ) → n ≤ end_of s.heap → Grows n (follow p s fs turns catch object)
    follow_grows s [] turns catch object h = none_grows
    follow_grows s (f ∷ fs) [] catch object h = enter_clause_grows s f fs catch (Object object ∷ []) (Caught object) h
    follow_grows s (f ∷ fs) (Finally k ∷ turns) catch object h = enter_clause_grows s f fs k [] (Throwing turns catch object) h
    follow_grows s (f ∷ fs) (EndFrame ∷ turns) catch object h = follow_grows s fs turns catch object h

    taken_grows : (s : State) (class : Id) (object : ℕ) (o : Option Route) → n ≤ end_of s.heap → Grows n (taken p s class object o)
    taken_grows s class object None h = state_grows _ h
    taken_grows s class object (Some r) h = follow_grows s s.frames r.turns r.catch object h

    throw_grows : (s : State) (class : Id) (object : ℕ) → n ≤ end_of s.heap → Grows n (throw p s class object)
    unfolding throw
    throw_grows s class object h = taken_grows s class object (search_frames p class s.frames) h

    -- an object is added
    pub more : (heap : List Thing) (x : Thing) → n ≤ end_of heap → n ≤ end_of (heap ++ x ∷ [])
    more heap x h = let q = end_of-append heap x in omega arith

    -- an object is replaced by one of its size
    pub kept_up : (heap : List Thing) (k : ℕ) (x y : Thing) → thing_at heap k ≡ Some x → thing_size y ≡ thing_size x → n ≤ end_of heap → n ≤ end_of (put_thing heap k y)
    kept_up heap k x y e q h = subst (λ m. n ≤ m) (sym (end_of-put heap k x y e q)) h

    pub raise_grows : (s : State) (known : Known) → n ≤ end_of s.heap → Grows n (raise p s known)
    unfolding raise
    raise_grows s known h =
        some_grows (p.known known) _ (λ class e.
        some_grows (p.fields class) _ (λ ks e.
        throw_grows (record s { heap = s.heap ++ Instance class (map zero_of ks) ∷ [] }) class (end_of s.heap) (more s.heap (Instance class (map zero_of ks)) h)))

    pub leave_grows : (s : State) (f : Frame) (fs : List Frame) (ks : List ℕ) (target : ℕ) → n ≤ end_of s.heap → Grows n (leave p s f fs ks target)
    leave_grows s f fs [] target h = goes_grows s f fs target [] h
    leave_grows s f fs (k ∷ ks) target h = enter_clause_grows s f fs k [] (Leaving ks target) h

    pub take_up_grows : (s : State) (f : Frame) (fs : List Frame) (slot : Option Slot) → n ≤ end_of s.heap → Grows n (take_up p s f fs slot)
    take_up_grows s f fs (Some (Throwing turns catch object)) h = follow_grows s (f ∷ fs) turns catch object h
    take_up_grows s f fs (Some (Leaving finals target)) h = leave_grows s f fs finals target h
    take_up_grows s f fs (Some Nothing) h = none_grows
    take_up_grows s f fs (Some (Caught object)) h = none_grows
    take_up_grows s f fs None h = none_grows

    throw_thing_grows : (s : State) (object : ℕ) → n ≤ end_of s.heap → Grows n (throw_thing p s object)
    unfolding throw_thing
    throw_thing_grows s object h =
        some_grows (thing_at s.heap object) _ (λ thing e. some_grows (thrown_class thing) _ (λ class e. throw_grows s class object h))

    throw_exception_grows : (s : State) (object : ℕ) → n ≤ end_of s.heap → Grows n (throw_exception p s object)
    unfolding throw_exception
    throw_exception_grows s object h =
        some_grows (thing_at s.heap object) _ (λ thing e.
        some_grows (thrown_class thing) _ (λ class e.
        some_grows p.exception _ (λ top e. if_grows (p.is_sub class top) _ _ (λ y. throw_grows s class object h) (λ y. none_grows))))

    pub throw_value_grows : (s : State) (v : Value) → n ≤ end_of s.heap → Grows n (throw_value p s v)
    throw_value_grows s (Object i) h = throw_exception_grows s i h
    throw_value_grows s Null h = raise_grows s NullReference h
    throw_value_grows s (Int i) h = none_grows
    throw_value_grows s (Long i) h = none_grows
    throw_value_grows s (Handle f) h = none_grows
    throw_value_grows s (Pointer c x) h = none_grows

    pub throw_again_grows : (s : State) (slot : Option Slot) → n ≤ end_of s.heap → Grows n (throw_again p s slot)
    throw_again_grows s (Some (Caught object)) h = throw_thing_grows s object h
    throw_again_grows s (Some (Throwing turns catch object)) h = none_grows
    throw_again_grows s (Some (Leaving finals target)) h = none_grows
    throw_again_grows s (Some Nothing) h = none_grows
    throw_again_grows s None h = none_grows

    pub answered_grows : (s : State) (f : Frame) (fs : List Frame) (next : ℕ) (rest : List Value) (o : Answer) → n ≤ end_of s.heap → Grows n (answered p s f fs next rest o)
    answered_grows s f fs next rest (Gives v) h = goes_grows s f fs next (v ∷ rest) h
    answered_grows s f fs next rest (Raises known) h = raise_grows s known h
    answered_grows s f fs next rest NoCase h = none_grows

    pub or_raise_grows : {A : Type 0} (s : State) (known : Known) (o : Option A) (k : A → Option State) → n ≤ end_of s.heap → ((x : A) → o ≡ Some x → Grows n (k x)) → Grows n (or_raise p s known o k)
    or_raise_grows s known None k h g = raise_grows s known h
    or_raise_grows s known (Some x) k h g = g x refl

    pub thing_or_grows : (s : State) (known : Known) (v : Value) (k : ℕ → Thing → Option State) → n ≤ end_of s.heap → ((i : ℕ) (x : Thing) → thing_at s.heap i ≡ Some x → Grows n (k i x)) → Grows n (on_thing_or p s known v k)
    thing_or_grows s known (Object i) k h g = some_grows (thing_at s.heap i) _ (λ x e. g i x e)
    thing_or_grows s known Null k h g = raise_grows s known h
    thing_or_grows s known (Int i) k h g = none_grows
    thing_or_grows s known (Long i) k h g = none_grows
    thing_or_grows s known (Handle f) k h g = none_grows
    thing_or_grows s known (Pointer c x) k h g = none_grows

    pub thing_grows : (s : State) (v : Value) (k : ℕ → Thing → Option State) → n ≤ end_of s.heap → ((i : ℕ) (x : Thing) → thing_at s.heap i ≡ Some x → Grows n (k i x)) → Grows n (on_thing p s v k)
    thing_grows s v k h g = thing_or_grows s NullReference v k h g

    pub instance_grows : (owner : Id) (x : Thing) (k : Id → List Value → Option State) → ((class : Id) (vs : List Value) → x ≡ Instance class vs → Grows n (k class vs)) → Grows n (on_instance p owner x k)
    instance_grows owner (Instance class vs) k h = if_grows (p.is_sub class owner) _ _ (λ w. h class vs refl) (λ w. none_grows)
    instance_grows owner (Text units) k h = none_grows
    instance_grows owner (Elements element values) k h = none_grows
    instance_grows owner (Boxed type value) k h = none_grows
    instance_grows owner (StaticCell type value) k h = none_grows

    if_written : (b : Bool) (x y : Option Written) → ((w : Written) → x ≡ Some w → n ≤ end_of w.state.heap) → ((w : Written) → y ≡ Some w → n ≤ end_of w.state.heap) → (w : Written) → (if b then x else y) ≡ Some w → n ≤ end_of w.state.heap
    if_written true x y g h = g
    if_written false x y g h = h

    written_some : {A : Type 0} (o : Option A) (k : A → Written) → ((x : A) → o ≡ Some x → n ≤ end_of (k x).state.heap) → (w : Written) → on_some o (λ x. Some (k x)) ≡ Some w → n ≤ end_of w.state.heap
    written_some None k h w e = absurd (cc e)
    written_some (Some x) k h w e = let q : k x ≡ w = cc e in subst (λ (u : Written). n ≤ end_of u.state.heap) q (h x refl)

    written_is : (v : Written) → n ≤ end_of v.state.heap → (w : Written) → Some v ≡ Some w → n ≤ end_of w.state.heap
    written_is v h w e = let q : v ≡ w = cc e in subst (λ (u : Written). n ≤ end_of u.state.heap) q h

    pub write_grows : (s : State) (f : Frame) (fs : List Frame) (x : Spot) (v : Value) → n ≤ end_of s.heap → (w : Written) → write p s f fs x v ≡ Some w → n ≤ end_of w.state.heap
    write_grows s f fs (InArgument depth i) v h =
        if_written (frames_cells p (f ∷ fs) == depth) _ _ (written_is _ h) (written_some (frame_at p fs depth) _ (λ g e. h))
    write_grows s f fs (InLocal depth i) v h =
        if_written (frames_cells p (f ∷ fs) == depth) _ _ (written_is _ h) (written_some (frame_at p fs depth) _ (λ g e. h))
    write_grows s f fs (InObject object i) v h =
        written_some (thing_at s.heap object) _ (λ x e. kept_up s.heap object x (with_value x i v) e (with_value_size x i v) h)
