-- The same through references, pointers, handlers and frames.
use Rattle.std.proofs.Common.{ℕ, Bool, true, false, ◌==◌, List, [], ◌∷◌, Option, Some, None, refl}
use Rattle.std.specs.Prelude.{if◌then◌else◌, slice_set}
use Rattle.board_types.specs.declared.board.Known.{Known}
use Rattle.board_types.specs.declared.board.Known.TheVariants.{NullReference}
use Rattle.machine.specs.Data.{Id, CliType, thing_at, put_thing, Cell, Spot, InArgument, InLocal, InObject, Value, Int, Long, Null, Object, Handle, Pointer, Thing, Instance, Text, Elements, Boxed, StaticCell, PlaceType, Slot, Nothing, Caught, Throwing, Leaving, Frame, State}
use Rattle.machine.specs.Program.{Program, Method, Body, Code, Native, Missing}
use Rattle.machine.specs.Numbers.{Answer, Gives, Raises, NoCase, same_width}
use Rattle.machine.specs.Throw.{on_some, goes, leave, take_up, thrown_class, throw_thing, throw_exception, throw_value, throw_again}
use Rattle.machine.specs.Rows.{on_two, on_three, answered, or_raise, on_thing, on_instance, on_elements, on_cell, on_pointer, frames_cells, frame_at, put_frame, with_value, Written, write}
use Rattle.machine.specs.Calls.{if_room, starts, construct, number_of, hand_back}
use Rattle.tiny_except.specs.Machine.{KeepsRest}
use Rattle.act_rests.proofs.Kept.{Keeps, none, one, some, then_some, top, either, same, went, entered, followed, threw, raised}

module _ (p : Program) (s : State) where
  pub two : {A : Type 0} (xs : List A) (go : A → A → List A → Option State) → ((x y : A) (rest : List A) → Keeps s (go x y rest)) → Keeps s (on_two xs go)
  two xs go h = top s xs _ (λ y below. top s below _ (λ x rest. h x y rest))

  pub three : {A : Type 0} (xs : List A) (go : A → A → A → List A → Option State) → ((x y z : A) (rest : List A) → Keeps s (go x y z rest)) → Keeps s (on_three xs go)
  three xs go h = top s xs _ (λ z below. two below _ (λ x y rest. h x y z rest))

  pub answer : (f : Frame) (fs : List Frame) (next : ℕ) (rest : List Value) (a : Answer) → Keeps s (answered p s f fs next rest a)
  answer f fs next rest (Gives v) = went s p s (same s) f fs next (v ∷ rest)
  answer f fs next rest (Raises known) = raised s p known
  answer f fs next rest NoCase = none s

  pub or_raised : {A : Type 0} (known : Known) (o : Option A) (go : A → Option State) → ((x : A) → Keeps s (go x)) → Keeps s (or_raise p s known o go)
  or_raised known None go h = raised s p known
  or_raised known (Some x) go h = h x

  pub thing : (v : Value) (go : ℕ → Thing → Option State) → ((n : ℕ) (x : Thing) → Keeps s (go n x)) → Keeps s (on_thing p s v go)
  thing (Object n) go h = some s (thing_at s.heap n) (go n) (h n)
  thing Null go h = raised s p NullReference
  thing (Int n) go h = none s
  thing (Long n) go h = none s
  thing (Handle f) go h = none s
  thing (Pointer c x) go h = none s

  pub instance : (owner : Id) (x : Thing) (go : Id → List Value → Option State) → ((class : Id) (fields : List Value) → Keeps s (go class fields)) → Keeps s (on_instance p owner x go)
  instance owner (Instance class fields) go h = either s (p.is_sub class owner) (go class fields) None (h class fields) (none s)
  instance owner (Text units) go h = none s
  instance owner (Elements element values) go h = none s
  instance owner (Boxed type value) go h = none s
  instance owner (StaticCell type value) go h = none s

  pub elements : (x : Thing) (go : CliType → List Value → Option State) → ((element : CliType) (values : List Value) → Keeps s (go element values)) → Keeps s (on_elements x go)
  elements (Elements element values) go h = h element values
  elements (Instance class fields) go h = none s
  elements (Text units) go h = none s
  elements (Boxed type value) go h = none s
  elements (StaticCell type value) go h = none s

  pub cell : (type : CliType) (wide : Cell) (go : Cell → Option State) → ((c : Cell) → Keeps s (go c)) → Keeps s (on_cell type wide go)
  cell type wide go h = some s _ _ (λ c. either s (same_width c wide) (go c) None (h c) (none s))

  pub pointer : (v : Value) (wide : Cell) (go : Cell → Spot → Option State) → ((c : Cell) (x : Spot) → Keeps s (go c x)) → Keeps s (on_pointer v wide go)
  pointer (Pointer c x) wide go h = either s (same_width c wide) (go c x) None (h c x) (none s)
  pointer (Int n) wide go h = none s
  pointer (Long n) wide go h = none s
  pointer Null wide go h = none s
  pointer (Object n) wide go h = none s
  pointer (Handle f) wide go h = none s

  -- ---- writes through pointers

  -- a write that leaves what it leaves of this state, or of it with other objects
  frame_written : (b : Bool) (o : Option Frame) (x : Written) (y : Frame → Written) (go : Written → Option State) → KeepsRest s x.state → ((g : Frame) → KeepsRest s (y g).state) → ((t : Written) → KeepsRest s t.state → Keeps s (go t)) → Keeps s (on_some (if b then Some x else on_some o (λ g. Some (y g))) go)
  frame_written true o x y go k l h = h x k
  frame_written false None x y go k l h = none s
  frame_written false (Some g) x y go k l h = h (y g) (l g)

  object_written : (o : Option Thing) (y : Thing → Written) (go : Written → Option State) → ((x : Thing) → KeepsRest s (y x).state) → ((t : Written) → KeepsRest s t.state → Keeps s (go t)) → Keeps s (on_some (on_some o (λ x. Some (y x))) go)
  object_written None y go l h = none s
  object_written (Some x) y go l h = h (y x) (l x)

  pub written : (f : Frame) (fs : List Frame) (spot : Spot) (v : Value) (go : Written → Option State) → ((t : Written) → KeepsRest s t.state → Keeps s (go t)) → Keeps s (on_some (write p s f fs spot v) go)
  written f fs (InArgument depth n) v go h =
      frame_written (frames_cells p (f ∷ fs) == depth) (frame_at p fs depth)
      (record { state = s; arguments = slice_set f.arguments n v; locals = f.locals; callers = fs })
      (λ g. record { state = s; arguments = f.arguments; locals = f.locals; callers = put_frame p fs depth (record g { arguments = slice_set g.arguments n v }) })
      go (same s) (λ g. same s) h
  written f fs (InLocal depth n) v go h =
      frame_written (frames_cells p (f ∷ fs) == depth) (frame_at p fs depth)
      (record { state = s; arguments = f.arguments; locals = slice_set f.locals n v; callers = fs })
      (λ g. record { state = s; arguments = f.arguments; locals = f.locals; callers = put_frame p fs depth (record g { locals = slice_set g.locals n v }) })
      go (same s) (λ g. same s) h
  written f fs (InObject object n) v go h =
      object_written (thing_at s.heap object)
      (λ x. record { state = record s { heap = put_thing s.heap object (with_value x n v) }; arguments = f.arguments; locals = f.locals; callers = fs })
      go (λ x. record { literals = refl; statics = refl; started = refl; output = refl }) h

  -- ---- handlers, and frames that start and end

  pub left_by : (f : Frame) (fs : List Frame) (ks : List ℕ) (target : ℕ) → Keeps s (leave p s f fs ks target)
  left_by f fs [] target = went s p s (same s) f fs target []
  left_by f fs (k ∷ ks) target = entered s p s (same s) f fs k [] (Leaving ks target)

  pub took_up : (f : Frame) (fs : List Frame) (slot : Option Slot) → Keeps s (take_up p s f fs slot)
  took_up f fs (Some (Throwing turns catch object)) = followed s p s (same s) (f ∷ fs) turns catch object
  took_up f fs (Some (Leaving finals target)) = left_by f fs finals target
  took_up f fs (Some Nothing) = none s
  took_up f fs (Some (Caught object)) = none s
  took_up f fs None = none s

  exception : (object : ℕ) → Keeps s (throw_exception p s object)
  unfolding throw_exception
  exception object = some s (thing_at s.heap object) _ (λ x. some s (thrown_class x) _ (λ class. some s p.exception _ (λ up. either s (p.is_sub class up) _ _ (threw s p s (same s) class object) (none s))))

  pub thrown : (v : Value) → Keeps s (throw_value p s v)
  thrown (Object n) = exception n
  thrown Null = raised s p NullReference
  thrown (Int n) = none s
  thrown (Long n) = none s
  thrown (Handle f) = none s
  thrown (Pointer c x) = none s

  object_thrown : (object : ℕ) → Keeps s (throw_thing p s object)
  unfolding throw_thing
  object_thrown object = some s (thing_at s.heap object) _ (λ x. some s (thrown_class x) _ (λ class. threw s p s (same s) class object))

  pub thrown_again : (slot : Option Slot) → Keeps s (throw_again p s slot)
  thrown_again (Some (Caught object)) = object_thrown object
  thrown_again (Some (Throwing turns catch object)) = none s
  thrown_again (Some (Leaving finals target)) = none s
  thrown_again (Some Nothing) = none s
  thrown_again None = none s

  roomy : (f : Frame) (stack : List Value) (o : Option PlaceType) (next : Option State) → Keeps s next → Keeps s (if_room p f stack o next)
  roomy f stack None next k = k
  roomy f stack (Some type) next k = some s (p.method f.method) _ (λ m. either s _ next None k (none s))

  started_by : (u : State) → KeepsRest s u → (f : Frame) (fs : List Frame) (stack : List Value) (id : Id) (m : Method) (arguments : List Value) → Keeps s (starts p u f fs stack id m arguments)
  unfolding starts
  started_by u k f fs stack id m arguments =
      roomy f stack m.returns _ (then_some s (goes p u f fs f.place stack) _ (went s p u k f fs f.place stack) (λ t l. one s _ (record { literals = l.literals; statics = l.statics; started = l.started; output = l.output })))

  pub constructed : (u : State) → KeepsRest s u → (f : Frame) (fs : List Frame) (stack : List Value) (id : Id) (m : Method) (arguments : List Value) (body : Body) → Keeps s (construct p u f fs stack id m arguments body)
  constructed u k f fs stack id m arguments Code = started_by u k f fs stack id m arguments
  constructed u k f fs stack id m arguments (Native name) = none s
  constructed u k f fs stack id m arguments Missing = none s

  pub handed_back : (b : Bool) (v : Option Value) (fs : List Frame) → Keeps s (hand_back p s b v fs)
  handed_back true v [] = some s (number_of v) _ (λ n. one s _ (record { literals = refl; statics = refl; started = refl; output = refl }))
  handed_back false v [] = some s (number_of v) _ (λ n. one s _ (record { literals = refl; statics = refl; started = refl; output = refl }))
  handed_back true v (g ∷ gs) = one s _ (record { literals = refl; statics = refl; started = refl; output = refl })
  handed_back false v (g ∷ gs) = some s _ _ (λ line. went s p s (same s) g gs line.next _)
