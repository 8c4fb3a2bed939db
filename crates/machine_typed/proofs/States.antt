-- A typed state.
use Rattle.std.proofs.Common.{◌≡◌, ◌≢◌, ◌⊎◌, ⊎_elim, ℕ, ◌≤◌, Bool, true, false, List, [], ◌∷◌, ◌++◌, map, length, Option, Some, None, refl, sym, ap, ◌∙◌, subst}
use Rattle.std.specs.Prelude.{if◌then◌else◌, nat_le, slice_get}
use Rattle.std.proofs.lemmas.Bool.{le-leb}
use Rattle.plain_types.specs.declared.elem.Elem.TheVariants as elem
use Rattle.machine.specs.Data.{Id, CliType, Basic, ClassOf, ArrayOf, thing_at, put_thing, type_of, Value, PlaceType, Thing, Instance, Text, Elements, Boxed, StaticCell, Turn, Finally, EndFrame, Slot, Caught, Throwing, Leaving, Frame, Literal, Static, State, End, Going, Returned, Threw}
use Rattle.machine.specs.Program.{Program, Method, Clause, Catch, Final, Line, Code}
use Rattle.machine.specs.Throw.{on_some, goes}
use Rattle.machine.specs.Objects.{static_object, literal_object}
use Rattle.machine.specs.Trace.{is_main_result}
use Rattle.machine_typed.specs.Typing.{StackType, loaded, of_type, is_plain, is_number, assignable}
use Rattle.machine_typed.specs.Accepted.{Typing, Leads, IsFinal, IsCatch, Accepted, MethodFits, BodyFits}
use Rattle.machine_typed.proofs.Heaps.{OfClass, OfText, OfStatic, mould_of, mould_at, mould_there, Extends, grows, puts, put_either, get_either, some_same, some_inv}
use Rattle.machine_typed.proofs.Values.{Context, type_of_mould, type_at, HasType, HaveAll, Every, Reaches, has_more, have_more, every_more, length_have, have_fits}

-- what the topmost of these frames sees
abbrev pub over : List Thing → List Frame → Context
over heap fs = record { heap = heap; chain = map (λ (f : Frame). f.method) fs }

module _ (p : Program) (t : Typing) where
  -- an instance of a class, or of one below it
  pub record Thrown (heap : List Thing) (object : ℕ) (class : Id) : Type 0 where
    pub own : Id
    pub count : ℕ
    pub at : mould_at heap object ≡ Some (OfClass own count)
    pub below : p.is_sub own class ≡ true

  -- the values in an object have the types of its places
  abbrev pub ThingFits : Context → Thing → Type 0
  ThingFits cx (Instance class vs) = (types : List CliType) × (p.fields class ≡ Some types) × HaveAll p cx vs (map of_type types) × (t.made (ClassOf class) ≡ true)
  ThingFits cx (Text units) = Unit {0}
  ThingFits cx (Elements element vs) = Every p cx (of_type element) vs × (is_plain element ≡ true) × (t.made (ArrayOf element) ≡ true)
  ThingFits cx (Boxed type v) = HasType p cx v (of_type type) × (is_number type ≡ true) × (t.made type ≡ true)
  ThingFits cx (StaticCell type v) = HasType p cx v (of_type type)

  abbrev pub clause_at : Id → ℕ → Option Clause
  clause_at id k = on_some (p.method id) (λ m. slice_get m.clauses k)

  -- a clause whose handler starts where these handlers are running
  pub record Enters (id : Id) (running : ℕ → Type 0) (k : ℕ) : Type 0 where
    pub clause : Clause
    pub is : clause_at id k ≡ Some clause
    pub inside : (i : ℕ) → t.handled id i clause.start ≡ true → (i ≡ k) ⊎ running i

  -- the handlers round a handler
  abbrev pub Around : Id → ℕ → ℕ → ℕ → Type 0
  Around id start k i = (t.handled id i start ≡ true) × (i ≢ k)

  -- a way to a catch that can be gone to its end, from a frame of the method with these callers
  abbrev pub Route : List Thing → (ℕ → Type 0) → Id → List Frame → List Turn → ℕ → ℕ → Type 0
  Route heap running id fs [] catch object =
      (e : Enters id running catch) × (class : Id) × (e.clause.kind ≡ Catch class) × Thrown heap object class
  Route heap running id fs (Finally k ∷ turns) catch object =
      (e : Enters id running k) × (e.clause.kind ≡ Final) × Route heap (Around id e.clause.start k) id fs turns catch object
  Route heap running id [] (EndFrame ∷ turns) catch object = ⊥
  Route heap running id (g ∷ gs) (EndFrame ∷ turns) catch object =
      Route heap (λ i. t.handled g.method i g.place ≡ true) g.method gs turns catch object

  -- a leave that can be gone to its end
  abbrev pub Exit : (ℕ → Type 0) → Id → List ℕ → ℕ → Type 0
  Exit running id [] target = (t.types id target ≡ Some []) × ((i : ℕ) → t.handled id i target ≡ true → running i)
  Exit running id (k ∷ ks) target =
      (e : Enters id running k) × (e.clause.kind ≡ Final) × Exit (Around id e.clause.start k) id ks target

  abbrev pub IsCaught : List Thing → Option Slot → Type 0
  IsCaught heap (Some (Caught object)) = (c : Id) × (count : ℕ) × (mould_at heap object ≡ Some (OfClass c count))
  IsCaught heap _ = ⊥

  abbrev pub IsPlan : List Thing → Id → List Frame → ℕ → Option Slot → Type 0
  IsPlan heap id fs k (Some (Throwing turns catch object)) =
      (c : Clause) × (clause_at id k ≡ Some c) × Route heap (Around id c.start k) id fs turns catch object
  IsPlan heap id fs k (Some (Leaving ks target)) =
      (c : Clause) × (clause_at id k ≡ Some c) × Exit (Around id c.start k) id ks target
  IsPlan heap id fs k _ = ⊥

  pub record SlotFits (heap : List Thing) (id : Id) (m : Method) (fs : List Frame) (k : ℕ) (slot : Option Slot) : Type 0 where
    pub caught : IsCatch m k → IsCaught heap slot
    pub plan : IsFinal m k → IsPlan heap id fs k slot

  -- a frame of a method with code
  pub record Base (heap : List Thing) (f : Frame) (fs : List Frame) (m : Method) : Type 0 where
    pub is : p.method f.method ≡ Some m
    pub code : m.body ≡ Code
    pub arguments : HaveAll p (over heap (f ∷ fs)) f.arguments (map loaded m.arguments)
    pub locals : HaveAll p (over heap (f ∷ fs)) f.locals (map loaded m.locals)
    pub count : length f.slots ≡ length m.clauses

  -- the slots of the handlers that hold its place
  pub record Slots (heap : List Thing) (f : Frame) (fs : List Frame) (m : Method) : Type 0 where
    pub at : (k : ℕ) → t.handled f.method k f.place ≡ true → SlotFits heap f.method m fs k (slice_get f.slots k)

  abbrev pub Below : Context → Option PlaceType → List Value → List StackType → Type 0
  Below heap None stack us = HaveAll p heap stack us
  Below heap (Some k) stack [] = ⊥
  Below heap (Some k) stack (u ∷ us) = (assignable p (loaded k) u ≡ true) × HaveAll p heap stack us

  -- a caller waits for a result of this type
  pub record Resumes (heap : List Thing) (returns : Option PlaceType) (g : Frame) (gs : List Frame) : Type 0 where
    pub line : Line
    pub is : p.fetch g.method g.place ≡ Some line
    pub types : List StackType
    pub typed : t.types g.method line.next ≡ Some types
    pub below : Below (over heap (g ∷ gs)) returns g.stack types
    pub stays : (k : ℕ) → t.handled g.method k line.next ≡ true → t.handled g.method k g.place ≡ true

  pub record Meets (heap : List Thing) (g : Frame) (gs : List Frame) : Type 0 where
    pub types : List StackType
    pub typed : t.types g.method g.place ≡ Some types
    pub stack : HaveAll p (over heap (g ∷ gs)) g.stack types

  abbrev pub Waits : List Thing → Bool → Option PlaceType → Frame → List Frame → Type 0
  Waits heap true returns g gs = Meets heap g gs
  Waits heap false returns g gs = Resumes heap returns g gs

  abbrev pub Callers : List Thing → Bool → Option PlaceType → List Frame → Type 0
  Callers heap initialiser returns [] = is_main_result returns ≡ true
  Callers heap initialiser returns (g ∷ gs) =
      (m : Method) × Base heap g gs m × Slots heap g gs m × Waits heap initialiser returns g gs × Callers heap g.initialiser m.returns gs

  abbrev pub Things : List Thing → Type 0
  Things heap = (n : ℕ) (x : Thing) → thing_at heap n ≡ Some x → ThingFits (over heap []) x

  abbrev pub StaticsFit : List Thing → List Static → Type 0
  StaticsFit heap xs = (f : Id) (n : ℕ) (k : CliType) → static_object xs f ≡ Some n → p.static f ≡ Some k → mould_at heap n ≡ Some (OfStatic k)

  abbrev pub LiteralsFit : List Thing → List Literal → Type 0
  LiteralsFit heap ls = (units : List ℕ) (n : ℕ) → literal_object ls units ≡ Some n → (count : ℕ) × (mould_at heap n ≡ Some (OfText count))

  pub record Stored (s : State) : Type 0 where
    pub heap : Things s.heap
    pub statics : StaticsFit s.heap s.statics
    pub literals : LiteralsFit s.heap s.literals
    pub going : s.end ≡ Going

  -- the topmost frame has the types of its place
  abbrev pub Running : State → List Frame → Type 0
  Running s [] = ⊥
  Running s (f ∷ fs) = (m : Method) × Base s.heap f fs m × Slots s.heap f fs m × Meets s.heap f fs × Callers s.heap f.initialiser m.returns fs

  abbrev pub FineAt : State → End → Type 0
  FineAt s Going = Stored s × Running s s.frames
  FineAt s (Returned n) = Unit {0}
  FineAt s (Threw c) = Unit {0}

  abbrev pub Goes : Option State → Type 0
  Goes None = ⊥
  Goes (Some s) = FineAt s s.end

  pub some_goes : {A : Type 0} (o : Option A) (x : A) (k : A → Option State) → o ≡ Some x → Goes (k x) → Goes (on_some o k)
  some_goes o x k e h = subst (λ q. Goes (on_some q k)) (sym e) h

  -- all of this stays where objects keep their numbers and classes
  module _ (old new : List Thing) (x : Extends old new) where
    thrown_more : (object : ℕ) (class : Id) → Thrown old object class → Thrown new object class
    thrown_more object class h = record { own = h.own; count = h.count; at = x.keeps object (OfClass h.own h.count) h.at; below = h.below }

    pub route_more : (running : ℕ → Type 0) (id : Id) (fs : List Frame) (turns : List Turn) (catch object : ℕ) → Route old running id fs turns catch object → Route new running id fs turns catch object
    route_more running id fs [] catch object h = (h.0, h.1, h.2, thrown_more object h.1 h.3)
    route_more running id fs (Finally k ∷ turns) catch object h =
        (h.0, h.1, route_more (Around id h.0.clause.start k) id fs turns catch object h.2)
    route_more running id [] (EndFrame ∷ turns) catch object h = h
    route_more running id (g ∷ gs) (EndFrame ∷ turns) catch object h =
        route_more (λ i. t.handled g.method i g.place ≡ true) g.method gs turns catch object h

    caught_more : (slot : Option Slot) → IsCaught old slot → IsCaught new slot
    caught_more (Some (Caught object)) h = (h.0, h.1, x.keeps object (OfClass h.0 h.1) h.2)
    caught_more _ h = absurd h

    plan_more : (id : Id) (fs : List Frame) (k : ℕ) (slot : Option Slot) → IsPlan old id fs k slot → IsPlan new id fs k slot
    plan_more id fs k (Some (Throwing turns catch object)) h = (h.0, h.1, route_more (Around id h.0.start k) id fs turns catch object h.2)
    plan_more id fs k (Some (Leaving ks target)) h = h
    plan_more id fs k _ h = absurd h

    slot_more : (id : Id) (m : Method) (fs : List Frame) (k : ℕ) (slot : Option Slot) → SlotFits old id m fs k slot → SlotFits new id m fs k slot
    slot_more id m fs k slot h = record { caught = λ c. caught_more slot (h.caught c); plan = λ c. plan_more id fs k slot (h.plan c) }

    pub reach : (fs : List Frame) → Reaches p (over old fs) (over new fs)
    reach fs = record { heap = x; chain = λ d i e. e }

    pub thing_more : (y : Thing) → ThingFits (over old []) y → ThingFits (over new []) y
    thing_more (Instance class vs) h = (h.0, h.1, have_more p (over old []) (over new []) (reach []) vs (map of_type h.0) h.2, h.3)
    thing_more (Text units) h = h
    thing_more (Elements element vs) h = (every_more p (over old []) (over new []) (reach []) (of_type element) vs h.0, h.1, h.2)
    thing_more (Boxed type v) h = (has_more p (over old []) (over new []) (reach []) v (of_type type) h.0, h.1, h.2)
    thing_more (StaticCell type v) h = has_more p (over old []) (over new []) (reach []) v (of_type type) h

    pub base_more : (f : Frame) (fs : List Frame) (m : Method) → Base old f fs m → Base new f fs m
    base_more f fs m h =
        record {
          is = h.is;
          code = h.code;
          arguments = have_more p (over old (f ∷ fs)) (over new (f ∷ fs)) (reach (f ∷ fs)) f.arguments (map loaded m.arguments) h.arguments;
          locals = have_more p (over old (f ∷ fs)) (over new (f ∷ fs)) (reach (f ∷ fs)) f.locals (map loaded m.locals) h.locals;
          count = h.count;
        }

    pub slots_more : (f : Frame) (fs : List Frame) (m : Method) → Slots old f fs m → Slots new f fs m
    slots_more f fs m h = record { at = λ k e. slot_more f.method m fs k (slice_get f.slots k) (h.at k e) }

    below_more : (fs : List Frame) (r : Option PlaceType) (vs : List Value) (us : List StackType) → Below (over old fs) r vs us → Below (over new fs) r vs us
    below_more fs None vs us h = have_more p (over old fs) (over new fs) (reach fs) vs us h
    below_more fs (Some k) vs [] h = h
    below_more fs (Some k) vs (u ∷ us) h = (h.0, have_more p (over old fs) (over new fs) (reach fs) vs us h.1)

    pub meets_more : (g : Frame) (gs : List Frame) → Meets old g gs → Meets new g gs
    meets_more g gs h = record { types = h.types; typed = h.typed; stack = have_more p (over old (g ∷ gs)) (over new (g ∷ gs)) (reach (g ∷ gs)) g.stack h.types h.stack }

    waits_more : (b : Bool) (r : Option PlaceType) (g : Frame) (gs : List Frame) → Waits old b r g gs → Waits new b r g gs
    waits_more true r g gs h = meets_more g gs h
    waits_more false r g gs h = record { line = h.line; is = h.is; types = h.types; typed = h.typed; below = below_more (g ∷ gs) r g.stack h.types h.below; stays = h.stays }

    pub callers_more : (b : Bool) (r : Option PlaceType) (fs : List Frame) → Callers old b r fs → Callers new b r fs
    callers_more b r [] h = h
    callers_more b r (g ∷ gs) h =
        (h.0, base_more g gs h.0 h.1, slots_more g gs h.0 h.2, waits_more b r g gs h.3, callers_more g.initialiser h.0.returns gs h.4)

  -- the state in the middle of a step: the frame f stands over the callers
  pub record Now (s : State) (f : Frame) (fs : List Frame) (m : Method) : Type 0 where
    pub stored : Stored s
    pub base : Base s.heap f fs m
    pub slots : Slots s.heap f fs m
    pub callers : Callers s.heap f.initialiser m.returns fs

  module _ (a : Accepted p t) where
    pub method_fits : (heap : List Thing) (f : Frame) (fs : List Frame) (m : Method) → Base heap f fs m → MethodFits p t f.method m
    method_fits heap f fs m b = subst (λ c. BodyFits p t f.method m c) b.code (a.methods f.method m b.is)

    test_goes : (b : Bool) (s : State) → b ≡ true → Goes (Some s) → Goes (if b then Some s else None)
    test_goes true s e h = h
    test_goes false s e h = absurd (cc e)

    le_test : (m n : ℕ) → m ≤ n → nat_le m n ≡ true
    le_test m n h = le-leb m n h

    -- the frame goes on at a typed place
    pub goes_fine : (s : State) (f : Frame) (fs : List Frame) (m : Method) → Stored s → Base s.heap f fs m → Callers s.heap f.initialiser m.returns fs → (place : ℕ) (stack : List Value) (us : List StackType) → t.types f.method place ≡ Some us → HaveAll p (over s.heap (f ∷ fs)) stack us → ((k : ℕ) → t.handled f.method k place ≡ true → SlotFits s.heap f.method m fs k (slice_get f.slots k)) → Goes (goes p s f fs place stack)
    unfolding goes
    goes_fine s f fs m st b c place stack us typed have slots =
        some_goes (p.method f.method) m _ b.is
        (test_goes (nat_le (length stack) m.max_stack) (record s { frames = record f { place = place; stack = stack } ∷ fs })
        (le_test (length stack) m.max_stack (subst (λ k. k ≤ m.max_stack) (sym (length_have p (over s.heap (f ∷ fs)) stack us have)) ((method_fits s.heap f fs m b).within place us typed)))
        (subst (FineAt (record s { frames = record f { place = place; stack = stack } ∷ fs })) (sym st.going) (
          record { heap = st.heap; statics = st.statics; literals = st.literals; going = st.going },
          (
            m,
            record { is = b.is; code = b.code; arguments = b.arguments; locals = b.locals; count = b.count },
            record { at = slots },
            record { types = us; typed = typed; stack = have },
            c,
          ),
        )))

    -- along an edge
    pub leads_fine : (s : State) (f : Frame) (fs : List Frame) (m : Method) → Now s f fs m → (to : ℕ) (stack : List Value) (ts us : List StackType) → Leads p t f.method f.place us to → Some ts ≡ Some us → HaveAll p (over s.heap (f ∷ fs)) stack ts → Goes (goes p s f fs to stack)
    leads_fine s f fs m n to stack ts us l e have =
        goes_fine s f fs m n.stored n.base n.callers to stack l.at l.typed
        (have_fits p a.up (over s.heap (f ∷ fs)) stack us l.at (subst (HaveAll p (over s.heap (f ∷ fs)) stack) (some_same ts us e) have) l.fitting)
        (λ k h. n.slots.at k (l.stays k h))

    -- ---- objects

    made_of : (cx : Context) (x : Thing) (own : CliType) → ThingFits cx x → type_of x ≡ Some own → t.made own ≡ true
    made_of cx (Instance class vs) own h e = subst (λ c. t.made c ≡ true) (some_same (ClassOf class) own e) h.3
    made_of cx (Text units) own h e = subst (λ c. t.made c ≡ true) (some_same (Basic elem.String) own e) a.strings_made
    made_of cx (Elements element vs) own h e = subst (λ c. t.made c ≡ true) (some_same (ArrayOf element) own e) h.2
    made_of cx (Boxed type v) own h e = subst (λ c. t.made c ≡ true) (some_same type own e) h.2
    made_of cx (StaticCell type v) own h e = absurd (cc e)

    type_by_mould : (x : Thing) → type_of x ≡ type_of_mould (mould_of x)
    type_by_mould (Instance class vs) = refl
    type_by_mould (Text units) = refl
    type_by_mould (Elements element vs) = refl
    type_by_mould (Boxed type v) = refl
    type_by_mould (StaticCell type v) = refl

    -- the object of a type
    pub record There (heap : List Thing) (n : ℕ) (own : CliType) : Type 0 where
      pub thing : Thing
      pub at : thing_at heap n ≡ Some thing
      pub type : type_of thing ≡ Some own
      pub fits : ThingFits (over heap []) thing
      pub made : t.made own ≡ true

    pub there_at : (heap : List Thing) → Things heap → (n : ℕ) (own : CliType) → type_at heap n ≡ Some own → There heap n own
    there_at heap things n own e =
        let m = some_inv (mould_at heap n) type_of_mould own e in
        let x = some_inv (thing_at heap n) (λ x. Some (mould_of x)) m.0 m.1 in
        let type : type_of x.0 ≡ Some own = type_by_mould x.0 ∙ ap type_of_mould (some_same (mould_of x.0) m.0 x.2) ∙ m.2 in
        let fits = things n x.0 x.1 in
        record { thing = x.0; at = x.1; type = type; fits = fits; made = made_of (over heap []) x.0 own fits type }

    pub type_there : (heap : List Thing) (n : ℕ) (x : Thing) (own : CliType) → thing_at heap n ≡ Some x → type_of x ≡ Some own → type_at heap n ≡ Some own
    type_there heap n x own e h = ap (λ o. on_some o type_of_mould) (mould_there heap n x e) ∙ sym (type_by_mould x) ∙ h

    -- a new object
    pub now_grown : (s : State) (f : Frame) (fs : List Frame) (m : Method) → Now s f fs m → (x : Thing) → ThingFits (over (s.heap ++ x ∷ []) []) x → Now (record s { heap = s.heap ++ x ∷ [] }) f fs m
    now_grown s f fs m n x h =
        let heap : List Thing = s.heap ++ x ∷ [] in
        let more = grows s.heap x in
        record {
          stored = record {
            heap = λ i y e. ⊎_elim (λ o. thing_more s.heap heap more y (n.stored.heap i y o)) (λ o. subst (ThingFits (over heap [])) (sym o) h) (get_either s.heap x i y e);
            statics = λ g i k e o. more.keeps i (OfStatic k) (n.stored.statics g i k e o);
            literals = λ units i e. let y = n.stored.literals units i e in (y.0, more.keeps i (OfText y.0) y.1);
            going = n.stored.going;
          };
          base = base_more s.heap heap more f fs m n.base;
          slots = slots_more s.heap heap more f fs m n.slots;
          callers = callers_more s.heap heap more f.initialiser m.returns fs n.callers;
        }

    -- an object of the same type and size
    pub now_put : (s : State) (f : Frame) (fs : List Frame) (m : Method) → Now s f fs m → (object : ℕ) (x y : Thing) → thing_at s.heap object ≡ Some x → mould_of y ≡ mould_of x → ThingFits (over s.heap []) y → Now (record s { heap = put_thing s.heap object y }) f fs m
    now_put s f fs m n object x y ex same h =
        let heap : List Thing = put_thing s.heap object y in
        let more = puts s.heap object x y ex same in
        record {
          stored = record {
            heap = λ i z e. ⊎_elim (λ o. thing_more s.heap heap more z (n.stored.heap i z o)) (λ o. subst (ThingFits (over heap [])) (sym o) (thing_more s.heap heap more y h)) (put_either s.heap object x y ex same i z e);
            statics = λ g i k e o. more.keeps i (OfStatic k) (n.stored.statics g i k e o);
            literals = λ units i e. let z = n.stored.literals units i e in (z.0, more.keeps i (OfText z.0) z.1);
            going = n.stored.going;
          };
          base = base_more s.heap heap more f fs m n.base;
          slots = slots_more s.heap heap more f fs m n.slots;
          callers = callers_more s.heap heap more f.initialiser m.returns fs n.callers;
        }
