-- Rows on methods.
use Rattle.std.proofs.Common.{◌≡◌, ℕ, zero, suc, ◌-◌, Bool, true, false, List, [], ◌∷◌, ◌++◌, map, length, replicate, Option, Some, None, refl, sym, ap, subst, arith}
use Rattle.std.specs.Prelude.{if◌then◌else◌, nat_le, nat_lt}
use Rattle.std.specs.Option.{option_map}
use Rattle.board_types.specs.declared.board.Known.TheVariants.{NullReference}
use Rattle.machine.specs.Data.{Id, CliType, Basic, EnumOf, ClassOf, ValueOf, ArrayOf, Spot, InArgument, InLocal, thing_at, end_of, type_of, PlaceType, Plain, To, Cell, Bits, Refers, cell_of, InObject, Value, Int, Long, Null, Object, Handle, Pointer, Thing, Instance, Text, Elements, Boxed, StaticCell, Nothing, Frame, State}
use Rattle.machine.specs.Program.{Program, Initialiser, Method, Body, Code, Native, Missing}
use Rattle.machine.specs.Numbers.{Holds, kind_of_type, kept, kept_in, kept_by, zero_of, zero_place}
use Rattle.machine.specs.Throw.{goes}
use Rattle.machine.specs.Rows.{take_arguments, keep_all}
use Rattle.machine.specs.Natives.{class_of_type}
use Rattle.machine.specs.Calls.{start_frame, if_room, starts, enter, invoke, call, receiver, call_virtual, construct, new_object, result_of, with_result, number_of, hand_back, return_value, if_none, start_code, start_class}
use Rattle.machine_whole.specs.Whole.{OfBox, mould_of, Context, over, is_plain_result, Regular, There, Names, AllName, FrameWhole, FramesWhole, ThingWhole, Stored, Whole}
use Rattle.machine_whole.proofs.Heaps.{grows, get_seam, mould_there, some_same, some_inv}
use Rattle.machine_whole.proofs.Named.{map_inv, names_more, all_more, pushed, from_heap, reach, slots_fresh, places_name, taken_name, keep_all_names}
use Rattle.machine_whole.proofs.States.{length-map, Now, Fine, fine_some, fine_if, fine_top, now_grown, goes_fine, zeros_thing, thing_fine}
use Rattle.machine_whole.proofs.Natives.{native_fine}

length-replicate : {A : Type 0} (n : ℕ) (x : A) → length (replicate n x) ≡ n
length-replicate zero x = refl
length-replicate (suc n) x = ap suc (length-replicate n x)

if_same : {A : Type 0} (b : Bool) (x y : A) → (if b then Some x else None) ≡ Some y → x ≡ y
if_same true x y e = some_same x y e
if_same false x y e = absurd (cc e)

-- the state from which a frame goes on
goes_is : (p : Program) (s : State) (f : Frame) (fs : List Frame) (place : ℕ) (stack : List Value) (t : State) → goes p s f fs place stack ≡ Some t → record s { frames = record f { place = place; stack = stack } ∷ fs } ≡ t
unfolding goes
goes_is p s f fs place stack t e =
    let m = some_inv (p.method f.method) (λ m. if nat_le (length stack) m.max_stack then Some (record s { frames = record f { place = place; stack = stack } ∷ fs }) else None) t e in
    if_same (nat_le (length stack) m.0.max_stack) (record s { frames = record f { place = place; stack = stack } ∷ fs }) t m.2

module _ (fields frames : Bool) (p : Program) where
  -- ---- frames that start

  pub fresh : (heap : List Thing) (fs : List Frame) (initialiser : Bool) (id : Id) (m : Method) (arguments : List Value) → p.method id ≡ Some m → AllName fields frames p (over heap fs) arguments → length arguments ≡ length m.arguments → FrameWhole fields frames p heap (start_frame initialiser id m arguments) fs
  fresh heap fs initialiser id m arguments is h count =
      let f : Frame = start_frame initialiser id m arguments in
      record {
        of = m;
        is = is;
        arguments = all_more fields frames p (over heap fs) (over heap (f ∷ fs)) (pushed fields frames p heap f fs) arguments h;
        locals = places_name fields frames p (over heap (f ∷ fs)) m.locals;
        stack = tt;
        slots = slots_fresh fields frames p heap (length m.clauses);
        argument_count = count;
        local_count = length-map zero_place m.locals;
        slot_count = length-replicate (length m.clauses) Nothing;
        depth = omega arith;
      }

  room_fine : (f : Frame) (stack : List Value) (r : Option PlaceType) (o : Option State) → Fine fields frames p o → Fine fields frames p (if_room p f stack r o)
  room_fine f stack None o h = h
  room_fine f stack (Some k) o h = fine_some fields frames p (p.method f.method) _ (λ m e. fine_if fields frames p (nat_lt (length stack) m.max_stack) o None (λ b. h) (λ b. tt))

  starts_fine : (s : State) (f : Frame) (fs : List Frame) → Now fields frames p s f fs → (stack : List Value) → AllName fields frames p (over s.heap (f ∷ fs)) stack → (id : Id) (m : Method) (arguments : List Value) → p.method id ≡ Some m → AllName fields frames p (over s.heap (f ∷ fs)) arguments → length arguments ≡ length m.arguments → Fine fields frames p (starts p s f fs stack id m arguments)
  unfolding starts
  starts_fine s f fs n stack hs id m arguments is h count =
      room_fine f stack m.returns _
      (fine_some fields frames p (goes p s f fs f.place stack) _ (λ t e.
      let g : Frame = record f { stack = stack } in
      let u : State = record s { frames = g ∷ fs } in
      let w : Whole fields frames p t = subst (Fine fields frames p) e (goes_fine fields frames p s f fs n f.place stack hs) in
      let same : u ≡ t = goes_is p s f fs f.place stack t e in
      let v : Whole fields frames p u = subst (Whole fields frames p) (sym same) w in
      subst (λ (t : State). Whole fields frames p (record t { frames = start_frame false id m arguments ∷ t.frames })) same
      (record {
        stored = record { things = v.stored.things; statics = v.stored.statics; literals = v.stored.literals };
        stack = (fresh s.heap (g ∷ fs) false id m arguments is h count, v.stack);
      })))

  module _ (s : State) (f : Frame) (fs : List Frame) (w : Whole fields frames p s) (n : Now fields frames p s f fs) (next : ℕ) where
    abbrev cx : Context
    cx = over s.heap (f ∷ fs)

    enter_fine : (rest : List Value) → AllName fields frames p cx rest → (id : Id) (m : Method) (arguments : List Value) → p.method id ≡ Some m → AllName fields frames p cx arguments → length arguments ≡ length m.arguments → (b : Body) → Fine fields frames p (enter p s f fs next rest id m arguments b)
    enter_fine rest hr id m arguments is h count Code = starts_fine s f fs n rest hr id m arguments is h count
    enter_fine rest hr id m arguments is h count (Native name) = native_fine fields frames p s f fs w n next rest hr name arguments
    enter_fine rest hr id m arguments is h count Missing = tt

    invoke_fine : (rest : List Value) → AllName fields frames p cx rest → (id : Id) (m : Method) (given : List Value) → p.method id ≡ Some m → AllName fields frames p cx given → Fine fields frames p (invoke p s f fs next rest id m given)
    unfolding invoke
    invoke_fine rest hr id m given is h =
        fine_some fields frames p (keep_all m.arguments given) _ (λ arguments e.
        let k = keep_all_names fields frames p cx m.arguments given arguments h e in
        enter_fine rest hr id m arguments is k.0 k.1 m.body)

    pub call_fine : (id : Id) → Fine fields frames p (call p s f fs next id)
    unfolding call
    call_fine id =
        fine_some fields frames p (p.method id) _ (λ m is.
        fine_some fields frames p (take_arguments (length m.arguments) f.stack []) _ (λ t e.
        let k = taken_name fields frames p cx (length m.arguments) f.stack [] t n.top.stack tt e in
        invoke_fine t.rest k.1 id m t.arguments is k.0))

    receiver_names : (places : List PlaceType) (object : ℕ) (x : Thing) (v : Value) → thing_at s.heap object ≡ Some x → receiver places object x ≡ Some v → Names fields frames p cx v
    receiver_names (To type ∷ others) object (Boxed own old) v e k =
        let y = map_inv (λ cell. Pointer cell (InObject object 0)) (cell_of own) v k in
        subst (Names fields frames p cx) y.2 (record { mould = OfBox own; at = mould_there s.heap object (Boxed own old) e; place = λ z. y.1 })
    receiver_names (To type ∷ others) object (Instance c vs) v e k = absurd (cc k)
    receiver_names (To type ∷ others) object (Text units) v e k = absurd (cc k)
    receiver_names (To type ∷ others) object (Elements b vs) v e k = absurd (cc k)
    receiver_names (To type ∷ others) object (StaticCell own z) v e k = absurd (cc k)
    receiver_names (Plain type ∷ others) object x v e k =
        subst (Names fields frames p cx) (some_same (Object object) v k) (record { mould = mould_of x; at = mould_there s.heap object x e })
    receiver_names [] object x v e k = absurd (cc k)

    pub call_virtual_fine : (id : Id) → Fine fields frames p (call_virtual p s f fs next id)
    unfolding call_virtual
    call_virtual_fine id =
        fine_some fields frames p (p.method id) _ (λ m is.
        fine_some fields frames p (take_arguments (length m.arguments) f.stack []) _ (λ t e.
        let k = taken_name fields frames p cx (length m.arguments) f.stack [] t n.top.stack tt e in
        fine_some fields frames p (keep_all m.arguments t.arguments) _ (λ given e2.
        let g = keep_all_names fields frames p cx m.arguments t.arguments given k.0 e2 in
        fine_top fields frames p cx given _ g.0 (λ this others ht ho.
        thing_fine fields frames p s w NullReference this _ (λ object x e3.
        fine_some fields frames p (type_of x) _ (λ type e4.
        fine_some fields frames p (class_of_type p type) _ (λ class e5.
        fine_some fields frames p (p.target class id) _ (λ found e6.
        fine_some fields frames p (p.method found) _ (λ b e7.
        fine_some fields frames p (receiver b.arguments object x) _ (λ self e8.
        invoke_fine t.rest k.1 found b (self ∷ others) e7 (receiver_names b.arguments object x self e3 e8, ho)))))))))))

    construct_fine : (x : Thing) → ThingWhole fields frames p (s.heap ++ x ∷ []) x → (stack arguments : List Value) (id : Id) (m : Method) → p.method id ≡ Some m → AllName fields frames p (over (s.heap ++ x ∷ []) (f ∷ fs)) stack → AllName fields frames p (over (s.heap ++ x ∷ []) (f ∷ fs)) arguments → length arguments ≡ length m.arguments → (b : Body) → Fine fields frames p (construct p (record s { heap = s.heap ++ x ∷ [] }) f fs stack id m arguments b)
    construct_fine x hx stack arguments id m is hs ha count Code = starts_fine (record s { heap = s.heap ++ x ∷ [] }) f fs (now_grown fields frames p s f fs n x hx) stack hs id m arguments is ha count
    construct_fine x hx stack arguments id m is hs ha count (Native name) = tt
    construct_fine x hx stack arguments id m is hs ha count Missing = tt

    pub new_object_fine : (class constructor : Id) → Fine fields frames p (new_object p s f fs class constructor)
    unfolding new_object
    new_object_fine class constructor =
        fine_some fields frames p (p.method constructor) _ (λ m is.
        fine_some fields frames p (p.fields class) _ (λ types e1.
        fine_some fields frames p (take_arguments (length m.arguments - 1) f.stack []) _ (λ t e2.
        let k = taken_name fields frames p cx (length m.arguments - 1) f.stack [] t n.top.stack tt e2 in
        let x : Thing = Instance class (map zero_of types) in
        let heap : List Thing = s.heap ++ x ∷ [] in
        let r = reach fields frames p s.heap heap (grows s.heap x) (f ∷ fs) in
        let new : There fields frames p heap (end_of s.heap) = record { mould = mould_of x; at = mould_there heap (end_of s.heap) x (get_seam s.heap x) } in
        fine_some fields frames p (keep_all m.arguments (Object (end_of s.heap) ∷ t.arguments)) _ (λ arguments e3.
        let g = keep_all_names fields frames p (over heap (f ∷ fs)) m.arguments (Object (end_of s.heap) ∷ t.arguments) arguments (new, all_more fields frames p cx (over heap (f ∷ fs)) r t.arguments k.0) e3 in
        construct_fine x (zeros_thing fields frames p heap class types e1) (Object (end_of s.heap) ∷ t.rest) arguments constructor m is
        (new, all_more fields frames p cx (over heap (f ∷ fs)) r t.rest k.1) g.0 g.1 m.body))))

  -- ---- returns

  not_in_cell : (cell wide : Cell) (x : Spot) (w : Value) → kept_in wide (Pointer cell x) ≡ Some w → ⊥
  unfolding kept_in
  not_in_cell cell (Bits i) x w e = cc e
  not_in_cell cell Refers x w e = cc e

  not_held : (o : Option Cell) (cell : Cell) (x : Spot) (w : Value) → kept_by (option_map Holds o) (Pointer cell x) ≡ Some w → ⊥
  not_held None cell x w e = cc e
  not_held (Some wide) cell x w e = not_in_cell cell wide x w e

  not_plain : (type : CliType) (cell : Cell) (x : Spot) (w : Value) → kept_by (kind_of_type type) (Pointer cell x) ≡ Some w → ⊥
  not_plain (Basic e) cell x w k = not_held (cell_of (Basic e)) cell x w k
  not_plain (EnumOf e c) cell x w k = not_held (cell_of (EnumOf e c)) cell x w k
  not_plain (ClassOf c) cell x w k = not_in_cell cell Refers x w k
  not_plain (ValueOf c) cell x w k = cc k
  not_plain (ArrayOf t) cell x w k = not_in_cell cell Refers x w k

  leads_result : (cx : Context) (cell : Cell) (x : Spot) (type : CliType) → (frames ≡ true → is_plain_result (Some (To type)) ≡ true) → Names fields frames p cx (Pointer cell x) → Names fields frames p (over cx.heap []) (Pointer cell x)
  leads_result cx cell (InArgument depth i) type g h = λ e. absurd (let z = g e in cc z)
  leads_result cx cell (InLocal depth i) type g h = λ e. absurd (let z = g e in cc z)
  leads_result cx cell (InObject object i) type g h = record { mould = h.mould; at = h.at; place = h.place }

  -- a result names things alone, or pointers into frames aren't looked at
  pointer_result : (cx : Context) (type : PlaceType) (cell : Cell) (x : Spot) (w : Value) → (frames ≡ true → is_plain_result (Some type) ≡ true) → Names fields frames p cx (Pointer cell x) → kept type (Pointer cell x) ≡ Some w → Names fields frames p (over cx.heap []) (Pointer cell x)
  unfolding kept
  pointer_result cx (Plain type) cell x w g h e = absurd (not_plain type cell x w e)
  pointer_result cx (To type) cell x w g h e = leads_result cx cell x type g h

  value_result : (cx : Context) (type : PlaceType) (v w : Value) → (frames ≡ true → is_plain_result (Some type) ≡ true) → Names fields frames p cx v → kept type v ≡ Some w → Names fields frames p (over cx.heap []) v
  value_result cx type (Int i) w g h e = tt
  value_result cx type (Long i) w g h e = tt
  value_result cx type Null w g h e = tt
  value_result cx type (Handle i) w g h e = tt
  value_result cx type (Object i) w g h e = record { mould = h.mould; at = h.at }
  value_result cx type (Pointer cell x) w g h e = pointer_result cx type cell x w g h e

  abbrev ResultNames : List Thing → Option Value → Type 0
  ResultNames heap None = Unit {0}
  ResultNames heap (Some v) = Names fields frames p (over heap []) v

  result_whole : (cx : Context) (r : Option PlaceType) (stack : List Value) (o : Option Value) → (frames ≡ true → is_plain_result r ≡ true) → AllName fields frames p cx stack → result_of r stack ≡ Some o → ResultNames cx.heap o
  result_whole cx None stack o g h e = subst (ResultNames cx.heap) (some_same None o e) tt
  result_whole cx (Some k) [] o g h e = absurd (cc e)
  result_whole cx (Some k) (v ∷ rest) o g h e =
      let y = some_inv (kept k v) (λ w. Some (Some v)) o e in
      subst (ResultNames cx.heap) (some_same (Some v) o y.2) (value_result cx k v y.0 g h.0 y.1)

  back_stack : (heap : List Thing) (o : Option Value) (g : Frame) (gs : List Frame) → ResultNames heap o → AllName fields frames p (over heap (g ∷ gs)) g.stack → AllName fields frames p (over heap (g ∷ gs)) (with_result o g.stack)
  back_stack heap None g gs h k = k
  back_stack heap (Some v) g gs h k = (names_more fields frames p (over heap []) (over heap (g ∷ gs)) (from_heap fields frames p heap (g ∷ gs)) v h, k)

  hand_back_fine : (s : State) → Stored fields frames p s → (initialiser : Bool) (o : Option Value) → ResultNames s.heap o → (fs : List Frame) → FramesWhole fields frames p s.heap fs → Fine fields frames p (hand_back p s initialiser o fs)
  hand_back_fine s st initialiser o h [] k = fine_some fields frames p (number_of o) _ (λ i e. record { stored = record { things = st.things; statics = st.statics; literals = st.literals }; stack = tt })
  hand_back_fine s st true o h (g ∷ gs) k = record { stored = record { things = st.things; statics = st.statics; literals = st.literals }; stack = k }
  hand_back_fine s st false o h (g ∷ gs) k =
      fine_some fields frames p (p.fetch g.method g.place) _ (λ line e.
      goes_fine fields frames p s g gs (record { stored = st; top = k.0; callers = k.1 }) line.next (with_result o g.stack) (back_stack s.heap o g gs h k.0.stack))

  pub return_fine : Regular fields frames p → (s : State) (f : Frame) (fs : List Frame) → Now fields frames p s f fs → Fine fields frames p (return_value p s f fs)
  unfolding return_value
  return_fine a s f fs n =
      fine_some fields frames p (p.method f.method) _ (λ m is.
      fine_some fields frames p (result_of m.returns f.stack) _ (λ o e.
      hand_back_fine s n.stored f.initialiser o (result_whole (over s.heap (f ∷ fs)) m.returns f.stack o (λ k. a.results k f.method m is) n.top.stack e) fs n.callers))

  -- ---- initialisers

  none_fine : (places : List PlaceType) (o : Option State) → (places ≡ [] → Fine fields frames p o) → Fine fields frames p (if_none places o)
  none_fine [] o g = g refl
  none_fine (k ∷ ks) o g = tt

  start_code_fine : (s : State) → Whole fields frames p s → (i : Initialiser) (m : Method) → p.method i.method ≡ Some m → (b : Body) → Fine fields frames p (start_code p s i m b)
  start_code_fine s w i m is Code =
      none_fine m.arguments _ (λ e.
      record {
        stored = record { things = w.stored.things; statics = w.stored.statics; literals = w.stored.literals };
        stack = (fresh s.heap s.frames true i.method m [] is tt (ap length (sym e)), w.stack);
      })
  start_code_fine s w i m is (Native name) = tt
  start_code_fine s w i m is Missing = tt

  pub start_class_fine : (s : State) → Whole fields frames p s → (i : Initialiser) → Fine fields frames p (start_class p s i)
  unfolding start_class
  start_class_fine s w i = fine_some fields frames p (p.method i.method) _ (λ m is. start_code_fine s w i m is m.body)
