-- Calls, constructors and returns.
use Rattle.std.proofs.Common.{◌≡◌, ℕ, ◌-◌, Bool, true, false, ◌&&◌, List, [], ◌∷◌, ◌++◌, map, length, Option, Some, None, refl, sym, ap, ◌∙◌, subst, arith}
use Rattle.std.specs.Prelude.{ℤ}
use Rattle.std.specs.Option.{option_map}
use Rattle.board_types.specs.declared.board.Known.TheVariants.{NullReference}
use Rattle.plain_types.specs.declared.elem.Elem.TheVariants as elem
use Rattle.machine.specs.Data.{Id, CliType, Basic, ClassOf, PlaceType, Plain, To, Bits, Refers, InObject, cell_of, end_of, type_of, Value, Object, Pointer, Thing, Instance, Boxed, Frame, State, Returned}
use Rattle.machine.specs.Program.{Program, Line, Method, Body, Code, Native, Missing, Call, CallVirtual, NewObject}
use Rattle.machine.specs.Numbers.{zero_of, as_int}
use Rattle.machine.specs.Throw.{on_some}
use Rattle.machine.specs.Rows.{on_top, take_arguments, keep_all, on_thing}
use Rattle.machine.specs.Natives.{class_of_type}
use Rattle.machine.specs.Calls.{enter, invoke, call, receiver, call_virtual, construct, new_object, result_of, with_result, number_of, hand_back, return_value}
use Rattle.machine.specs.Trace.{is_main_result}
use Rattle.machine_typed.specs.Typing.{StackType, O, of_type, loaded, is_plain_place, assignable, all_assignable, with_type, has_body, call_types, has_receiver, is_plain_code, result_types, effect}
use Rattle.machine_typed.specs.Accepted.{Typing, BodyFits, Receives, Dispatches, Leads, Accepted}
use Rattle.machine_typed.proofs.Heaps.{OfBox, same_heap, mould_there, grows, some_inv, and_left, and_right}
use Rattle.machine_typed.proofs.Types.{type_same, type_held, number_cell, refers_cell}
use Rattle.machine_typed.proofs.Values.{Context, flat_type, HasType, HaveAll, has_more, has_flat, has_fits, have_fits, take_have, kept_has, keep_all_have}
use Rattle.machine_typed.proofs.States.{over, There, Below, Callers, Stored, FineAt, Goes, some_goes, type_there, Now, method_fits, goes_fine, now_grown}
use Rattle.machine_typed.proofs.Throws.{fresh}
use Rattle.machine_typed.proofs.Operators.{int_here}
use Rattle.machine_typed.proofs.Steps.{when_inv, top_inv, from_heap, have_over, new_has, thing_goes, starts_fine, below_call}
use Rattle.machine_typed.proofs.Things.{box_there}
use Rattle.machine_typed.proofs.NativeRows.{native_fine}

plain_code : (b : Body) (r : Option PlaceType) → is_plain_code b r ≡ true → (b ≡ Code) × (r ≡ None)
plain_code Code None e = (refl, refl)
plain_code Code (Some k) e = absurd (cc e)
plain_code (Native name) None e = absurd (cc e)
plain_code (Native name) (Some k) e = absurd (cc e)
plain_code Missing None e = absurd (cc e)
plain_code Missing (Some k) e = absurd (cc e)

module _ (p : Program) (t : Typing) (a : Accepted p t) (s : State) (f : Frame) (fs : List Frame) (m : Method) (n : Now p t s f fs m) (fr : s.frames ≡ f ∷ fs) (line : Line) (is : p.fetch f.method f.place ≡ Some line) (ts us : List StackType) (l : Leads p t f.method f.place us line.next) (have : HaveAll p (over s.heap (f ∷ fs)) f.stack ts) where
  abbrev cx : Context
  cx = over s.heap (f ∷ fs)

  enter_fine : (rest : List Value) (types : List StackType) → HaveAll p cx rest types → (id : Id) (c : Method) → p.method id ≡ Some c → Some (with_type c.returns types) ≡ Some us → (arguments : List Value) → HaveAll p cx arguments (map loaded c.arguments) → (b : Body) → c.body ≡ b → has_body b ≡ true → Goes p t (enter p s f fs line.next rest id c arguments b)
  enter_fine rest types hrest id c there e arguments h Code x some =
      let w = below_call p t a s f fs m n line c rest types us is l e hrest in
      starts_fine p t a s f fs m n rest id c arguments there x h w.0 w.1
  enter_fine rest types hrest id c there e arguments h (Native name) x some =
      native_fine p t a s f fs m n fr line.next us l rest types hrest c e name (subst (λ b. BodyFits p t id c b) x (a.methods id c there)) arguments h
  enter_fine rest types hrest id c there e arguments h Missing x some = absurd (cc some)

  invoke_fine : (rest : List Value) (types : List StackType) → HaveAll p cx rest types → (id : Id) (c : Method) → p.method id ≡ Some c → Some (with_type c.returns types) ≡ Some us → (given : List Value) → HaveAll p cx given (map loaded c.arguments) → has_body c.body ≡ true → Goes p t (invoke p s f fs line.next rest id c given)
  unfolding invoke
  invoke_fine rest types hrest id c there e given h some =
      let k = keep_all_have p cx c.arguments given h in
      some_goes p t (keep_all c.arguments given) k.0 _ k.1 (enter_fine rest types hrest id c there e k.0 k.2 c.body refl some)

  pub call_fine : (id : Id) → effect p t.exception m (Call id) ts ≡ Some us → Goes p t (call p s f fs line.next id)
  unfolding call
  call_fine id e =
      let c = some_inv (p.method id) _ us e in
      let b = when_inv (has_body c.0.body) (call_types p c.0 ts) us c.2 in
      let k = some_inv (take_arguments (length c.0.arguments) ts []) _ us b.1 in
      let w = when_inv (all_assignable p k.0.arguments (map loaded c.0.arguments)) _ us k.2 in
      let v = take_have p cx (length c.0.arguments) f.stack [] ts [] k.0 have tt k.1 in
      some_goes p t (p.method id) c.0 _ c.1
      (some_goes p t (take_arguments (length c.0.arguments) f.stack []) v.0 _ v.1
      (invoke_fine v.0.rest k.0.rest v.3 id c.0 c.1 w.1 v.0.arguments
      (have_fits p a.up cx v.0.arguments k.0.arguments (map loaded c.0.arguments) v.2 w.0) b.0))

  -- `this` of the body that was found
  receiver_fine : (object : ℕ) (own : CliType) (x : There p t a s.heap object own) (ks others : List PlaceType) → Receives p t own ks others → (vs : List Value) → HaveAll p cx vs (map loaded others) → (self : Value) × (receiver ks object x.thing ≡ Some self) × HaveAll p cx (self ∷ vs) (map loaded ks)
  receiver_fine object own x [] others r vs h = absurd r
  receiver_fine object own x (Plain owner ∷ these) others r vs h = (
    Object object,
    refl,
    (
      subst (HasType p cx (Object object)) (sym (type_held owner Refers r.1)) (record { own = own; at = type_there p t a s.heap object x.thing own x.at x.type; below = r.0 }),
      subst (λ z. HaveAll p cx vs (map loaded z)) (sym r.2) h,
    ),
  )
  receiver_fine object own x (To owner ∷ these) others r vs h =
      let c = number_cell (cell_of own) r.0 in
      let b = box_there p t (over s.heap []) x.thing x.fits own r.0 x.type in (
        Pointer (Bits c.0) (InObject object 0),
        ap (receiver (To owner ∷ these) object) b.1 ∙ ap (option_map (λ cell. Pointer cell (InObject object 0))) c.1,
        (
          record { own = own; leads = record { mould = OfBox own; there = mould_there s.heap object (Boxed own b.0) (x.at ∙ ap Some b.1); at = refl }; is = c.1; fine = r.1 },
          subst (λ z. HaveAll p cx vs (map loaded z)) (sym r.2) h,
        ),
      )

  virtual_fine : (id : Id) → Dispatches p t id → (c : Method) → p.method id ≡ Some c → (rest : List Value) (types : List StackType) → HaveAll p cx rest types → Some (with_type c.returns types) ≡ Some us → (given : List Value) (ks : List PlaceType) → c.arguments ≡ ks → has_receiver ks ≡ true → HaveAll p cx given (map loaded ks) → Goes p t (on_top given (λ this others. on_thing p s this (λ n thing. on_some (type_of thing) (λ type. on_some (class_of_type p type) (λ class. on_some (p.target class id) (λ found. on_some (p.method found) (λ b. on_some (receiver b.arguments n thing) (λ self. invoke p s f fs line.next rest found b (self ∷ others)))))))))
  virtual_fine id finds c there rest types hrest e given [] x r h = absurd (cc r)
  virtual_fine id finds c there rest types hrest e given (To d ∷ ks) x r h = absurd (cc r)
  virtual_fine id finds c there rest types hrest e [] (Plain d ∷ ks) x r h = absurd h
  virtual_fine id finds c there rest types hrest e (v ∷ vs) (Plain d ∷ ks) x r h =
      let refers = refers_cell (cell_of d) r in
      thing_goes p t a s f fs m n NullReference fr v d (subst (HasType p cx v) (type_held d Refers refers) h.0) _ (λ object own y below.
      let b = finds c d ks own there x refers y.made below in
      let self = receiver_fine object own y b.method.arguments ks b.arguments vs h.1 in
      some_goes p t (type_of y.thing) own _ y.type
      (some_goes p t (class_of_type p own) b.class _ b.named
      (some_goes p t (p.target b.class id) b.body _ b.is
      (some_goes p t (p.method b.body) b.method _ b.there
      (some_goes p t (receiver b.method.arguments object y.thing) self.0 _ self.1
      (invoke_fine rest types hrest b.body b.method b.there (subst (λ o. Some (with_type o types) ≡ Some us) (sym b.returns) e) (self.0 ∷ vs) self.2 b.with_body))))))

  pub call_virtual_fine : (id : Id) → Dispatches p t id → effect p t.exception m (CallVirtual id) ts ≡ Some us → Goes p t (call_virtual p s f fs line.next id)
  unfolding call_virtual
  call_virtual_fine id finds e =
      let c = some_inv (p.method id) _ us e in
      let r = when_inv (has_receiver c.0.arguments) (call_types p c.0 ts) us c.2 in
      let k = some_inv (take_arguments (length c.0.arguments) ts []) _ us r.1 in
      let w = when_inv (all_assignable p k.0.arguments (map loaded c.0.arguments)) _ us k.2 in
      let v = take_have p cx (length c.0.arguments) f.stack [] ts [] k.0 have tt k.1 in
      let g = keep_all_have p cx c.0.arguments v.0.arguments (have_fits p a.up cx v.0.arguments k.0.arguments (map loaded c.0.arguments) v.2 w.0) in
      some_goes p t (p.method id) c.0 _ c.1
      (some_goes p t (take_arguments (length c.0.arguments) f.stack []) v.0 _ v.1
      (some_goes p t (keep_all c.0.arguments v.0.arguments) g.0 _ g.1
      (virtual_fine id finds c.0 c.1 v.0.rest k.0.rest v.3 w.1 g.0 c.0.arguments refl r.0 g.2)))

  pub new_object_fine : (class constructor : Id) → t.made (ClassOf class) ≡ true → effect p t.exception m (NewObject class constructor) ts ≡ Some us → Goes p t (new_object p s f fs class constructor)
  unfolding new_object
  new_object_fine class constructor made_class e =
      let c = some_inv (p.method constructor) _ us e in
      let ks = some_inv (p.fields class) _ us c.2 in
      let xs = top_inv c.0.arguments _ us ks.2 in
      let k = some_inv (take_arguments (length xs.1) ts []) _ us xs.3 in
      let w = when_inv (is_plain_code c.0.body c.0.returns && all_assignable p (O (ClassOf class) ∷ k.0.arguments) (map loaded c.0.arguments)) _ us k.2 in
      let plain = plain_code c.0.body c.0.returns (and_left (is_plain_code c.0.body c.0.returns) _ w.0) in
      let v = take_have p cx (length xs.1) f.stack [] ts [] k.0 have tt k.1 in
      let count : length c.0.arguments - 1 ≡ length xs.1 = omega (arith, ap length xs.2) in
      let made : Thing = Instance class (map zero_of ks.0) in
      let heap : List Thing = s.heap ++ made ∷ [] in
      let now = now_grown p t a s f fs m n made (fresh p t a (over heap []) class ks.0 ks.1 made_class) in
      let this : HasType p (over heap (f ∷ fs)) (Object (end_of s.heap)) (O (ClassOf class)) = new_has p t a s.heap (f ∷ fs) made (ClassOf class) refl in
      let given = have_fits p a.up (over heap (f ∷ fs)) (Object (end_of s.heap) ∷ v.0.arguments) (O (ClassOf class) ∷ k.0.arguments) (map loaded c.0.arguments) (this, have_over p t s.heap heap (f ∷ fs) (grows s.heap made) v.0.arguments k.0.arguments v.2) (and_right (is_plain_code c.0.body c.0.returns) _ w.0) in
      let args = keep_all_have p (over heap (f ∷ fs)) c.0.arguments (Object (end_of s.heap) ∷ v.0.arguments) given in
      let rest = have_over p t s.heap heap (f ∷ fs) (grows s.heap made) v.0.rest k.0.rest v.3 in
      let e' = subst (λ r. Some (with_type r (O (ClassOf class) ∷ k.0.rest)) ≡ Some us) (sym plain.1) w.1 in
      let b = below_call p t a (record s { heap = heap }) f fs m now line c.0 (Object (end_of s.heap) ∷ v.0.rest) (O (ClassOf class) ∷ k.0.rest) us is l e' (this, rest) in
      some_goes p t (p.method constructor) c.0 _ c.1
      (some_goes p t (p.fields class) ks.0 _ ks.1
      (subst (λ i. Goes p t (on_some (take_arguments i f.stack []) (λ t. on_some (keep_all c.0.arguments (Object (end_of s.heap) ∷ t.arguments)) (λ arguments. construct p (record s { heap = heap }) f fs (Object (end_of s.heap) ∷ t.rest) constructor c.0 arguments c.0.body)))) (sym count)
      (some_goes p t (take_arguments (length xs.1) f.stack []) v.0 _ v.1
      (some_goes p t (keep_all c.0.arguments (Object (end_of s.heap) ∷ v.0.arguments)) args.0 _ args.1
      (subst (λ q. Goes p t (construct p (record s { heap = heap }) f fs (Object (end_of s.heap) ∷ v.0.rest) constructor c.0 args.0 q)) (sym plain.0)
      (starts_fine p t a (record s { heap = heap }) f fs m now (Object (end_of s.heap) ∷ v.0.rest) constructor c.0 args.0 c.1 plain.0 args.2 b.0 b.1))))))

-- ---- returns

module _ (p : Program) (t : Typing) (a : Accepted p t) where
  abbrev MayReturn : List Thing → Option PlaceType → Option Value → Type 0
  MayReturn heap None None = Unit {0}
  MayReturn heap (Some k) (Some v) = HasType p (over heap []) v (loaded k)
  MayReturn heap _ _ = ⊥

  plain_flat : (k : PlaceType) (heap : List Thing) (fs : List Frame) (v : Value) → is_plain_place k ≡ true → HasType p (over heap fs) v (loaded k) → HasType p (over heap []) v (loaded k)
  plain_flat (Plain type) heap fs v e h = has_flat p (over heap fs) (over heap []) (same_heap heap) v (of_type type) (flat_type type) h
  plain_flat (To type) heap fs v e h = absurd (cc e)

  results : (heap : List Thing) (fs : List Frame) (r : Option PlaceType) (vs : List Value) (ts us : List StackType) → ((k : PlaceType) → r ≡ Some k → is_plain_place k ≡ true) → HaveAll p (over heap fs) vs ts → result_types p r ts ≡ Some us → (v : Option Value) × (result_of r vs ≡ Some v) × MayReturn heap r v
  results heap fs None vs ts us plain h e = (None, refl, tt)
  results heap fs (Some k) [] [] us plain h e = absurd (cc e)
  results heap fs (Some k) [] (u ∷ ts) us plain h e = absurd h
  results heap fs (Some k) (v ∷ vs) [] us plain h e = absurd h
  results heap fs (Some k) (v ∷ vs) (u ∷ ts) us plain h e =
      let w = when_inv (assignable p u (loaded k)) _ us e in
      let hv = has_fits p a.up (over heap fs) v u (loaded k) h.0 w.0 in
      let z = kept_has p (over heap fs) k v hv in
      (Some v, ap (λ o. on_some {B = Option Value} o (λ w. Some (Some v))) z.1, plain_flat k heap fs v (plain k refl) hv)

  number_fine : (heap : List Thing) (r : Option PlaceType) (v : Option Value) → MayReturn heap r v → is_main_result r ≡ true → (o : Option ℤ) × (number_of v ≡ Some o)
  number_fine heap None None h e = (None, refl)
  number_fine heap (Some (Plain type)) (Some v) h e =
      let z = int_here p (over heap []) v (subst (λ q. HasType p (over heap []) v (of_type q)) (type_same type (Basic elem.I4) e) h) in
      (Some z.0, ap (option_map Some) (ap as_int z.1))
  number_fine heap (Some (To type)) (Some v) h e = absurd (cc e)
  number_fine heap None (Some v) h e = absurd h
  number_fine heap (Some k) None h e = absurd h

  resume_fine : (heap : List Thing) (fs : List Frame) (r : Option PlaceType) (v : Option Value) (stack : List Value) (us : List StackType) → MayReturn heap r v → Below p t (over heap fs) r stack us → HaveAll p (over heap fs) (with_result v stack) us
  resume_fine heap fs None None stack us h b = b
  resume_fine heap fs (Some k) (Some v) stack [] h b = absurd b
  resume_fine heap fs (Some k) (Some v) stack (u ∷ us) h b =
      (has_fits p a.up (over heap fs) v (loaded k) u (has_more p (over heap []) (over heap fs) (from_heap p t heap fs) v (loaded k) h) b.0, b.1)
  resume_fine heap fs None (Some v) stack us h b = absurd h
  resume_fine heap fs (Some k) None stack us h b = absurd h

  hand_back_fine : (s : State) → Stored p t s → (b : Bool) (r : Option PlaceType) (v : Option Value) (fs : List Frame) → MayReturn s.heap r v → Callers p t s.heap b r fs → Goes p t (hand_back p s b v fs)
  hand_back_fine s st b r v [] h c =
      let z = number_fine s.heap r v h c in
      some_goes p t (number_of v) z.0 (λ n. Some (record s { frames = []; end = Returned n })) z.1 tt
  hand_back_fine s st true r v (g ∷ gs) h c =
      subst (FineAt p t (record s { frames = g ∷ gs })) (sym st.going)
      (record { heap = st.heap; statics = st.statics; literals = st.literals; going = st.going }, (c.0, c.1, c.2, c.3, c.4))
  hand_back_fine s st false r v (g ∷ gs) h c =
      some_goes p t (p.fetch g.method g.place) c.3.line _ c.3.is
      (goes_fine p t a s g gs c.0 st c.1 c.4 c.3.line.next (with_result v g.stack) c.3.types c.3.typed (resume_fine s.heap (g ∷ gs) r v g.stack c.3.types h c.3.below) (λ k x. c.2.at k (c.3.stays k x)))

  pub return_fine : (s : State) (f : Frame) (fs : List Frame) (m : Method) → Now p t s f fs m → (ts us : List StackType) → HaveAll p (over s.heap (f ∷ fs)) f.stack ts → result_types p m.returns ts ≡ Some us → Goes p t (return_value p s f fs)
  unfolding return_value
  return_fine s f fs m n ts us have e =
      let z = results s.heap (f ∷ fs) m.returns f.stack ts us (method_fits p t a s.heap f fs m n.base).result have e in
      some_goes p t (p.method f.method) m _ n.base.is
      (some_goes p t (result_of m.returns f.stack) z.0 _ z.1 (hand_back_fine s n.stored f.initialiser m.returns z.0 fs z.2 n.callers))
