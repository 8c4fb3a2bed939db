-- Calls, constructors and returns under a renaming.
use Rattle.std.proofs.Common.{◌≡◌, ℕ, Bool, true, false, List, [], ◌∷◌, ◌++◌, map, length, replicate, Option, Some, None, refl, sym, ap, ◌∙◌, inr}
use Rattle.std.specs.Prelude.{nat_lt}
use Rattle.std.specs.Option.{option_map}
use Rattle.machine.specs.Data.{Id, end_of, PlaceType, Plain, To, cell_of, InObject, Value, Object, Pointer, Thing, Instance, Text, Elements, Boxed, StaticCell, Slot, Nothing, Frame, State}
use Rattle.machine.specs.Program.{Program, Initialiser, Method, Body, Code, Native, Missing}
use Rattle.machine.specs.Numbers.{zero_of, zero_place}
use Rattle.machine.specs.Throw.{on_some, goes}
use Rattle.machine.specs.Rows.{keep_all}
use Rattle.machine.specs.Calls.{if_none, if_room, start_frame, starts, enter, invoke, call, receiver, call_virtual, construct, new_object, with_result, hand_back, return_value, start_code, start_class}
use Rattle.machine_rename.specs.Rename.{Renaming, Answers, type_to, place_type_to, value_to, thing_to, frame_to, state_to, initialiser_to, line_to, clause_to, method_to}
use Rattle.machine_rename.proofs.Base.{cell_law, if_law, some_law, some_law_at, same_law, top_law, length-map_lem, end_law, goes_law}
use Rattle.machine_rename.proofs.ThrowLaws.{zero_place_law, made_law}
use Rattle.machine_rename.proofs.ValueLaws.{keep_all_law, taken_to, taken_law, rest_law, result_law, with_result_law, number_law, nothings_law}
use Rattle.machine_rename.proofs.RowLaws.{type_of_law, thing_law}
use Rattle.machine_rename.proofs.ObjectLaws.{Rows, class_of_type_law}
use Rattle.machine_rename.proofs.NativeLaws.{native_law}

module _ (r : Renaming) where
  places_law : (ks : List PlaceType) → map (value_to r) (map zero_place ks) ≡ map zero_place (map (place_type_to r) ks)
  places_law [] = refl
  places_law (k ∷ ks) = ap (λ v. v ∷ map (value_to r) (map zero_place ks)) (zero_place_law r k) ∙ ap (λ vs. zero_place (place_type_to r k) ∷ vs) (places_law ks)

  pub if_none_law : {A A' : Type 0} (h : A → A') (xs : List A) (o' o : Option State) → o' ≡ option_map (state_to r) o → if_none (map h xs) o' ≡ option_map (state_to r) (if_none xs o)
  if_none_law h [] q o e = e
  if_none_law h (x ∷ xs) q o e = refl

  receiver_law : (ks : List PlaceType) (n : ℕ) (x : Thing) → receiver (map (place_type_to r) ks) n (thing_to r x) ≡ option_map (value_to r) (receiver ks n x)
  receiver_law [] n x = refl
  receiver_law (Plain type ∷ others) n x = refl
  receiver_law (To type ∷ others) n (Boxed own value) =
      ap (option_map (λ cell. Pointer cell (InObject n 0))) (cell_law r own) ∙ go (cell_of own)
    where
      go : (o : Option _) → option_map (λ cell. Pointer cell (InObject n 0)) o ≡ option_map (value_to r) (option_map (λ cell. Pointer cell (InObject n 0)) o)
      go None = refl
      go (Some c) = refl
  receiver_law (To type ∷ others) n (Instance class fields) = refl
  receiver_law (To type ∷ others) n (Text units) = refl
  receiver_law (To type ∷ others) n (Elements element values) = refl
  receiver_law (To type ∷ others) n (StaticCell own value) = refl

module _ (r : Renaming) (low high : Program) (a : Answers r low high) where
  pub start_frame_law : (b : Bool) (id : Id) (m : Method) (arguments : List Value) → start_frame b (r.method id) (method_to r id m) (map (value_to r) arguments) ≡ frame_to r (start_frame b id m arguments)
  start_frame_law b id m arguments =
      let frame : ℕ → List Value → List Slot → Frame = λ n vs ss. record { method = r.method id; initialiser = b; place = n; arguments = map (value_to r) arguments; locals = vs; stack = []; slots = ss } in
      let none : List Slot = replicate (length (map (clause_to r id) m.clauses)) Nothing in
      ap (λ n. frame n (map zero_place (map (place_type_to r) m.locals)) none) (sym (a.begin id))
      ∙ ap (λ vs. frame (r.place id 0) vs none) (sym (places_law r m.locals))
      ∙ ap (λ n. frame (r.place id 0) (map (value_to r) (map zero_place m.locals)) (replicate n Nothing)) (length-map_lem (clause_to r id) m.clauses)
      ∙ ap (frame (r.place id 0) (map (value_to r) (map zero_place m.locals))) (sym (nothings_law r id (length m.clauses)))

  room_law : (f : Frame) (stack : List Value) (o : Option PlaceType) (x' x : Option State) → x' ≡ option_map (state_to r) x → if_room high (frame_to r f) (map (value_to r) stack) (option_map (place_type_to r) o) x' ≡ option_map (state_to r) (if_room low f stack o x)
  room_law f stack None x' x e = e
  room_law f stack (Some k) x' x e =
      some_law (state_to r) (method_to r f.method) _ _ _ _ (a.method f.method) (λ m.
      if_law (state_to r) _ _ _ _ _ _ (ap (λ n. nat_lt n m.max_stack) (length-map_lem (value_to r) stack)) e refl)

  starts_law : (s : State) (f : Frame) (fs : List Frame) (stack : List Value) (id : Id) (m : Method) (arguments : List Value) → starts high (state_to r s) (frame_to r f) (map (frame_to r) fs) (map (value_to r) stack) (r.method id) (method_to r id m) (map (value_to r) arguments) ≡ option_map (state_to r) (starts low s f fs stack id m arguments)
  unfolding starts
  starts_law s f fs stack id m arguments =
      room_law f stack m.returns _ _ (
      some_law (state_to r) (state_to r) _ _ _ _ (goes_law r low high a s f fs f.place stack) (λ t.
      ap (λ g. Some (record (state_to r t) { frames = g ∷ map (frame_to r) t.frames })) (start_frame_law false id m arguments)))

  enter_law : (s : State) (f : Frame) (fs : List Frame) (next : ℕ) (rest : List Value) (id : Id) (m : Method) (arguments : List Value) (body : Body) → low.method id ≡ Some m → m.body ≡ body → enter high (state_to r s) (frame_to r f) (map (frame_to r) fs) (r.place f.method next) (map (value_to r) rest) (r.method id) (method_to r id m) (map (value_to r) arguments) body ≡ option_map (state_to r) (enter low s f fs next rest id m arguments body)
  enter_law s f fs next rest id m arguments Code e is = starts_law s f fs rest id m arguments
  enter_law s f fs next rest id m arguments (Native name) e is =
      native_law r low high a name (λ k h. inr (record { id = id; method = m; name = name; there = e; is = is; throwing = h })) s f fs next rest arguments
  enter_law s f fs next rest id m arguments Missing e is = refl

  invoke_law : (s : State) (f : Frame) (fs : List Frame) (next : ℕ) (rest : List Value) (id : Id) (m : Method) (given : List Value) → low.method id ≡ Some m → invoke high (state_to r s) (frame_to r f) (map (frame_to r) fs) (r.place f.method next) (map (value_to r) rest) (r.method id) (method_to r id m) (map (value_to r) given) ≡ option_map (state_to r) (invoke low s f fs next rest id m given)
  unfolding invoke
  invoke_law s f fs next rest id m given e =
      some_law (state_to r) (map (value_to r)) _ _ _ _ (keep_all_law r m.arguments given) (λ arguments. enter_law s f fs next rest id m arguments m.body e refl)

  pub call_law : (id : Id) → Rows r low high a (λ p s f fs next. call p s f fs next (r.method id)) (λ p s f fs next. call p s f fs next id)
  unfolding call
  call_law id s f fs next =
      some_law_at (state_to r) (method_to r id) _ _ _ _ (a.method id) (λ m e.
      some_law (state_to r) (taken_to r) _ _ _ _ (taken_law r m f.stack) (λ t. invoke_law s f fs next t.rest id m t.arguments e))

  pub call_virtual_law : (id : Id) → Rows r low high a (λ p s f fs next. call_virtual p s f fs next (r.method id)) (λ p s f fs next. call_virtual p s f fs next id)
  unfolding call_virtual
  call_virtual_law id s f fs next =
      some_law (state_to r) (method_to r id) _ _ _ _ (a.method id) (λ m.
      some_law (state_to r) (taken_to r) _ _ _ _ (taken_law r m f.stack) (λ t.
      some_law (state_to r) (map (value_to r)) _ _ _ _ (keep_all_law r m.arguments t.arguments) (λ given.
      top_law (state_to r) (value_to r) given _ _ (λ this others.
      thing_law r low high a s this _ _ (λ n thing.
      some_law (state_to r) (type_to r) _ _ _ _ (type_of_law r thing) (λ type.
      some_law (state_to r) r.type _ _ _ _ (class_of_type_law r low high a type) (λ class.
      some_law (state_to r) r.method _ _ _ _ (a.target class id) (λ found.
      some_law_at (state_to r) (method_to r found) _ _ _ _ (a.method found) (λ b e.
      some_law (state_to r) (value_to r) _ _ _ _ (receiver_law r b.arguments n thing) (λ self.
      invoke_law s f fs next t.rest found b (self ∷ others) e))))))))))

  construct_law : (s : State) (f : Frame) (fs : List Frame) (stack : List Value) (id : Id) (m : Method) (arguments : List Value) (body : Body) → construct high (state_to r s) (frame_to r f) (map (frame_to r) fs) (map (value_to r) stack) (r.method id) (method_to r id m) (map (value_to r) arguments) body ≡ option_map (state_to r) (construct low s f fs stack id m arguments body)
  construct_law s f fs stack id m arguments Code = starts_law s f fs stack id m arguments
  construct_law s f fs stack id m arguments (Native name) = refl
  construct_law s f fs stack id m arguments Missing = refl

  pub new_object_law : (class constructor : Id) (s : State) (f : Frame) (fs : List Frame) → new_object high (state_to r s) (frame_to r f) (map (frame_to r) fs) (r.type class) (r.method constructor) ≡ option_map (state_to r) (new_object low s f fs class constructor)
  unfolding new_object
  new_object_law class constructor s f fs =
      some_law (state_to r) (method_to r constructor) _ _ _ _ (a.method constructor) (λ m.
      some_law (state_to r) (map (type_to r)) _ _ _ _ (a.fields class) (λ ks.
      some_law (state_to r) (taken_to r) _ _ _ _ (rest_law r m f.stack) (λ t.
      ap (λ h. on_some (keep_all (map (place_type_to r) m.arguments) (Object h ∷ map (value_to r) t.arguments)) (λ arguments. construct high (record (state_to r s) { heap = map (thing_to r) s.heap ++ Instance (r.type class) (map zero_of (map (type_to r) ks)) ∷ [] }) (frame_to r f) (map (frame_to r) fs) (Object h ∷ map (value_to r) t.rest) (r.method constructor) (method_to r constructor m) arguments m.body)) (end_law r s.heap)
      ∙ ap (λ h. on_some (keep_all (map (place_type_to r) m.arguments) (Object (end_of s.heap) ∷ map (value_to r) t.arguments)) (λ arguments. construct high (record (state_to r s) { heap = h }) (frame_to r f) (map (frame_to r) fs) (Object (end_of s.heap) ∷ map (value_to r) t.rest) (r.method constructor) (method_to r constructor m) arguments m.body)) (sym (made_law r s.heap class ks))
      ∙ some_law (state_to r) (map (value_to r)) _ _ _ _ (keep_all_law r m.arguments (Object (end_of s.heap) ∷ t.arguments)) (λ arguments.
      construct_law (record s { heap = s.heap ++ Instance class (map zero_of ks) ∷ [] }) f fs (Object (end_of s.heap) ∷ t.rest) constructor m arguments m.body))))

  hand_back_law : (s : State) (b : Bool) (v : Option Value) (fs : List Frame) → hand_back high (state_to r s) b (option_map (value_to r) v) (map (frame_to r) fs) ≡ option_map (state_to r) (hand_back low s b v fs)
  hand_back_law s true v [] = same_law (state_to r) _ _ _ _ (number_law r v) (λ n. refl)
  hand_back_law s false v [] = same_law (state_to r) _ _ _ _ (number_law r v) (λ n. refl)
  hand_back_law s true v (g ∷ gs) = refl
  hand_back_law s false v (g ∷ gs) =
      some_law (state_to r) (line_to r g.method) _ _ _ _ (a.fetch g.method g.place) (λ line.
      ap (λ st. goes high (state_to r s) (frame_to r g) (map (frame_to r) gs) (r.place g.method line.next) st) (with_result_law r v g.stack)
      ∙ goes_law r low high a s g gs line.next (with_result v g.stack))

  pub return_law : (s : State) (f : Frame) (fs : List Frame) → return_value high (state_to r s) (frame_to r f) (map (frame_to r) fs) ≡ option_map (state_to r) (return_value low s f fs)
  unfolding return_value
  return_law s f fs =
      some_law (state_to r) (method_to r f.method) _ _ _ _ (a.method f.method) (λ m.
      some_law (state_to r) (option_map (value_to r)) _ _ _ _ (result_law r m.returns f.stack) (λ v. hand_back_law s f.initialiser v fs))

  start_code_law : (s : State) (i : Initialiser) (m : Method) (body : Body) → start_code high (state_to r s) (initialiser_to r i) (method_to r i.method m) body ≡ option_map (state_to r) (start_code low s i m body)
  start_code_law s i m Code =
      if_none_law r (place_type_to r) m.arguments _ _
      (ap (λ g. Some (record (state_to r s) { started = r.type i.class ∷ map r.type s.started; frames = g ∷ map (frame_to r) s.frames })) (start_frame_law true i.method m []))
  start_code_law s i m (Native name) = refl
  start_code_law s i m Missing = refl

  pub start_class_law : (s : State) (i : Initialiser) → start_class high (state_to r s) (initialiser_to r i) ≡ option_map (state_to r) (start_class low s i)
  unfolding start_class
  start_class_law s i =
      some_law (state_to r) (method_to r i.method) _ _ _ _ (a.method i.method) (λ m. start_code_law s i m m.body)
