-- Each instruction of a typed program has a case, and leads to a typed state.
use Rattle.std.proofs.Common.{◌≡◌, ℕ, Bool, true, false, List, [], ◌∷◌, map, length, Option, Some, None, refl, sym, subst}
use Rattle.std.specs.Prelude.{if◌then◌else◌, slice_get, slice_set, unwrap_or}
use Rattle.std.specs.Int.{w32, cast_unsigned}
use Rattle.std.specs.List.{list_any}
use Rattle.machine.specs.Data.{id_eq, Value, Nothing, Frame, State}
use Rattle.machine.specs.Program.{Program, Instruction, Nop, Push, Dup, Pop, LoadArgument, StoreArgument, LoadArgumentAddress, LoadLocal, StoreLocal, LoadLocalAddress, Binary, Shift, Unary, Compare, Convert, ConvertChecked, Branch, BranchIf, BranchCompare, Switch, Call, CallVirtual, NewObject, Return, LoadField, StoreField, LoadFieldAddress, LoadStatic, StoreStatic, LoadStaticAddress, LoadText, LoadIndirect, StoreIndirect, NewArray, LoadLength, LoadElement, StoreElement, LoadElementAddress, CastClass, IsInstance, Box, Unbox, UnboxAny, Throw, Rethrow, Leave, EndFinally, Initialiser, Line, Method}
use Rattle.machine.specs.Numbers.{agree, is_long, of_bool, binary, shift, unary, compare, branch_compare, convert, convert_checked, truth, kept, as_int}
use Rattle.machine.specs.Throw.{on_some, goes}
use Rattle.machine.specs.Rows.{on_frames}
use Rattle.machine.specs.Objects.{literal_object}
use Rattle.machine.specs.Calls.{start_frame, if_none, start_code, start_class}
use Rattle.machine.specs.Step.{branch_if, act, after_start, step}
use Rattle.machine_typed.specs.Typing.{StackType, I, O, number, loaded, sort_of, binary_type, shift_type, unary_type, compares_references, branches_on_references, is_comparable, is_condition, is_int, type_of_constant, assignable, effect}
use Rattle.machine_typed.specs.Accepted.{Typing, Leads, Flows, Needs, LineFits, MethodFits, BodyFits, Accepted}
use Rattle.machine_typed.proofs.Heaps.{length-replicate, get_map, some_inv}
use Rattle.machine_typed.proofs.Values.{HaveAll, places_have, get_have, set_have, has_fits, kept_has}
use Rattle.machine_typed.proofs.States.{over, Meets, Stored, Running, FineAt, Goes, some_goes, Now, method_fits, leads_fine}
use Rattle.machine_typed.proofs.Throws.{take_up_fine, throw_value_fine, throw_again_fine, leaves_fine}
use Rattle.machine_typed.proofs.Operators.{binary_fine, shift_fine, unary_fine, compare_fine, branch_compare_fine, convert_fine, convert_checked_fine, truth_fine, int_has, constant_has}
use Rattle.machine_typed.proofs.Steps.{when_inv, top_goes, answered_fine}
use Rattle.machine_typed.proofs.FieldRows.{load_field_fine, store_field_fine, load_field_address_fine, load_static_fine, store_static_fine, load_static_address_fine, load_text_fine}
use Rattle.machine_typed.proofs.BoxRows.{cast_class_fine, is_instance_fine, box_fine, unbox_fine, unbox_any_fine}
use Rattle.machine_typed.proofs.ArrayRows.{new_array_fine, load_length_fine, load_element_fine, store_element_fine, load_element_address_fine}
use Rattle.machine_typed.proofs.PointerRows.{load_indirect_fine, store_indirect_fine, argument_address_fine, local_address_fine}
use Rattle.machine_typed.proofs.CallRows.{call_fine, call_virtual_fine, new_object_fine, return_fine}

module _ (p : Program) (t : Typing) (a : Accepted p t) where
  branch_fine : (s : State) (f : Frame) (fs : List Frame) (m : Method) → Now p t s f fs m → (next : ℕ) (on : Bool) (target : ℕ) (o : Option Bool) (b : Bool) → o ≡ Some b → (rest : List Value) (types us : List StackType) → HaveAll p (over s.heap (f ∷ fs)) rest types → Some types ≡ Some us → Leads p t f.method f.place us target → Leads p t f.method f.place us next → Goes p t (branch_if p s f fs next on target o rest)
  branch_fine s f fs m n next on target o b eo rest types us have same to past = some_goes p t o b _ eo (at (agree b on))
    where
      at : (b : Bool) → Goes p t (goes p s f fs (if b then target else next) rest)
      at true = leads_fine p t a s f fs m n target rest types us to same have
      at false = leads_fine p t a s f fs m n next rest types us past same have

  -- one instruction
  act_fine : (s : State) (f : Frame) (fs : List Frame) (m : Method) → Now p t s f fs m → s.frames ≡ f ∷ fs → (line : Line) → p.fetch f.method f.place ≡ Some line → (ts us : List StackType) → HaveAll p (over s.heap (f ∷ fs)) f.stack ts → (i : Instruction) → effect p t.exception m i ts ≡ Some us → Flows p t f.method m f.place i line.next us → Goes p t (act p s f fs line.next i)
  act_fine s f fs m n fr line is ts us have Nop e l = leads_fine p t a s f fs m n line.next f.stack ts us l e have
  act_fine s f fs m n fr line is ts us have (Push v) e l =
      let u = some_inv (type_of_constant p v) _ us e in
      leads_fine p t a s f fs m n line.next (v ∷ f.stack) (u.0 ∷ ts) us l u.2 (constant_has p (over s.heap (f ∷ fs)) v u.0 u.1, have)
  act_fine s f fs m n fr line is ts us have Dup e l =
      top_goes p t (over s.heap (f ∷ fs)) f.stack ts _ _ us have e (λ v rest u types hv hrest e1.
      leads_fine p t a s f fs m n line.next (v ∷ v ∷ rest) (u ∷ u ∷ types) us l e1 (hv, (hv, hrest)))
  act_fine s f fs m n fr line is ts us have Pop e l =
      top_goes p t (over s.heap (f ∷ fs)) f.stack ts _ _ us have e (λ v rest u types hv hrest e1.
      leads_fine p t a s f fs m n line.next rest types us l e1 hrest)
  act_fine s f fs m n fr line is ts us have (LoadArgument i) e l =
      let k = some_inv (slice_get m.arguments i) _ us e in
      let v = get_have p (over s.heap (f ∷ fs)) f.arguments (map loaded m.arguments) i (loaded k.0) n.base.arguments (get_map loaded m.arguments i k.0 k.1) in
      some_goes p t (slice_get f.arguments i) v.0 _ v.1 (leads_fine p t a s f fs m n line.next (v.0 ∷ f.stack) (loaded k.0 ∷ ts) us l k.2 (v.2, have))
  act_fine s f fs m n fr line is ts us have (StoreArgument i) e l =
      let k = some_inv (slice_get m.arguments i) _ us e in
      some_goes p t (p.method f.method) m _ n.base.is
      (some_goes p t (slice_get m.arguments i) k.0 _ k.1
      (top_goes p t (over s.heap (f ∷ fs)) f.stack ts _ _ us have k.2 (λ v rest u types hv hrest e1.
      let w = when_inv (assignable p u (loaded k.0)) _ us e1 in
      let z = kept_has p (over s.heap (f ∷ fs)) k.0 v (has_fits p a.up (over s.heap (f ∷ fs)) v u (loaded k.0) hv w.0) in
      some_goes p t (kept k.0 v) z.0 _ z.1
      (leads_fine p t a s (record f { arguments = slice_set f.arguments i z.0 }) fs m
      (record {
        stored = n.stored;
        base = record { is = n.base.is; code = n.base.code; arguments = set_have p (over s.heap (f ∷ fs)) f.arguments (map loaded m.arguments) i (loaded k.0) z.0 n.base.arguments (get_map loaded m.arguments i k.0 k.1) z.2; locals = n.base.locals; count = n.base.count };
        slots = record { at = n.slots.at };
        callers = n.callers;
      })
      line.next rest types us l w.1 hrest))))
  act_fine s f fs m n fr line is ts us have (LoadArgumentAddress i) e l = argument_address_fine p t a s f fs m n fr line.next ts us l have i e
  act_fine s f fs m n fr line is ts us have (LoadLocal i) e l =
      let k = some_inv (slice_get m.locals i) _ us e in
      let v = get_have p (over s.heap (f ∷ fs)) f.locals (map loaded m.locals) i (loaded k.0) n.base.locals (get_map loaded m.locals i k.0 k.1) in
      some_goes p t (slice_get f.locals i) v.0 _ v.1 (leads_fine p t a s f fs m n line.next (v.0 ∷ f.stack) (loaded k.0 ∷ ts) us l k.2 (v.2, have))
  act_fine s f fs m n fr line is ts us have (StoreLocal i) e l =
      let k = some_inv (slice_get m.locals i) _ us e in
      some_goes p t (p.method f.method) m _ n.base.is
      (some_goes p t (slice_get m.locals i) k.0 _ k.1
      (top_goes p t (over s.heap (f ∷ fs)) f.stack ts _ _ us have k.2 (λ v rest u types hv hrest e1.
      let w = when_inv (assignable p u (loaded k.0)) _ us e1 in
      let z = kept_has p (over s.heap (f ∷ fs)) k.0 v (has_fits p a.up (over s.heap (f ∷ fs)) v u (loaded k.0) hv w.0) in
      some_goes p t (kept k.0 v) z.0 _ z.1
      (leads_fine p t a s (record f { locals = slice_set f.locals i z.0 }) fs m
      (record {
        stored = n.stored;
        base = record { is = n.base.is; code = n.base.code; locals = set_have p (over s.heap (f ∷ fs)) f.locals (map loaded m.locals) i (loaded k.0) z.0 n.base.locals (get_map loaded m.locals i k.0 k.1) z.2; arguments = n.base.arguments; count = n.base.count };
        slots = record { at = n.slots.at };
        callers = n.callers;
      })
      line.next rest types us l w.1 hrest))))
  act_fine s f fs m n fr line is ts us have (LoadLocalAddress i) e l = local_address_fine p t a s f fs m n fr line.next ts us l have i e
  act_fine s f fs m n fr line is ts us have (Binary operator) e l =
      top_goes p t (over s.heap (f ∷ fs)) f.stack ts _ _ us have e (λ y below uy below_types hy hbelow e1.
      top_goes p t (over s.heap (f ∷ fs)) below below_types _ _ us hbelow e1 (λ x rest ux types hx hrest e2.
      let z = some_inv (binary_type (sort_of ux) (sort_of uy)) _ us e2 in
      answered_fine p t a s f fs m n line.next rest z.0 types us fr l z.2 hrest (binary operator x y) (binary_fine p (over s.heap (f ∷ fs)) operator x y ux uy z.0 hx hy z.1)))
  act_fine s f fs m n fr line is ts us have (Shift operator) e l =
      top_goes p t (over s.heap (f ∷ fs)) f.stack ts _ _ us have e (λ y below uy below_types hy hbelow e1.
      top_goes p t (over s.heap (f ∷ fs)) below below_types _ _ us hbelow e1 (λ x rest ux types hx hrest e2.
      let z = some_inv (shift_type (sort_of ux) (sort_of uy)) _ us e2 in
      let v = shift_fine p (over s.heap (f ∷ fs)) operator x y ux uy z.0 hx hy z.1 in
      some_goes p t (shift operator x y) v.0 _ v.1 (leads_fine p t a s f fs m n line.next (v.0 ∷ rest) (z.0 ∷ types) us l z.2 (v.2, hrest))))
  act_fine s f fs m n fr line is ts us have (Unary operator) e l =
      top_goes p t (over s.heap (f ∷ fs)) f.stack ts _ _ us have e (λ x rest ux types hx hrest e1.
      let z = some_inv (unary_type (sort_of ux)) _ us e1 in
      let v = unary_fine p (over s.heap (f ∷ fs)) operator x ux z.0 hx z.1 in
      some_goes p t (unary operator x) v.0 _ v.1 (leads_fine p t a s f fs m n line.next (v.0 ∷ rest) (z.0 ∷ types) us l z.2 (v.2, hrest)))
  act_fine s f fs m n fr line is ts us have (Compare comparison) e l =
      top_goes p t (over s.heap (f ∷ fs)) f.stack ts _ _ us have e (λ y below uy below_types hy hbelow e1.
      top_goes p t (over s.heap (f ∷ fs)) below below_types _ _ us hbelow e1 (λ x rest ux types hx hrest e2.
      let w = when_inv (is_comparable (compares_references comparison) (sort_of ux) (sort_of uy)) _ us e2 in
      let b = compare_fine p (over s.heap (f ∷ fs)) comparison x y ux uy hx hy w.0 in
      some_goes p t (compare comparison x y) b.0 _ b.1 (leads_fine p t a s f fs m n line.next (of_bool b.0 ∷ rest) (I ∷ types) us l w.1 (tt, hrest))))
  act_fine s f fs m n fr line is ts us have (Convert integer) e l =
      top_goes p t (over s.heap (f ∷ fs)) f.stack ts _ _ us have e (λ x rest ux types hx hrest e1.
      let z = some_inv (unary_type (sort_of ux)) _ us e1 in
      let v = convert_fine p (over s.heap (f ∷ fs)) integer x ux z.0 hx z.1 in
      some_goes p t (convert integer x) v.0 _ v.1 (leads_fine p t a s f fs m n line.next (v.0 ∷ rest) (number (is_long integer) ∷ types) us l z.2 (v.2, hrest)))
  act_fine s f fs m n fr line is ts us have (ConvertChecked integer source) e l =
      top_goes p t (over s.heap (f ∷ fs)) f.stack ts _ _ us have e (λ x rest ux types hx hrest e1.
      let z = some_inv (unary_type (sort_of ux)) _ us e1 in
      answered_fine p t a s f fs m n line.next rest (number (is_long integer)) types us fr l z.2 hrest (convert_checked integer source x) (convert_checked_fine p (over s.heap (f ∷ fs)) integer source x ux z.0 hx z.1))
  act_fine s f fs m n fr line is ts us have (Branch target) e l = leads_fine p t a s f fs m n target f.stack ts us l e have
  act_fine s f fs m n fr line is ts us have (BranchIf on target) e l =
      top_goes p t (over s.heap (f ∷ fs)) f.stack ts _ _ us have e (λ v rest u types hv hrest e1.
      let w = when_inv (is_condition (sort_of u)) _ us e1 in
      let b = truth_fine p (over s.heap (f ∷ fs)) v u hv w.0 in
      branch_fine s f fs m n line.next on target (truth v) b.0 b.1 rest types us hrest w.1 l.0 l.1)
  act_fine s f fs m n fr line is ts us have (BranchCompare comparison on target) e l =
      top_goes p t (over s.heap (f ∷ fs)) f.stack ts _ _ us have e (λ y below uy below_types hy hbelow e1.
      top_goes p t (over s.heap (f ∷ fs)) below below_types _ _ us hbelow e1 (λ x rest ux types hx hrest e2.
      let w = when_inv (is_comparable (branches_on_references comparison) (sort_of ux) (sort_of uy)) _ us e2 in
      let b = branch_compare_fine p (over s.heap (f ∷ fs)) comparison x y ux uy hx hy w.0 in
      branch_fine s f fs m n line.next on target (branch_compare comparison x y) b.0 b.1 rest types us hrest w.1 l.0 l.1))
  act_fine s f fs m n fr line is ts us have (Switch targets) e l =
      top_goes p t (over s.heap (f ∷ fs)) f.stack ts _ _ us have e (λ v rest u types hv hrest e1.
      let w = when_inv (is_int u) _ us e1 in
      let i = int_has p (over s.heap (f ∷ fs)) v u hv w.0 in
      some_goes p t (as_int v) i.0 _ i.1 (go rest types hrest w.1 (slice_get targets (cast_unsigned w32 i.0)) (λ to x. l.0 (cast_unsigned w32 i.0) to x)))
    where
      go : (rest : List Value) (types : List StackType) → HaveAll p (over s.heap (f ∷ fs)) rest types → Some types ≡ Some us → (o : Option ℕ) → ((to : ℕ) → o ≡ Some to → Leads p t f.method f.place us to) → Goes p t (goes p s f fs (unwrap_or o line.next) rest)
      go rest types h e None g = leads_fine p t a s f fs m n line.next rest types us l.1 e h
      go rest types h e (Some to) g = leads_fine p t a s f fs m n to rest types us (g to refl) e h
  act_fine s f fs m n fr line is ts us have (Call id) e l = call_fine p t a s f fs m n fr line is ts us l have id e
  act_fine s f fs m n fr line is ts us have (CallVirtual id) e l = call_virtual_fine p t a s f fs m n fr line is ts us l.1 have id l.0 e
  act_fine s f fs m n fr line is ts us have (NewObject class constructor) e l = new_object_fine p t a s f fs m n fr line is ts us l.1 have class constructor l.0 e
  act_fine s f fs m n fr line is ts us have Return e l = return_fine p t a s f fs m n ts us have e
  act_fine s f fs m n fr line is ts us have (LoadField owner i) e l = load_field_fine p t a s f fs m n fr line.next ts us l.1 have owner i l.0 e
  act_fine s f fs m n fr line is ts us have (StoreField owner i) e l = store_field_fine p t a s f fs m n fr line.next ts us l.1 have owner i l.0 e
  act_fine s f fs m n fr line is ts us have (LoadFieldAddress owner i) e l = load_field_address_fine p t a s f fs m n fr line.next ts us l.1 have owner i l.0 e
  act_fine s f fs m n fr line is ts us have (LoadStatic id) e l = load_static_fine p t a s f fs m n fr line.next ts us l have id e
  act_fine s f fs m n fr line is ts us have (StoreStatic id) e l = store_static_fine p t a s f fs m n fr line.next ts us l have id e
  act_fine s f fs m n fr line is ts us have (LoadStaticAddress id) e l = load_static_address_fine p t a s f fs m n fr line.next ts us l have id e
  act_fine s f fs m n fr line is ts us have (LoadText units) e l = load_text_fine p t a s f fs m n fr line.next ts us l have units e (literal_object s.literals units) refl
  act_fine s f fs m n fr line is ts us have (LoadIndirect access) e l = load_indirect_fine p t a s f fs m n fr line.next ts us l have access e
  act_fine s f fs m n fr line is ts us have (StoreIndirect access) e l = store_indirect_fine p t a s f fs m n fr line.next ts us l have access e
  act_fine s f fs m n fr line is ts us have (NewArray element) e l = new_array_fine p t a s f fs m n fr line.next ts us l.1 have element l.0 e
  act_fine s f fs m n fr line is ts us have LoadLength e l = load_length_fine p t a s f fs m n fr line.next ts us l have e
  act_fine s f fs m n fr line is ts us have (LoadElement access) e l = load_element_fine p t a s f fs m n fr line.next ts us l have access e
  act_fine s f fs m n fr line is ts us have (StoreElement access) e l = store_element_fine p t a s f fs m n fr line.next ts us l have access e
  act_fine s f fs m n fr line is ts us have (LoadElementAddress type) e l = load_element_address_fine p t a s f fs m n fr line.next ts us l have type e
  act_fine s f fs m n fr line is ts us have (CastClass type) e l = cast_class_fine p t a s f fs m n fr line.next ts us l have type e
  act_fine s f fs m n fr line is ts us have (IsInstance type) e l = is_instance_fine p t a s f fs m n fr line.next ts us l have type e
  act_fine s f fs m n fr line is ts us have (Box type) e l = box_fine p t a s f fs m n fr line.next ts us l.1 have type l.0 e
  act_fine s f fs m n fr line is ts us have (Unbox type) e l = unbox_fine p t a s f fs m n fr line.next ts us l have type e
  act_fine s f fs m n fr line is ts us have (UnboxAny type) e l = unbox_any_fine p t a s f fs m n fr line.next ts us l have type e
  act_fine s f fs m n fr line is ts us have Throw e l =
      top_goes p t (over s.heap (f ∷ fs)) f.stack ts _ _ us have e (λ v rest u types hv hrest e1.
      let w = when_inv (assignable p u (O t.exception)) _ us e1 in
      throw_value_fine p t a s f fs m n fr v (has_fits p a.up (over s.heap (f ∷ fs)) v u (O t.exception) hv w.0))
  act_fine s f fs m n fr line is ts us have (Rethrow k) e l = throw_again_fine p t a s f fs m n fr (slice_get f.slots k) ((n.slots.at k l.0).caught l.1)
  act_fine s f fs m n fr line is ts us have (Leave target) e l = some_goes p t (p.method f.method) m _ n.base.is (leaves_fine p t a s f fs m n target l)
  act_fine s f fs m n fr line is ts us have (EndFinally k) e l = take_up_fine p t a s f fs m n k l.0 (slice_get f.slots k) ((n.slots.at k l.0).plan l.1)

  -- an initialiser starts over a frame that will meet its instruction again
  initialiser_fine : (s : State) (f : Frame) (fs : List Frame) (m : Method) → Now p t s f fs m → s.frames ≡ f ∷ fs → Meets p t s.heap f fs → (i : Initialiser) → Needs p t (Some i) → Goes p t (start_class p s i)
  unfolding start_class
  initialiser_fine s f fs m n fr met i w =
      some_goes p t (p.method i.method) w.0 _ w.1
      (subst (λ b. Goes p t (start_code p s i w.0 b)) (sym w.3)
      (subst (λ ks. Goes p t (if_none ks (Some (record s { started = i.class ∷ s.started; frames = start_frame true i.method w.0 [] ∷ s.frames })))) (sym w.2)
      (subst (λ q. Goes p t (Some (record s { started = i.class ∷ s.started; frames = start_frame true i.method w.0 [] ∷ q }))) (sym fr)
      (subst (FineAt p t (record s { started = i.class ∷ s.started; frames = start_frame true i.method w.0 [] ∷ f ∷ fs })) (sym n.stored.going) (
        record { heap = n.stored.heap; statics = n.stored.statics; literals = n.stored.literals; going = n.stored.going },
        (
          w.0,
          record { is = w.1; code = w.3; arguments = subst (λ ks. HaveAll p (over s.heap (start_frame true i.method w.0 [] ∷ f ∷ fs)) [] (map loaded ks)) (sym w.2) tt; locals = places_have p (over s.heap (start_frame true i.method w.0 [] ∷ f ∷ fs)) w.0.locals callee.locals; count = length-replicate (length w.0.clauses) Nothing },
          record { at = λ k e. absurd (callee.outside k e) },
          record { types = []; typed = callee.begin; stack = tt },
          (m, n.base, n.slots, met, n.callers),
        ),
      )))))
    where
      callee : MethodFits p t i.method w.0
      callee = subst (λ b. BodyFits p t i.method w.0 b) w.3 (a.methods i.method w.0 w.1)

  pub step_fine : (s : State) → Stored p t s → Running p t s s.frames → Goes p t (step p s)
  unfolding step
  step_fine s st h = at s.frames refl h
    where
      after : (f : Frame) (fs : List Frame) (m : Method) → Now p t s f fs m → s.frames ≡ f ∷ fs → (met : Meets p t s.heap f fs) (x : LineFits p t f.method m f.place met.types) → (o : Option Initialiser) → x.line.needs ≡ o → Goes p t (after_start p s f fs x.line o)
      after f fs m n fr met x None e = act_fine s f fs m n fr x.line x.is met.types x.after met.stack x.line.instruction x.effects x.flows
      after f fs m n fr met x (Some i) e =
          pick (list_any (id_eq i.class) s.started)
          (act_fine s f fs m n fr x.line x.is met.types x.after met.stack x.line.instruction x.effects x.flows)
          (initialiser_fine s f fs m n fr met i (subst (Needs p t) e x.needs))
        where
          pick : (b : Bool) → Goes p t (act p s f fs x.line.next x.line.instruction) → Goes p t (start_class p s i) → Goes p t (if b then act p s f fs x.line.next x.line.instruction else start_class p s i)
          pick true g h = g
          pick false g h = h

      at : (fr : List Frame) → s.frames ≡ fr → Running p t s fr → Goes p t (on_frames fr (λ f fs. on_some (p.fetch f.method f.place) (λ line. after_start p s f fs line line.needs)))
      at [] e h = absurd h
      at (f ∷ fs) e h =
          let x = (method_fits p t a s.heap f fs h.0 h.1).lines f.place h.3.types h.3.typed in
          some_goes p t (p.fetch f.method f.place) x.line _ x.is
          (after f fs h.0 (record { stored = st; base = h.1; slots = h.2; callers = h.4 }) e h.3 x x.line.needs refl)
