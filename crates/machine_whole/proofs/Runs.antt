-- Instructions, steps and starts.
use Rattle.std.proofs.Common.{◌≡◌, ℕ, ◌+◌, Bool, true, false, List, [], ◌∷◌, map, length, Option, Some, None, refl, sym, ap, ◌∙◌, subst, ⊎_elim}
use Rattle.std.specs.Prelude.{if◌then◌else◌, slice_get, slice_set, unwrap_or}
use Rattle.std.specs.Int.{w32, cast_unsigned}
use Rattle.std.specs.List.{list_any}
use Rattle.std.proofs.lemmas.Bool.{eq-eqb}
use Rattle.plain_types.specs.declared.elem.Elem.TheVariants as elem
use Rattle.machine.specs.Data.{Id, id_eq, Basic, PlaceType, Plain, To, type_eq, Cell, cell_of, thing_at, InArgument, InLocal, Value, Object, Pointer, Thing, Elements, Frame, State}
use Rattle.machine.specs.Program.{Program, Method, Instruction, Nop, Push, Dup, Pop, LoadArgument, StoreArgument, LoadArgumentAddress, LoadLocal, StoreLocal, LoadLocalAddress, Binary, Shift, Unary, Compare, Convert, ConvertChecked, Branch, BranchIf, BranchCompare, Switch, Call, CallVirtual, NewObject, Return, LoadField, StoreField, LoadFieldAddress, LoadStatic, StoreStatic, LoadStaticAddress, LoadText, LoadIndirect, StoreIndirect, NewArray, LoadLength, LoadElement, StoreElement, LoadElementAddress, CastClass, IsInstance, Box, Unbox, UnboxAny, Throw, Rethrow, Leave, EndFinally, Initialiser, Line}
use Rattle.machine.specs.Numbers.{agree, of_bool, binary, shift, unary, compare, branch_compare, convert, convert_checked, truth, kept, as_int}
use Rattle.machine.specs.Throw.{on_some, goes, left}
use Rattle.machine.specs.Rows.{on_frames, method_cells, frames_cells}
use Rattle.machine.specs.Objects.{literal_object}
use Rattle.machine.specs.Calls.{start_frame, start_class, if_none}
use Rattle.machine.specs.Step.{branch_if, place_cell, act, after_start, step}
use Rattle.machine.specs.Trace.{Given, strings, given_for, is_main_result, begun, started_state, start}
use Rattle.machine_whole.specs.Whole.{OfElements, Context, over, is_constant, Regular, chain_cells, id_at, place_at, argument_at, local_at, Names, AllName, FrameWhole, ThingWhole, Stored, Whole}
use Rattle.machine_whole.proofs.Heaps.{get_either, some_same}
use Rattle.machine_whole.proofs.Named.{all_get, binary_names, shift_names, unary_names, convert_names, convert_checked_names, constant_names, kept_names, OptionNames}
use Rattle.machine_whole.proofs.States.{Now, now_of, Fine, fine_some, fine_if, fine_top, goes_fine, answered_fine, throw_value_fine, throw_again_fine, leave_fine, take_up_fine}
use Rattle.machine_whole.proofs.Objects.{two_fine, argument_now, local_now, load_field_fine, store_field_fine, load_field_address_fine, load_static_fine, store_static_fine, load_static_address_fine, load_text_fine, load_indirect_fine, store_indirect_fine, new_array_fine, load_length_fine, load_element_fine, store_element_fine, load_element_address_fine, cast_class_fine, is_instance_fine, box_value_fine, unbox_fine, unbox_any_fine}
use Rattle.machine_whole.proofs.Calls.{fresh, call_fine, call_virtual_fine, new_object_fine, return_fine, start_class_fine}

pub chain_law : (p : Program) (fs : List Frame) → chain_cells p (map (λ (f : Frame). f.method) fs) ≡ frames_cells p fs
chain_law p [] = refl
chain_law p (f ∷ fs) = ap (λ n. method_cells (p.method f.method) + n) (chain_law p fs)

module _ (fields frames : Bool) (p : Program) (a : Regular fields frames p) where
  module _ (s : State) (f : Frame) (fs : List Frame) (w : Whole fields frames p s) (n : Now fields frames p s f fs) (next : ℕ) where
    abbrev cx : Context
    cx = over s.heap (f ∷ fs)

    push : (v : Value) (rest : List Value) → Names fields frames p cx v → AllName fields frames p cx rest → Fine fields frames p (goes p s f fs next (v ∷ rest))
    push v rest h k = goes_fine fields frames p s f fs n next (v ∷ rest) (h, k)

    option_fine : (o : Option Value) (rest : List Value) → OptionNames fields frames p cx o → AllName fields frames p cx rest → Fine fields frames p (on_some o (λ v. goes p s f fs next (v ∷ rest)))
    option_fine None rest h k = tt
    option_fine (Some v) rest h k = push v rest h k

    branch_fine : (on : Bool) (target : ℕ) (o : Option Bool) (rest : List Value) → AllName fields frames p cx rest → Fine fields frames p (branch_if p s f fs next on target o rest)
    branch_fine on target o rest h = fine_some fields frames p o _ (λ b e. goes_fine fields frames p s f fs n (if agree b on then target else next) rest h)

    -- the topmost frame by its cells
    top_is : id_at p (f.method ∷ map (λ (f : Frame). f.method) fs) (frames_cells p (f ∷ fs)) ≡ Some f.method
    top_is = ap (λ (b : Bool). if b then Some f.method else id_at p (map (λ (f : Frame). f.method) fs) (frames_cells p (f ∷ fs))) (eq-eqb (chain_cells p (f.method ∷ map (λ (f : Frame). f.method) fs)) (frames_cells p (f ∷ fs)) (chain_law p (f ∷ fs)))

    argument_is : (m : Method) (i : ℕ) (type : PlaceType) (cell : Cell) → p.method f.method ≡ Some m → slice_get m.arguments i ≡ Some type → place_cell type ≡ Some cell → argument_at p (f.method ∷ map (λ (f : Frame). f.method) fs) (frames_cells p (f ∷ fs)) i ≡ Some cell
    argument_is m i type cell is at e =
        ap (λ o. on_some o (λ id. on_some (p.method id) (λ m. place_at m.arguments i))) top_is
        ∙ ap (λ o. on_some o (λ (m : Method). place_at m.arguments i)) is
        ∙ ap (λ o. on_some o place_cell) at
        ∙ e

    local_is : (m : Method) (i : ℕ) (type : PlaceType) (cell : Cell) → p.method f.method ≡ Some m → slice_get m.locals i ≡ Some type → place_cell type ≡ Some cell → local_at p (f.method ∷ map (λ (f : Frame). f.method) fs) (frames_cells p (f ∷ fs)) i ≡ Some cell
    local_is m i type cell is at e =
        ap (λ o. on_some o (λ id. on_some (p.method id) (λ m. place_at m.locals i))) top_is
        ∙ ap (λ o. on_some o (λ (m : Method). place_at m.locals i)) is
        ∙ ap (λ o. on_some o place_cell) at
        ∙ e

    act_fine : (i : Instruction) → ((v : Value) → i ≡ Push v → is_constant v ≡ true) → Fine fields frames p (act p s f fs next i)
    act_fine Nop c = goes_fine fields frames p s f fs n next f.stack n.top.stack
    act_fine (Push v) c = push v f.stack (constant_names fields frames p cx v (c v refl)) n.top.stack
    act_fine Dup c = fine_top fields frames p cx f.stack _ n.top.stack (λ v rest h k. goes_fine fields frames p s f fs n next (v ∷ v ∷ rest) (h, (h, k)))
    act_fine Pop c = fine_top fields frames p cx f.stack _ n.top.stack (λ v rest h k. goes_fine fields frames p s f fs n next rest k)
    act_fine (LoadArgument i) c = fine_some fields frames p (slice_get f.arguments i) _ (λ v e. push v f.stack (all_get fields frames p cx f.arguments i v n.top.arguments e) n.top.stack)
    act_fine (StoreArgument i) c =
        fine_some fields frames p (p.method f.method) _ (λ m is.
        fine_some fields frames p (slice_get m.arguments i) _ (λ type e.
        fine_top fields frames p cx f.stack _ n.top.stack (λ v rest h k.
        fine_some fields frames p (kept type v) _ (λ z e2.
        goes_fine fields frames p s (record f { arguments = slice_set f.arguments i z }) fs (argument_now fields frames p s f fs n i z (kept_names fields frames p cx type v z h e2)) next rest k))))
    act_fine (LoadArgumentAddress i) c =
        fine_some fields frames p (p.method f.method) _ (λ m is.
        fine_some fields frames p (slice_get m.arguments i) _ (λ type e.
        fine_some fields frames p (place_cell type) _ (λ cell e2.
        push (Pointer cell (InArgument (frames_cells p (f ∷ fs)) i)) f.stack (λ z. argument_is m i type cell is e e2) n.top.stack)))
    act_fine (LoadLocal i) c = fine_some fields frames p (slice_get f.locals i) _ (λ v e. push v f.stack (all_get fields frames p cx f.locals i v n.top.locals e) n.top.stack)
    act_fine (StoreLocal i) c =
        fine_some fields frames p (p.method f.method) _ (λ m is.
        fine_some fields frames p (slice_get m.locals i) _ (λ type e.
        fine_top fields frames p cx f.stack _ n.top.stack (λ v rest h k.
        fine_some fields frames p (kept type v) _ (λ z e2.
        goes_fine fields frames p s (record f { locals = slice_set f.locals i z }) fs (local_now fields frames p s f fs n i z (kept_names fields frames p cx type v z h e2)) next rest k))))
    act_fine (LoadLocalAddress i) c =
        fine_some fields frames p (p.method f.method) _ (λ m is.
        fine_some fields frames p (slice_get m.locals i) _ (λ type e.
        fine_some fields frames p (place_cell type) _ (λ cell e2.
        push (Pointer cell (InLocal (frames_cells p (f ∷ fs)) i)) f.stack (λ z. local_is m i type cell is e e2) n.top.stack)))
    act_fine (Binary operator) c = two_fine fields frames p cx f.stack _ n.top.stack (λ x y rest hx hy k. answered_fine fields frames p s w f fs n next rest k (binary operator x y) (binary_names fields frames p cx operator x y))
    act_fine (Shift operator) c = two_fine fields frames p cx f.stack _ n.top.stack (λ x y rest hx hy k. option_fine (shift operator x y) rest (shift_names fields frames p cx operator x y) k)
    act_fine (Unary operator) c = fine_top fields frames p cx f.stack _ n.top.stack (λ x rest h k. option_fine (unary operator x) rest (unary_names fields frames p cx operator x) k)
    act_fine (Compare comparison) c = two_fine fields frames p cx f.stack _ n.top.stack (λ x y rest hx hy k. fine_some fields frames p (compare comparison x y) _ (λ b e. push (of_bool b) rest tt k))
    act_fine (Convert integer) c = fine_top fields frames p cx f.stack _ n.top.stack (λ x rest h k. option_fine (convert integer x) rest (convert_names fields frames p cx integer x) k)
    act_fine (ConvertChecked integer source) c = fine_top fields frames p cx f.stack _ n.top.stack (λ x rest h k. answered_fine fields frames p s w f fs n next rest k (convert_checked integer source x) (convert_checked_names fields frames p cx integer source x))
    act_fine (Branch target) c = goes_fine fields frames p s f fs n target f.stack n.top.stack
    act_fine (BranchIf on target) c = fine_top fields frames p cx f.stack _ n.top.stack (λ v rest h k. branch_fine on target (truth v) rest k)
    act_fine (BranchCompare comparison on target) c = two_fine fields frames p cx f.stack _ n.top.stack (λ x y rest hx hy k. branch_fine on target (branch_compare comparison x y) rest k)
    act_fine (Switch targets) c = fine_top fields frames p cx f.stack _ n.top.stack (λ v rest h k. fine_some fields frames p (as_int v) _ (λ i e. goes_fine fields frames p s f fs n (unwrap_or (slice_get targets (cast_unsigned w32 i)) next) rest k))
    act_fine (Call id) c = call_fine fields frames p s f fs w n next id
    act_fine (CallVirtual id) c = call_virtual_fine fields frames p s f fs w n next id
    act_fine (NewObject class constructor) c = new_object_fine fields frames p s f fs w n next class constructor
    act_fine Return c = return_fine fields frames p a s f fs n
    act_fine (LoadField owner i) c = load_field_fine fields frames p s f fs w n next owner i
    act_fine (StoreField owner i) c = store_field_fine fields frames p s f fs w n next owner i
    act_fine (LoadFieldAddress owner i) c = load_field_address_fine fields frames p s f fs w n next a owner i
    act_fine (LoadStatic id) c = load_static_fine fields frames p s f fs w n next id
    act_fine (StoreStatic id) c = store_static_fine fields frames p s f fs w n next id
    act_fine (LoadStaticAddress id) c = load_static_address_fine fields frames p s f fs w n next id
    act_fine (LoadText units) c = load_text_fine fields frames p s f fs w n next units (literal_object s.literals units) refl
    act_fine (LoadIndirect access) c = load_indirect_fine fields frames p s f fs w n next access
    act_fine (StoreIndirect access) c = store_indirect_fine fields frames p s f fs w n next access
    act_fine (NewArray element) c = new_array_fine fields frames p s f fs w n next element
    act_fine LoadLength c = load_length_fine fields frames p s f fs w n next
    act_fine (LoadElement access) c = load_element_fine fields frames p s f fs w n next access
    act_fine (StoreElement access) c = store_element_fine fields frames p s f fs w n next access
    act_fine (LoadElementAddress element) c = load_element_address_fine fields frames p s f fs w n next element
    act_fine (CastClass type) c = cast_class_fine fields frames p s f fs w n next type
    act_fine (IsInstance type) c = is_instance_fine fields frames p s f fs w n next type
    act_fine (Box type) c = box_value_fine fields frames p s f fs w n next type
    act_fine (Unbox type) c = unbox_fine fields frames p s f fs w n next type
    act_fine (UnboxAny type) c = fine_some fields frames p (cell_of type) _ (λ cell e. unbox_any_fine fields frames p s f fs w n next type cell)
    act_fine Throw c = fine_top fields frames p cx f.stack _ n.top.stack (λ v rest h k. throw_value_fine fields frames p s w v)
    act_fine (Rethrow k) c = throw_again_fine fields frames p s w (slice_get f.slots k)
    act_fine (Leave target) c = fine_some fields frames p (p.method f.method) _ (λ m is. leave_fine fields frames p s f fs n (left p f.method f.place target 0 m.clauses) target)
    act_fine (EndFinally k) c = take_up_fine fields frames p s f fs n k

  after_fine : (s : State) (f : Frame) (fs : List Frame) → Whole fields frames p s → Now fields frames p s f fs → (line : Line) → ((v : Value) → line.instruction ≡ Push v → is_constant v ≡ true) → (o : Option Initialiser) → Fine fields frames p (after_start p s f fs line o)
  after_fine s f fs w n line c None = act_fine s f fs w n line.next line.instruction c
  after_fine s f fs w n line c (Some i) =
      fine_if fields frames p (list_any (id_eq i.class) s.started) (act p s f fs line.next line.instruction) (start_class p s i)
      (λ b. act_fine s f fs w n line.next line.instruction c) (λ b. start_class_fine fields frames p s w i)

  frames_fine : (s : State) → Whole fields frames p s → (gs : List Frame) → s.frames ≡ gs → Fine fields frames p (on_frames gs (λ f fs. on_some (p.fetch f.method f.place) (λ line. after_start p s f fs line line.needs)))
  frames_fine s w [] e = tt
  frames_fine s w (f ∷ fs) e =
      fine_some fields frames p (p.fetch f.method f.place) _ (λ line is.
      after_fine s f fs w (now_of fields frames p s f fs w e) line (λ v h. a.constants f.method f.place line v is h) line.needs)

  step_fine : (s : State) → Whole fields frames p s → Fine fields frames p (step p s)
  unfolding step
  step_fine s w = frames_fine s w s.frames refl

  pub goes_on : (s t : State) → Whole fields frames p s → step p s ≡ Some t → Whole fields frames p t
  goes_on s t w e = subst (Fine fields frames p) e (step_fine s w)

  -- ---- the start

  record GivenWhole (places : List PlaceType) (g : Given) : Type 0 where
    pub things : (i : ℕ) (x : Thing) → thing_at g.heap i ≡ Some x → ThingWhole fields frames p g.heap x
    pub arguments : AllName fields frames p (over g.heap []) g.arguments
    pub count : length g.arguments ≡ length places

  given_whole : (places : List PlaceType) (g : Given) → given_for places ≡ Some g → GivenWhole places g
  given_whole [] g e = subst (GivenWhole []) (some_same (record { heap = []; arguments = [] }) g e) (record { things = λ i x e. absurd (cc e); arguments = tt; count = refl })
  given_whole (Plain type ∷ []) g e = at (type_eq type strings) e
    where
      at : (b : Bool) → (if b then Some (record { heap = Elements (Basic elem.String) [] ∷ []; arguments = Object 0 ∷ [] }) else None) ≡ Some g → GivenWhole (Plain type ∷ []) g
      at true e =
          subst (GivenWhole (Plain type ∷ [])) (some_same (record { heap = Elements (Basic elem.String) [] ∷ []; arguments = Object 0 ∷ [] }) g e)
          (record {
            things = λ i x h. ⊎_elim (λ o. absurd (cc o)) (λ o. subst (ThingWhole fields frames p (Elements (Basic elem.String) [] ∷ [])) (sym o) tt) (get_either [] (Elements (Basic elem.String) []) i x h);
            arguments = (record { mould = OfElements (Basic elem.String) 0; at = refl }, tt);
            count = refl;
          })
      at false e = absurd (cc e)
  given_whole (To type ∷ []) g e = absurd (cc e)
  given_whole (k ∷ l ∷ more) g e = absurd (cc e)

  begun_stored : (heap : List Thing) (fs : List Frame) (started : List Id) → ((i : ℕ) (x : Thing) → thing_at heap i ≡ Some x → ThingWhole fields frames p heap x) → Stored fields frames p (begun heap fs started)
  begun_stored heap fs started h = record { things = h; statics = λ f i k e o. absurd (cc e); literals = λ us i e. absurd (cc e) }

  none_fine : (places : List PlaceType) (o : Option State) → (places ≡ [] → Fine fields frames p o) → Fine fields frames p (if_none places o)
  none_fine [] o g = g refl
  none_fine (k ∷ ks) o g = tt

  started_fine : (heap : List Thing) (f : Frame) → ((i : ℕ) (x : Thing) → thing_at heap i ≡ Some x → ThingWhole fields frames p heap x) → FrameWhole fields frames p heap f [] → (o : Option Initialiser) → Fine fields frames p (started_state p heap f o)
  started_fine heap f h k None = record { stored = begun_stored heap (f ∷ []) [] h; stack = (k, tt) }
  started_fine heap f h k (Some i) =
      fine_some fields frames p (p.method i.method) _ (λ m is.
      none_fine m.arguments _ (λ e.
      record {
        stored = begun_stored heap (start_frame true i.method m [] ∷ f ∷ []) (i.class ∷ []) h;
        stack = (fresh fields frames p heap (f ∷ []) true i.method m [] is tt (ap length (sym e)), (k, tt));
      }))

  start_fine : Fine fields frames p (start p)
  unfolding start
  start_fine =
      fine_some fields frames p p.entry _ (λ id e1.
      fine_some fields frames p (p.method id) _ (λ m is.
      fine_some fields frames p (given_for m.arguments) _ (λ given e2.
      let g = given_whole m.arguments given e2 in
      fine_if fields frames p (is_main_result m.returns) (started_state p given.heap (start_frame false id m given.arguments) p.first) None (λ b.
      started_fine given.heap (start_frame false id m given.arguments) g.things (fresh fields frames p given.heap [] false id m given.arguments is g.arguments g.count) p.first) (λ b. tt))))

  pub begins : (s : State) → start p ≡ Some s → Whole fields frames p s
  begins s e = subst (Fine fields frames p) e start_fine
