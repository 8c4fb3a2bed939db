-- Rows on objects and pointers.
use Rattle.std.proofs.Common.{◌≡◌, ℕ, Bool, true, false, ◌==◌, List, [], ◌∷◌, ◌++◌, map, length, replicate, Option, Some, None, refl, sym, ap, ◌∙◌, subst}
use Rattle.std.specs.Prelude.{unsigned_abs, if◌then◌else◌, slice_get, slice_set}
use Rattle.std.proofs.lemmas.Bool.{lt-ltb}
use Rattle.std.proofs.lemmas.Option.{slice_get_within}
use Rattle.std.proofs.Math.ListN.{length-set}
use Rattle.board_types.specs.declared.board.Known.TheVariants.{NullReference, IndexOutOfRange, Overflow, InvalidCast, ArrayTypeMismatch}
use Rattle.machine.specs.Data.{Id, id_eq, CliType, Plain, Cell, Bits, Refers, cell_of, thing_at, put_thing, end_of, Spot, InArgument, InLocal, InObject, Value, Int, Long, Null, Object, Handle, Pointer, Thing, Instance, Text, Elements, Boxed, StaticCell, Frame, State}
use Rattle.machine.specs.Program.{Program, Access, access_cell}
use Rattle.machine.specs.Numbers.{is_negative, kept, kept_in, zero_of, as_int, same_width}
use Rattle.machine.specs.Throw.{on_some, goes, raise}
use Rattle.machine.specs.Texts.{same_text}
use Rattle.machine.specs.Rows.{on_two, on_three, on_cell, length_value, index_of, frames_cells, frame_at, put_frame, value_in, with_value, read, Written, write, on_pointer}
use Rattle.machine.specs.Objects.{load_field, store_field, load_field_address, static_object, static_of, static_at, Reached, reached, static_reached, load_static, store_static, load_static_address, literal_object, load_text, load_indirect, store_indirect, value_fits, new_array, load_length, load_element, store_element, is_exact, load_element_address, cast_class, is_instance, box_value, boxed_number, unbox, unbox_value, unbox_any}
use Rattle.machine_whole.specs.Whole.{OfClass, OfText, OfElements, OfBox, OfStatic, mould_of, mould_at, Context, over, Regular, id_at, Names, AllName, FrameWhole, FramesWhole, ThingWhole, Whole}
use Rattle.machine_whole.proofs.Heaps.{same_heap, grows, puts, get_seam, mould_there, some_same, some_inv}
use Rattle.machine_whole.proofs.Types.{id_same, same_number_cell, boxed_there}
use Rattle.machine_whole.proofs.Named.{map_inv, Reaches, names_more, all_more, from_heap, reach, all_get, all_set, all_replicate, zero_names, kept_in_names, plain_names}
use Rattle.machine_whole.proofs.States.{Now, Fine, fine_some, fine_if, fine_top, now_grown, now_put, goes_fine, raise_fine, or_raise_fine, thing_fine, instance_fine, elements_fine}

static_is : (x : Thing) (v : Value) → static_of x ≡ Some v → (type : CliType) × (x ≡ StaticCell type v)
static_is (StaticCell type w) v e = (type, ap (StaticCell type) (some_same w v e))
static_is (Instance class vs) v e = absurd (cc e)
static_is (Text units) v e = absurd (cc e)
static_is (Elements element vs) v e = absurd (cc e)
static_is (Boxed type w) v e = absurd (cc e)

module _ (fields frames : Bool) (p : Program) where
  -- ---- values in things

  pub two_fine : (cx : Context) (vs : List Value) (k : Value → Value → List Value → Option State) → AllName fields frames p cx vs → ((x y : Value) (rest : List Value) → Names fields frames p cx x → Names fields frames p cx y → AllName fields frames p cx rest → Fine fields frames p (k x y rest)) → Fine fields frames p (on_two vs k)
  two_fine cx [] k h g = tt
  two_fine cx (y ∷ []) k h g = tt
  two_fine cx (y ∷ x ∷ rest) k h g = g x y rest h.1.0 h.0 h.1.1

  three_fine : (cx : Context) (vs : List Value) (k : Value → Value → Value → List Value → Option State) → AllName fields frames p cx vs → ((x y z : Value) (rest : List Value) → Names fields frames p cx x → Names fields frames p cx y → Names fields frames p cx z → AllName fields frames p cx rest → Fine fields frames p (k x y z rest)) → Fine fields frames p (on_three vs k)
  three_fine cx [] k h g = tt
  three_fine cx (z ∷ []) k h g = tt
  three_fine cx (z ∷ y ∷ []) k h g = tt
  three_fine cx (z ∷ y ∷ x ∷ rest) k h g = g x y z rest h.1.1.0 h.1.0 h.0 h.1.1.1

  pub cell_fine : (type : CliType) (wide : Cell) (k : Cell → Option State) → ((c : Cell) → cell_of type ≡ Some c → Fine fields frames p (k c)) → Fine fields frames p (on_cell type wide k)
  cell_fine type wide k g = fine_some fields frames p (cell_of type) _ (λ c e. fine_if fields frames p (same_width c wide) (k c) None (λ x. g c e) (λ x. tt))

  pointer_fine : (v : Value) (wide : Cell) (k : Cell → Spot → Option State) → ((c : Cell) (x : Spot) → v ≡ Pointer c x → Fine fields frames p (k c x)) → Fine fields frames p (on_pointer v wide k)
  pointer_fine (Pointer c x) wide k g = fine_if fields frames p (same_width c wide) (k c x) None (λ e. g c x refl) (λ e. tt)
  pointer_fine (Int i) wide k g = tt
  pointer_fine (Long i) wide k g = tt
  pointer_fine Null wide k g = tt
  pointer_fine (Object i) wide k g = tt
  pointer_fine (Handle i) wide k g = tt

  value_there : (heap : List Thing) (x : Thing) (n : ℕ) (v : Value) → ThingWhole fields frames p heap x → value_in x n ≡ Some v → Names fields frames p (over heap []) v
  value_there heap (Instance class vs) n v h e = all_get fields frames p (over heap []) vs n v h.0 e
  value_there heap (Text units) n v h e = absurd (cc e)
  value_there heap (Elements element vs) n v h e = all_get fields frames p (over heap []) vs n v h e
  value_there heap (Boxed type w) n v h e = subst (Names fields frames p (over heap [])) (some_same w v e) h
  value_there heap (StaticCell type w) n v h e = subst (Names fields frames p (over heap [])) (some_same w v e) h

  field_set : (heap : List Thing) (class : Id) (vs : List Value) (n : ℕ) (v : Value) → ThingWhole fields frames p heap (Instance class vs) → Names fields frames p (over heap []) v → ThingWhole fields frames p heap (Instance class (slice_set vs n v))
  field_set heap class vs n v h k =
      (all_set fields frames p (over heap []) vs n v h.0 k, record { types = h.1.types; is = h.1.is; count = length-set vs n v ∙ h.1.count })

  with_there : (heap : List Thing) (x : Thing) (n : ℕ) (v : Value) → ThingWhole fields frames p heap x → Names fields frames p (over heap []) v → ThingWhole fields frames p heap (with_value x n v) × (mould_of (with_value x n v) ≡ mould_of x)
  with_there heap (Instance class vs) n v h k = (field_set heap class vs n v h k, ap (OfClass class) (length-set vs n v))
  with_there heap (Text units) n v h k = (tt, refl)
  with_there heap (Elements element vs) n v h k = (all_set fields frames p (over heap []) vs n v h k, ap (OfElements element) (length-set vs n v))
  with_there heap (Boxed type w) n v h k = (k, refl)
  with_there heap (StaticCell type w) n v h k = (k, refl)

  -- ---- frames below

  pub record Found (heap : List Thing) (g : Frame) : Type 0 where
    pub callers : List Frame
    pub frame : FrameWhole fields frames p heap g callers

  found : (heap : List Thing) (fs : List Frame) (depth : ℕ) (g : Frame) → FramesWhole fields frames p heap fs → frame_at p fs depth ≡ Some g → Found heap g
  found heap [] depth g h e = absurd (cc e)
  found heap (f ∷ fs) depth g h e = at (frames_cells p (f ∷ fs) == depth) e (found heap fs depth g h.1)
    where
      at : (b : Bool) → (if b then Some f else frame_at p fs depth) ≡ Some g → (frame_at p fs depth ≡ Some g → Found heap g) → Found heap g
      at true e k = subst (Found heap) (some_same f g e) (record { callers = fs; frame = h.0 })
      at false e k = k e

  same_chain : (heap : List Thing) (f : Frame) (fs gs : List Frame) → map (λ (f : Frame). f.method) gs ≡ map (λ (f : Frame). f.method) fs → Reaches fields frames p (over heap (f ∷ fs)) (over heap (f ∷ gs))
  same_chain heap f fs gs e = record { heap = same_heap heap; chain = λ d id h. subst (λ is. id_at p (f.method ∷ is) d ≡ Some id) (sym e) h }

  frame_same : (heap : List Thing) (f : Frame) (fs gs : List Frame) → map (λ (f : Frame). f.method) gs ≡ map (λ (f : Frame). f.method) fs → FrameWhole fields frames p heap f fs → FrameWhole fields frames p heap f gs
  frame_same heap f fs gs e h =
      let r = same_chain heap f fs gs e in
      record {
        of = h.of;
        is = h.is;
        arguments = all_more fields frames p (over heap (f ∷ fs)) (over heap (f ∷ gs)) r f.arguments h.arguments;
        locals = all_more fields frames p (over heap (f ∷ fs)) (over heap (f ∷ gs)) r f.locals h.locals;
        stack = all_more fields frames p (over heap (f ∷ fs)) (over heap (f ∷ gs)) r f.stack h.stack;
        slots = h.slots;
        argument_count = h.argument_count;
        local_count = h.local_count;
        slot_count = h.slot_count;
        depth = h.depth;
      }

  -- the frame gets another argument or local
  argument_set : (heap : List Thing) (f : Frame) (fs : List Frame) (n : ℕ) (v : Value) → Names fields frames p (over heap (f ∷ fs)) v → FrameWhole fields frames p heap f fs → FrameWhole fields frames p heap (record f { arguments = slice_set f.arguments n v }) fs
  argument_set heap f fs n v k h =
      record {
        of = h.of;
        is = h.is;
        arguments = all_set fields frames p (over heap (f ∷ fs)) f.arguments n v h.arguments k;
        locals = h.locals;
        stack = h.stack;
        slots = h.slots;
        argument_count = length-set f.arguments n v ∙ h.argument_count;
        local_count = h.local_count;
        slot_count = h.slot_count;
        depth = h.depth;
      }

  local_set : (heap : List Thing) (f : Frame) (fs : List Frame) (n : ℕ) (v : Value) → Names fields frames p (over heap (f ∷ fs)) v → FrameWhole fields frames p heap f fs → FrameWhole fields frames p heap (record f { locals = slice_set f.locals n v }) fs
  local_set heap f fs n v k h =
      record {
        of = h.of;
        is = h.is;
        arguments = h.arguments;
        locals = all_set fields frames p (over heap (f ∷ fs)) f.locals n v h.locals k;
        stack = h.stack;
        slots = h.slots;
        argument_count = h.argument_count;
        local_count = length-set f.locals n v ∙ h.local_count;
        slot_count = h.slot_count;
        depth = h.depth;
      }

  pub argument_now : (s : State) (f : Frame) (fs : List Frame) → Now fields frames p s f fs → (n : ℕ) (v : Value) → Names fields frames p (over s.heap (f ∷ fs)) v → Now fields frames p s (record f { arguments = slice_set f.arguments n v }) fs
  argument_now s f fs now n v k = record { stored = now.stored; top = argument_set s.heap f fs n v k now.top; callers = now.callers }

  pub local_now : (s : State) (f : Frame) (fs : List Frame) → Now fields frames p s f fs → (n : ℕ) (v : Value) → Names fields frames p (over s.heap (f ∷ fs)) v → Now fields frames p s (record f { locals = slice_set f.locals n v }) fs
  local_now s f fs now n v k = record { stored = now.stored; top = local_set s.heap f fs n v k now.top; callers = now.callers }

  -- a frame below is replaced by one of its method
  module _ (heap : List Thing) (depth : ℕ) (g h : Frame) (same : h.method ≡ g.method) where
    put_chain : (fs : List Frame) → frame_at p fs depth ≡ Some g → map (λ (f : Frame). f.method) (put_frame p fs depth h) ≡ map (λ (f : Frame). f.method) fs
    put_chain [] e = absurd (cc e)
    put_chain (f ∷ fs) e = at (frames_cells p (f ∷ fs) == depth) e (put_chain fs)
      where
        at : (b : Bool) → (if b then Some f else frame_at p fs depth) ≡ Some g → (frame_at p fs depth ≡ Some g → map (λ (f : Frame). f.method) (put_frame p fs depth h) ≡ map (λ (f : Frame). f.method) fs) → map (λ (f : Frame). f.method) (if b then h ∷ fs else f ∷ put_frame p fs depth h) ≡ f.method ∷ map (λ (f : Frame). f.method) fs
        at true x ih = ap (λ (i : Id). i ∷ map (λ (f : Frame). f.method) fs) (same ∙ ap (λ (f : Frame). f.method) (sym (some_same f g x)))
        at false x ih = ap (λ is. f.method ∷ is) (ih x)

    put_whole : ((gs : List Frame) → FrameWhole fields frames p heap g gs → FrameWhole fields frames p heap h gs) → (fs : List Frame) → FramesWhole fields frames p heap fs → frame_at p fs depth ≡ Some g → FramesWhole fields frames p heap (put_frame p fs depth h)
    put_whole new [] w e = absurd (cc e)
    put_whole new (f ∷ fs) w e = at (frames_cells p (f ∷ fs) == depth) e (put_whole new fs w.1)
      where
        at : (b : Bool) → (if b then Some f else frame_at p fs depth) ≡ Some g → (frame_at p fs depth ≡ Some g → FramesWhole fields frames p heap (put_frame p fs depth h)) → FramesWhole fields frames p heap (if b then h ∷ fs else f ∷ put_frame p fs depth h)
        at true x ih = (new fs (subst (λ (z : Frame). FrameWhole fields frames p heap z fs) (some_same f g x) w.0), w.1)
        at false x ih = (frame_same heap f fs (put_frame p fs depth h) (put_chain fs x) w.0, ih x)

  -- ---- pointers

  -- what is read is named from some frame
  pub record Read (heap : List Thing) (v : Value) : Type 0 where
    pub at : List Frame
    pub names : Names fields frames p (over heap at) v

  read_names : (s : State) (f : Frame) (fs : List Frame) → Now fields frames p s f fs → (x : Spot) (v : Value) → read p s f fs x ≡ Some v → Read s.heap v
  read_names s f fs n (InArgument depth i) v e =
      let g = some_inv (frame_at p (f ∷ fs) depth) (λ g. slice_get g.arguments i) v e in
      let y = found s.heap (f ∷ fs) depth g.0 (n.top, n.callers) g.1 in
      record { at = g.0 ∷ y.callers; names = all_get fields frames p (over s.heap (g.0 ∷ y.callers)) g.0.arguments i v y.frame.arguments g.2 }
  read_names s f fs n (InLocal depth i) v e =
      let g = some_inv (frame_at p (f ∷ fs) depth) (λ g. slice_get g.locals i) v e in
      let y = found s.heap (f ∷ fs) depth g.0 (n.top, n.callers) g.1 in
      record { at = g.0 ∷ y.callers; names = all_get fields frames p (over s.heap (g.0 ∷ y.callers)) g.0.locals i v y.frame.locals g.2 }
  read_names s f fs n (InObject object i) v e =
      let x = some_inv (thing_at s.heap object) (λ x. value_in x i) v e in
      record { at = []; names = value_there s.heap x.0 i v (n.stored.things object x.0 x.1) x.2 }

  -- what a write leaves
  pub record WriteWhole (s : State) (f : Frame) (fs : List Frame) (t : Written) : Type 0 where
    pub now : Now fields frames p t.state (record f { arguments = t.arguments; locals = t.locals }) t.callers
    pub reaches : Reaches fields frames p (over s.heap (f ∷ fs)) (over t.state.heap (f ∷ t.callers))

  here : (s : State) (f : Frame) (fs : List Frame) → Reaches fields frames p (over s.heap (f ∷ fs)) (over s.heap (f ∷ fs))
  here s f fs = record { heap = same_heap s.heap; chain = λ d id e. e }

  write_names : (s : State) (f : Frame) (fs : List Frame) → Now fields frames p s f fs → (x : Spot) (v : Value) → Names fields frames p (over s.heap []) v → (t : Written) → write p s f fs x v ≡ Some t → WriteWhole s f fs t
  write_names s f fs n (InArgument depth i) v h t e = at (frames_cells p (f ∷ fs) == depth) e
    where
      at : (b : Bool) → (if b then Some (record { state = s; arguments = slice_set f.arguments i v; locals = f.locals; callers = fs }) else on_some (frame_at p fs depth) (λ g. Some (record { state = s; arguments = f.arguments; locals = f.locals; callers = put_frame p fs depth (record g { arguments = slice_set g.arguments i v }) }))) ≡ Some t → WriteWhole s f fs t
      at true e =
          subst (WriteWhole s f fs) (some_same (record { state = s; arguments = slice_set f.arguments i v; locals = f.locals; callers = fs }) t e)
          (record { now = argument_now s f fs n i v (names_more fields frames p (over s.heap []) (over s.heap (f ∷ fs)) (from_heap fields frames p s.heap (f ∷ fs)) v h); reaches = here s f fs })
      at false e =
          let g = some_inv (frame_at p fs depth) (λ g. Some (record { state = s; arguments = f.arguments; locals = f.locals; callers = put_frame p fs depth (record g { arguments = slice_set g.arguments i v }) })) t e in
          let new : Frame = record g.0 { arguments = slice_set g.0.arguments i v } in
          let chain = put_chain s.heap depth g.0 new refl fs g.1 in
          let put = put_whole s.heap depth g.0 new refl (λ gs w. argument_set s.heap g.0 gs i v (names_more fields frames p (over s.heap []) (over s.heap (g.0 ∷ gs)) (from_heap fields frames p s.heap (g.0 ∷ gs)) v h) w) fs n.callers g.1 in
          subst (WriteWhole s f fs) (some_same (record { state = s; arguments = f.arguments; locals = f.locals; callers = put_frame p fs depth new }) t g.2)
          (record { now = record { stored = n.stored; top = frame_same s.heap f fs (put_frame p fs depth new) chain n.top; callers = put }; reaches = same_chain s.heap f fs (put_frame p fs depth new) chain })
  write_names s f fs n (InLocal depth i) v h t e = at (frames_cells p (f ∷ fs) == depth) e
    where
      at : (b : Bool) → (if b then Some (record { state = s; arguments = f.arguments; locals = slice_set f.locals i v; callers = fs }) else on_some (frame_at p fs depth) (λ g. Some (record { state = s; arguments = f.arguments; locals = f.locals; callers = put_frame p fs depth (record g { locals = slice_set g.locals i v }) }))) ≡ Some t → WriteWhole s f fs t
      at true e =
          subst (WriteWhole s f fs) (some_same (record { state = s; arguments = f.arguments; locals = slice_set f.locals i v; callers = fs }) t e)
          (record { now = local_now s f fs n i v (names_more fields frames p (over s.heap []) (over s.heap (f ∷ fs)) (from_heap fields frames p s.heap (f ∷ fs)) v h); reaches = here s f fs })
      at false e =
          let g = some_inv (frame_at p fs depth) (λ g. Some (record { state = s; arguments = f.arguments; locals = f.locals; callers = put_frame p fs depth (record g { locals = slice_set g.locals i v }) })) t e in
          let new : Frame = record g.0 { locals = slice_set g.0.locals i v } in
          let chain = put_chain s.heap depth g.0 new refl fs g.1 in
          let put = put_whole s.heap depth g.0 new refl (λ gs w. local_set s.heap g.0 gs i v (names_more fields frames p (over s.heap []) (over s.heap (g.0 ∷ gs)) (from_heap fields frames p s.heap (g.0 ∷ gs)) v h) w) fs n.callers g.1 in
          subst (WriteWhole s f fs) (some_same (record { state = s; arguments = f.arguments; locals = f.locals; callers = put_frame p fs depth new }) t g.2)
          (record { now = record { stored = n.stored; top = frame_same s.heap f fs (put_frame p fs depth new) chain n.top; callers = put }; reaches = same_chain s.heap f fs (put_frame p fs depth new) chain })
  write_names s f fs n (InObject object i) v h t e =
      let x = some_inv (thing_at s.heap object) (λ x. Some (record { state = record s { heap = put_thing s.heap object (with_value x i v) }; arguments = f.arguments; locals = f.locals; callers = fs })) t e in
      let y = with_there s.heap x.0 i v (n.stored.things object x.0 x.1) h in
      let heap : List Thing = put_thing s.heap object (with_value x.0 i v) in
      subst (WriteWhole s f fs) (some_same (record { state = record s { heap = heap }; arguments = f.arguments; locals = f.locals; callers = fs }) t x.2)
      (record { now = now_put fields frames p s f fs n object x.0 (with_value x.0 i v) x.1 y.1 y.0; reaches = reach fields frames p s.heap heap (puts s.heap object x.0 (with_value x.0 i v) x.1 y.1) (f ∷ fs) })

  -- ---- rows

  module _ (s : State) (f : Frame) (fs : List Frame) (w : Whole fields frames p s) (n : Now fields frames p s f fs) (next : ℕ) where
    abbrev cx : Context
    cx = over s.heap (f ∷ fs)

    lifted : (v : Value) → Names fields frames p (over s.heap []) v → Names fields frames p cx v
    lifted v h = names_more fields frames p (over s.heap []) cx (from_heap fields frames p s.heap (f ∷ fs)) v h

    -- a new thing is pushed
    pub new_fine : (x : Thing) → ThingWhole fields frames p (s.heap ++ x ∷ []) x → (rest : List Value) → AllName fields frames p cx rest → Fine fields frames p (goes p (record s { heap = s.heap ++ x ∷ [] }) f fs next (Object (end_of s.heap) ∷ rest))
    new_fine x h rest k =
        let heap : List Thing = s.heap ++ x ∷ [] in
        goes_fine fields frames p (record s { heap = heap }) f fs (now_grown fields frames p s f fs n x h) next (Object (end_of s.heap) ∷ rest)
        (record { mould = mould_of x; at = mould_there heap (end_of s.heap) x (get_seam s.heap x) }, all_more fields frames p cx (over heap (f ∷ fs)) (reach fields frames p s.heap heap (grows s.heap x) (f ∷ fs)) rest k)

    -- a thing is replaced by one of its mould
    pub put_fine : (object : ℕ) (x y : Thing) → thing_at s.heap object ≡ Some x → mould_of y ≡ mould_of x → ThingWhole fields frames p s.heap y → (rest : List Value) → AllName fields frames p cx rest → Fine fields frames p (goes p (record s { heap = put_thing s.heap object y }) f fs next rest)
    put_fine object x y e same h rest k =
        let heap : List Thing = put_thing s.heap object y in
        goes_fine fields frames p (record s { heap = heap }) f fs (now_put fields frames p s f fs n object x y e same h) next rest
        (all_more fields frames p cx (over heap (f ∷ fs)) (reach fields frames p s.heap heap (puts s.heap object x y e same) (f ∷ fs)) rest k)

    pub load_field_fine : (owner : Id) (i : ℕ) → Fine fields frames p (load_field p s f fs next owner i)
    unfolding load_field
    load_field_fine owner i =
        fine_top fields frames p cx f.stack _ n.top.stack (λ this rest ht hr.
        thing_fine fields frames p s w NullReference this _ (λ object x e.
        instance_fine fields frames p owner x _ (λ class vs is sub.
        fine_some fields frames p (slice_get vs i) _ (λ v g.
        goes_fine fields frames p s f fs n next (v ∷ rest)
        (lifted v (value_there s.heap (Instance class vs) i v (subst (ThingWhole fields frames p s.heap) is (n.stored.things object x e)) g), hr)))))

    pub store_field_fine : (owner : Id) (i : ℕ) → Fine fields frames p (store_field p s f fs next owner i)
    unfolding store_field
    store_field_fine owner i =
        two_fine cx f.stack _ n.top.stack (λ this v rest ht hv hr.
        fine_some fields frames p (p.fields owner) _ (λ types e1.
        fine_some fields frames p (slice_get types i) _ (λ type e2.
        fine_some fields frames p (kept (Plain type) v) _ (λ z e3.
        thing_fine fields frames p s w NullReference this _ (λ object x e.
        instance_fine fields frames p owner x _ (λ class vs is sub.
        put_fine object (Instance class vs) (Instance class (slice_set vs i z)) (e ∙ ap Some is) (ap (OfClass class) (length-set vs i z))
        (field_set s.heap class vs i z (subst (ThingWhole fields frames p s.heap) is (n.stored.things object x e)) (plain_names fields frames p cx type v z hv e3)) rest hr))))))

    pub load_field_address_fine : Regular fields frames p → (owner : Id) (i : ℕ) → Fine fields frames p (load_field_address p s f fs next owner i)
    unfolding load_field_address
    load_field_address_fine a owner i =
        fine_top fields frames p cx f.stack _ n.top.stack (λ this rest ht hr.
        fine_some fields frames p (p.fields owner) _ (λ types e1.
        fine_some fields frames p (slice_get types i) _ (λ type e2.
        fine_some fields frames p (cell_of type) _ (λ cell e3.
        thing_fine fields frames p s w NullReference this _ (λ object x e.
        instance_fine fields frames p owner x _ (λ class vs is sub.
        let h = subst (ThingWhole fields frames p s.heap) is (n.stored.things object x e) in
        goes_fine fields frames p s f fs n next (Pointer cell (InObject object i) ∷ rest) (
          record {
            mould = OfClass class (length vs);
            at = mould_there s.heap object (Instance class vs) (e ∙ ap Some is);
            place = λ k.
                let there = a.inherits k class owner h.1.types types i type sub h.1.is e1 e2 in
                ap (λ o. on_some o (λ types. on_some (slice_get types i) cell_of)) h.1.is ∙ ap (λ o. on_some o cell_of) there ∙ e3;
          },
          hr,
        )))))))

    -- ---- static fields

    record Reaching (x : Reached) : Type 0 where
      pub now : Now fields frames p x.state f fs
      pub at : mould_at x.state.heap x.object ≡ Some (OfStatic x.type)

    reached_whole : (id : Id) (type : CliType) → p.static id ≡ Some type → (o : Option ℕ) → static_object s.statics id ≡ o → Reaching (reached s id type o)
    reached_whole id type is (Some i) e = record { now = n; at = n.stored.statics id i type e is }
    reached_whole id type is None e =
        record {
          now = record {
            stored = record { things = g.stored.things; statics = λ h i k e o. at h i k (id_eq id h) refl e o; literals = g.stored.literals };
            top = g.top;
            callers = g.callers;
          };
          at = mould_there (s.heap ++ StaticCell type (zero_of type) ∷ []) (end_of s.heap) (StaticCell type (zero_of type)) (get_seam s.heap (StaticCell type (zero_of type)));
        }
      where
        g : Now fields frames p (record s { heap = s.heap ++ StaticCell type (zero_of type) ∷ [] }) f fs
        g = now_grown fields frames p s f fs n (StaticCell type (zero_of type)) (zero_names fields frames p (over (s.heap ++ StaticCell type (zero_of type) ∷ []) []) type)

        at : (h : Id) (i : ℕ) (k : CliType) (b : Bool) → id_eq id h ≡ b → (if b then Some (end_of s.heap) else static_object s.statics h) ≡ Some i → p.static h ≡ Some k → mould_at (s.heap ++ StaticCell type (zero_of type) ∷ []) i ≡ Some (OfStatic k)
        at h i k true y e o =
            let same : type ≡ k = some_same type k (sym is ∙ ap p.static (id_same id h y) ∙ o) in
            subst (λ j. mould_at (s.heap ++ StaticCell type (zero_of type) ∷ []) j ≡ Some (OfStatic k)) (some_same (end_of s.heap) i e)
            (mould_there (s.heap ++ StaticCell type (zero_of type) ∷ []) (end_of s.heap) (StaticCell type (zero_of type)) (get_seam s.heap (StaticCell type (zero_of type))) ∙ ap (λ z. Some (OfStatic z)) same)
        at h i k false y e o = g.stored.statics h i k e o

    static_fine : (id : Id) (k : Reached → Option State) → ((x : Reached) → Reaching x → Fine fields frames p (k x)) → Fine fields frames p (on_some (static_reached p s id) k)
    static_fine id k g =
        fine_some fields frames p (static_reached p s id) k (λ x e.
        let y = map_inv (λ type. reached s id type (static_object s.statics id)) (p.static id) x e in
        g x (subst Reaching y.2 (reached_whole id y.0 y.1 (static_object s.statics id) refl)))

    static_value : (x : Reached) → Reaching x → (v : Value) → static_at x.state.heap x.object ≡ Some v → (y : Thing) × (thing_at x.state.heap x.object ≡ Some y) × Names fields frames p (over x.state.heap []) v
    static_value x r v e =
        let y = some_inv (thing_at x.state.heap x.object) static_of v e in
        let z = static_is y.0 v y.2 in
        (y.0, y.1, subst (ThingWhole fields frames p x.state.heap) z.1 (r.now.stored.things x.object y.0 y.1))

    pub load_static_fine : (id : Id) → Fine fields frames p (load_static p s f fs next id)
    unfolding load_static
    load_static_fine id =
        static_fine id _ (λ x r.
        fine_some fields frames p (static_at x.state.heap x.object) _ (λ v e.
        goes_fine fields frames p x.state f fs r.now next (v ∷ f.stack)
        (names_more fields frames p (over x.state.heap []) (over x.state.heap (f ∷ fs)) (from_heap fields frames p x.state.heap (f ∷ fs)) v (static_value x r v e).2, r.now.top.stack)))

    pub store_static_fine : (id : Id) → Fine fields frames p (store_static p s f fs next id)
    unfolding store_static
    store_static_fine id =
        static_fine id _ (λ x r.
        fine_some fields frames p (static_at x.state.heap x.object) _ (λ old e.
        fine_top fields frames p (over x.state.heap (f ∷ fs)) f.stack _ r.now.top.stack (λ v rest hv hr.
        fine_some fields frames p (kept (Plain x.type) v) _ (λ z e3.
        let y = static_value x r old e in
        let new : Thing = StaticCell x.type z in
        let same : mould_of new ≡ mould_of y.0 = some_same (OfStatic x.type) (mould_of y.0) (sym r.at ∙ mould_there x.state.heap x.object y.0 y.1) in
        let heap : List Thing = put_thing x.state.heap x.object new in
        goes_fine fields frames p (record x.state { heap = heap }) f fs
        (now_put fields frames p x.state f fs r.now x.object y.0 new y.1 same (plain_names fields frames p (over x.state.heap (f ∷ fs)) x.type v z hv e3))
        next rest
        (all_more fields frames p (over x.state.heap (f ∷ fs)) (over heap (f ∷ fs)) (reach fields frames p x.state.heap heap (puts x.state.heap x.object y.0 new y.1 same) (f ∷ fs)) rest hr)))))

    pub load_static_address_fine : (id : Id) → Fine fields frames p (load_static_address p s f fs next id)
    unfolding load_static_address
    load_static_address_fine id =
        static_fine id _ (λ x r.
        fine_some fields frames p (cell_of x.type) _ (λ cell e.
        goes_fine fields frames p x.state f fs r.now next (Pointer cell (InObject x.object 0) ∷ f.stack)
        (record { mould = OfStatic x.type; at = r.at; place = λ k. e }, r.now.top.stack)))

    -- ---- literals

    pub load_text_fine : (units : List ℕ) (o : Option ℕ) → literal_object s.literals units ≡ o → Fine fields frames p (load_text p s f fs next units o)
    unfolding load_text
    load_text_fine units (Some i) e =
        let y = n.stored.literals units i e in
        goes_fine fields frames p s f fs n next (Object i ∷ f.stack) (record { mould = OfText y.0; at = y.1 }, n.top.stack)
    load_text_fine units None e =
        goes_fine fields frames p (record s { heap = s.heap ++ Text units ∷ []; literals = record { text = units; object = end_of s.heap } ∷ s.literals }) f fs
        (record {
          stored = record { things = g.stored.things; statics = g.stored.statics; literals = λ us i e. at us i (same_text units us) e };
          top = g.top;
          callers = g.callers;
        }) next (Object (end_of s.heap) ∷ f.stack)
        (record { mould = OfText (length units); at = mould_there (s.heap ++ Text units ∷ []) (end_of s.heap) (Text units) (get_seam s.heap (Text units)) }, g.top.stack)
      where
        g : Now fields frames p (record s { heap = s.heap ++ Text units ∷ [] }) f fs
        g = now_grown fields frames p s f fs n (Text units) tt

        at : (us : List ℕ) (i : ℕ) (b : Bool) → (if b then Some (end_of s.heap) else literal_object s.literals us) ≡ Some i → (count : ℕ) × (mould_at (s.heap ++ Text units ∷ []) i ≡ Some (OfText count))
        at us i true e = (length units, subst (λ j. mould_at (s.heap ++ Text units ∷ []) j ≡ Some (OfText (length units))) (some_same (end_of s.heap) i e) (mould_there (s.heap ++ Text units ∷ []) (end_of s.heap) (Text units) (get_seam s.heap (Text units))))
        at us i false e = g.stored.literals us i e

    -- ---- pointers

    pub load_indirect_fine : (access : Access) → Fine fields frames p (load_indirect p s f fs next access)
    unfolding load_indirect
    load_indirect_fine access =
        fine_some fields frames p (access_cell access) _ (λ wide e1.
        fine_top fields frames p cx f.stack _ n.top.stack (λ v rest hv hr.
        pointer_fine v wide _ (λ c x is.
        fine_some fields frames p (read p s f fs x) _ (λ z e2.
        fine_some fields frames p (kept_in wide z) _ (λ y e3.
        let r = read_names s f fs n x z e2 in
        goes_fine fields frames p s f fs n next (y ∷ rest) (lifted y (kept_in_names fields frames p (over s.heap r.at) wide z y r.names e3), hr))))))

    pub store_indirect_fine : (access : Access) → Fine fields frames p (store_indirect p s f fs next access)
    unfolding store_indirect
    store_indirect_fine access =
        fine_some fields frames p (access_cell access) _ (λ wide e1.
        two_fine cx f.stack _ n.top.stack (λ pointer v rest hp hv hr.
        pointer_fine pointer wide _ (λ c x is.
        fine_some fields frames p (kept_in c v) _ (λ z e2.
        fine_some fields frames p (write p s f fs x z) _ (λ t e3.
        let r = write_names s f fs n x z (kept_in_names fields frames p cx c v z hv e2) t e3 in
        goes_fine fields frames p t.state (record f { arguments = t.arguments; locals = t.locals }) t.callers r.now next rest
        (all_more fields frames p cx (over t.state.heap (f ∷ t.callers)) r.reaches rest hr))))))

    -- ---- arrays

    pub new_array_fine : (element : CliType) → Fine fields frames p (new_array p s f fs next element)
    unfolding new_array
    new_array_fine element =
        fine_some fields frames p (cell_of element) _ (λ c e1.
        fine_top fields frames p cx f.stack _ n.top.stack (λ v rest hv hr.
        fine_some fields frames p (as_int v) _ (λ i e2.
        fine_if fields frames p (is_negative i) (raise p s Overflow) _ (λ b. raise_fine fields frames p s w Overflow) (λ b.
        let x : Thing = Elements element (replicate (unsigned_abs i) (zero_of element)) in
        new_fine x (all_replicate fields frames p (over (s.heap ++ x ∷ []) []) (unsigned_abs i) (zero_of element) (zero_names fields frames p (over (s.heap ++ x ∷ []) []) element)) rest hr))))

    pub load_length_fine : Fine fields frames p (load_length p s f fs next)
    unfolding load_length
    load_length_fine =
        fine_top fields frames p cx f.stack _ n.top.stack (λ this rest ht hr.
        thing_fine fields frames p s w NullReference this _ (λ object x e.
        elements_fine fields frames p x _ (λ element vs is. goes_fine fields frames p s f fs n next (length_value (length vs) ∷ rest) (tt, hr))))

    pub load_element_fine : (access : Access) → Fine fields frames p (load_element p s f fs next access)
    unfolding load_element
    load_element_fine access =
        fine_some fields frames p (access_cell access) _ (λ wide e1.
        two_fine cx f.stack _ n.top.stack (λ this index rest ht hi hr.
        fine_some fields frames p (as_int index) _ (λ i e2.
        thing_fine fields frames p s w NullReference this _ (λ object x e.
        elements_fine fields frames p x _ (λ element vs is.
        cell_fine element wide _ (λ cell e3.
        or_raise_fine fields frames p s w IndexOutOfRange (slice_get vs (index_of i)) _ (λ v e4.
        fine_some fields frames p (kept_in wide v) _ (λ z e5.
        let h = all_get fields frames p (over s.heap []) vs (index_of i) v (subst (ThingWhole fields frames p s.heap) is (n.stored.things object x e)) e4 in
        goes_fine fields frames p s f fs n next (z ∷ rest) (lifted z (kept_in_names fields frames p (over s.heap []) wide v z h e5), hr)))))))))

    pub store_element_fine : (access : Access) → Fine fields frames p (store_element p s f fs next access)
    unfolding store_element
    store_element_fine access =
        fine_some fields frames p (access_cell access) _ (λ wide e1.
        three_fine cx f.stack _ n.top.stack (λ this index v rest ht hi hv hr.
        fine_some fields frames p (as_int index) _ (λ i e2.
        fine_some fields frames p (kept_in wide v) _ (λ z e5.
        thing_fine fields frames p s w NullReference this _ (λ object x e.
        elements_fine fields frames p x _ (λ element vs is.
        cell_fine element wide _ (λ cell e3.
        or_raise_fine fields frames p s w IndexOutOfRange (slice_get vs (index_of i)) _ (λ old e4.
        fine_some fields frames p (value_fits p s.heap element z) _ (λ ok e6.
        fine_if fields frames p ok _ (raise p s ArrayTypeMismatch) (λ b.
        fine_some fields frames p (kept_in cell z) _ (λ y e7.
        let hz = kept_in_names fields frames p cx wide v z hv e5 in
        let hy = kept_in_names fields frames p (over s.heap []) cell z y hz e7 in
        put_fine object (Elements element vs) (Elements element (slice_set vs (index_of i) y)) (e ∙ ap Some is) (ap (OfElements element) (length-set vs (index_of i) y))
        (all_set fields frames p (over s.heap []) vs (index_of i) y (subst (ThingWhole fields frames p s.heap) is (n.stored.things object x e)) hy) rest hr))
        (λ b. raise_fine fields frames p s w ArrayTypeMismatch))))))))))

    pub load_element_address_fine : (type : CliType) → Fine fields frames p (load_element_address p s f fs next type)
    unfolding load_element_address
    load_element_address_fine type =
        fine_some fields frames p (cell_of type) _ (λ wide e1.
        two_fine cx f.stack _ n.top.stack (λ this index rest ht hi hr.
        fine_some fields frames p (as_int index) _ (λ i e2.
        thing_fine fields frames p s w NullReference this _ (λ object x e.
        elements_fine fields frames p x _ (λ element vs is.
        cell_fine element wide _ (λ cell e3.
        or_raise_fine fields frames p s w IndexOutOfRange (slice_get vs (index_of i)) _ (λ old e4.
        fine_if fields frames p (is_exact cell element type) _ (raise p s ArrayTypeMismatch) (λ b.
        goes_fine fields frames p s f fs n next (Pointer cell (InObject object (index_of i)) ∷ rest) (
          record {
            mould = OfElements element (length vs);
            at = mould_there s.heap object (Elements element vs) (e ∙ ap Some is);
            place = λ k. ap (λ (b : Bool). if b then cell_of element else None) (lt-ltb (index_of i) (length vs) (slice_get_within vs (index_of i) old e4)) ∙ e3;
          },
          hr,
        ))
        (λ b. raise_fine fields frames p s w ArrayTypeMismatch))))))))

    -- ---- casts and boxes

    pub cast_class_fine : (type : CliType) → Fine fields frames p (cast_class p s f fs next type)
    unfolding cast_class
    cast_class_fine type =
        fine_top fields frames p cx f.stack _ n.top.stack (λ v rest hv hr.
        fine_some fields frames p (kept_in Refers v) _ (λ z e1.
        fine_some fields frames p (value_fits p s.heap type z) _ (λ ok e2.
        fine_if fields frames p ok _ (raise p s InvalidCast)
        (λ b. goes_fine fields frames p s f fs n next (z ∷ rest) (lifted z (kept_in_names fields frames p cx Refers v z hv e1), hr))
        (λ b. raise_fine fields frames p s w InvalidCast))))

    pub is_instance_fine : (type : CliType) → Fine fields frames p (is_instance p s f fs next type)
    unfolding is_instance
    is_instance_fine type =
        fine_top fields frames p cx f.stack _ n.top.stack (λ v rest hv hr.
        fine_some fields frames p (kept_in Refers v) _ (λ z e1.
        fine_some fields frames p (value_fits p s.heap type z) _ (λ ok e2.
        goes_fine fields frames p s f fs n next ((if ok then z else Null) ∷ rest) (either ok z (lifted z (kept_in_names fields frames p cx Refers v z hv e1)), hr))))
      where
        either : (b : Bool) (z : Value) → Names fields frames p (over s.heap (f ∷ fs)) z → Names fields frames p (over s.heap (f ∷ fs)) (if b then z else Null)
        either true z h = h
        either false z h = tt

    pub box_value_fine : (type : CliType) → Fine fields frames p (box_value p s f fs next type)
    unfolding box_value
    box_value_fine type =
        fine_some fields frames p (cell_of type) _ (λ cell e1.
        fine_top fields frames p cx f.stack _ n.top.stack (λ v rest hv hr.
        fine_some fields frames p (kept_in cell v) _ (λ z e2.
        new_fine (Boxed type z)
        (names_more fields frames p (over s.heap []) (over (s.heap ++ Boxed type z ∷ []) []) (reach fields frames p s.heap (s.heap ++ Boxed type z ∷ []) (grows s.heap (Boxed type z)) []) z (kept_in_names fields frames p cx cell v z hv e2))
        rest hr)))

    pub unbox_fine : (type : CliType) → Fine fields frames p (unbox p s f fs next type)
    unfolding unbox
    unbox_fine type =
        fine_some fields frames p (cell_of type) _ (λ cell e1.
        fine_top fields frames p cx f.stack _ n.top.stack (λ v rest hv hr.
        thing_fine fields frames p s w NullReference v _ (λ object x e.
        or_raise_fine fields frames p s w InvalidCast (boxed_number type x) _ (λ old e2.
        let y = boxed_there type x old e2 in
        goes_fine fields frames p s f fs n next (Pointer cell (InObject object 0) ∷ rest)
        (record { mould = OfBox y.0; at = mould_there s.heap object (Boxed y.0 old) (e ∙ ap Some y.1); place = λ k. same_number_cell y.0 type y.2 ∙ e1 }, hr)))))

    unbox_value_fine : (type : CliType) → Fine fields frames p (unbox_value p s f fs next type)
    unfolding unbox_value
    unbox_value_fine type =
        fine_top fields frames p cx f.stack _ n.top.stack (λ v rest hv hr.
        thing_fine fields frames p s w NullReference v _ (λ object x e.
        or_raise_fine fields frames p s w InvalidCast (boxed_number type x) _ (λ old e2.
        let y = boxed_there type x old e2 in
        goes_fine fields frames p s f fs n next (old ∷ rest) (lifted old (subst (ThingWhole fields frames p s.heap) y.1 (n.stored.things object x e)), hr))))

    pub unbox_any_fine : (type : CliType) (cell : Cell) → Fine fields frames p (unbox_any p s f fs next type cell)
    unbox_any_fine type Refers = cast_class_fine type
    unbox_any_fine type (Bits i) = unbox_value_fine type
