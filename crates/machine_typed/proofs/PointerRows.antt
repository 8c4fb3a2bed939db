-- Pointers: what they lead to, and what a write leaves.
use Rattle.std.proofs.Common.{◌≡◌, ℕ, ◌&&◌, Bool, true, false, ◌==◌, List, [], ◌∷◌, map, Option, Some, refl, sym, ap, ◌∙◌, subst}
use Rattle.std.specs.Prelude.{if◌then◌else◌, slice_get, slice_set}
use Rattle.std.proofs.lemmas.Bool.{eq-eqb}
use Rattle.machine.specs.Data.{Id, CliType, PlaceType, Plain, To, Cell, Bits, Refers, cell_of, Spot, InArgument, InLocal, InObject, Value, Int, Long, Null, Object, Handle, Pointer, thing_at, put_thing, Thing, Turn, Finally, EndFrame, Slot, Throwing, Leaving, Frame, State}
use Rattle.machine.specs.Program.{Program, Method, Access, Exact, Typed, access_cell, LoadIndirect, StoreIndirect, LoadArgumentAddress, LoadLocalAddress}
use Rattle.machine.specs.Numbers.{same_width, kept_in}
use Rattle.machine.specs.Throw.{on_some, goes}
use Rattle.machine.specs.Rows.{frames_cells, frame_at, put_frame, value_in, with_value, read, Written, write, on_pointer}
use Rattle.machine.specs.Objects.{load_indirect, store_indirect}
use Rattle.machine.specs.Step.{place_cell}
use Rattle.machine_typed.specs.Typing.{StackType, I, L, Nil, O, H, P, number, held, of_type, loaded, is_plain, agrees, has_width, width_is, assignable, pointee, pointer_takes, accessed, address_type, effect}
use Rattle.machine_typed.specs.Accepted.{Typing, Leads, Accepted}
use Rattle.machine_typed.proofs.Heaps.{Mould, mould_of, mould_at, same_heap, puts, get_map, some_same, some_inv, and_left, and_right}
use Rattle.machine_typed.proofs.Types.{type_held, plain_cell, agree_same, agree_cell, agree_here, agree_up, long_width, width_up, type_width}
use Rattle.machine_typed.proofs.Values.{Context, chain_cells, chain_law, id_at, place_in, LeadsTo, Points, flat_type, HasType, HaveAll, Reaches, has_more, have_more, has_flat, has_fits, get_have, set_have, kept_cell}
use Rattle.machine_typed.proofs.States.{over, reach, ThingFits, Around, Route, IsPlan, Base, Slots, Below, Waits, Callers, Goes, some_goes, Now, leads_fine, now_put}
use Rattle.machine_typed.proofs.Steps.{when_inv, top_inv, test_goes, top_goes, from_heap}
use Rattle.machine_typed.proofs.Things.{value_there, with_there}

-- what is held by cells of one width
held_width : (c d : Cell) (type : CliType) → same_width c d ≡ true → held c type ≡ held d type
held_width (Bits i) (Bits j) type e = ap number (long_width i j e)
held_width Refers Refers type e = refl
held_width (Bits i) Refers type e = absurd (cc e)
held_width Refers (Bits j) type e = absurd (cc e)

-- what an access sees of a place of a type that agrees
pub record Sees (access : Access) (type own : CliType) (cell wide : Cell) : Type 0 where
  pub width : same_width cell wide ≡ true
  pub view : CliType
  pub loads : accessed access type ≡ held wide view
  pub same : of_type own ≡ held wide view

sees_view : (access : Access) (type own view : CliType) (cell wide : Cell) → agrees own view ≡ true → cell_of own ≡ Some cell → has_width view wide ≡ true → accessed access type ≡ held wide view → Sees access type own cell wide
sees_view access type own view cell wide fine is width loads =
    let d = agree_cell own view cell fine is in
    let w : same_width d.0 wide ≡ true = subst (λ o. width_is o wide ≡ true) d.1 width in
    record {
      width = width_up cell d.0 wide d.2 w;
      view = view;
      loads = loads;
      same = agree_same own view fine ∙ type_held view d.0 d.1 ∙ held_width d.0 wide view w;
    }

pub sees : (access : Access) (type own : CliType) (cell wide : Cell) → pointer_takes access type ≡ true → access_cell access ≡ Some wide → agrees own type ≡ true → cell_of own ≡ Some cell → Sees access type own cell wide
sees (Exact c) type own cell wide e h fine is =
    let same = some_same c wide h in
    sees_view (Exact c) type own type cell wide fine is (subst (λ z. has_width type z ≡ true) same e) (ap (λ z. held z type) same)
sees (Typed operand) type own cell wide e h fine is =
    sees_view (Typed operand) type own operand cell wide (agree_up own type operand fine (and_right (is_plain operand) _ e)) is (type_width operand wide h) (type_held operand wide h)

pub pointer_wide : (access : Access) (type : CliType) → pointer_takes access type ≡ true → (c : Cell) × (access_cell access ≡ Some c)
pointer_wide (Exact c) type e = (c, refl)
pointer_wide (Typed operand) type e = plain_cell operand (and_left (is_plain operand) _ e)

module _ (p : Program) (t : Typing) where
  -- a frame of the chain
  pub record Found (heap : List Thing) (fs : List Frame) (depth : ℕ) (id : Id) : Type 0 where
    pub frame : Frame
    pub callers : List Frame
    pub method : Method
    pub is : frame_at p fs depth ≡ Some frame
    pub same : frame.method ≡ id
    pub base : Base p t heap frame callers method

  found_here : (heap : List Thing) (f : Frame) (fs : List Frame) (m : Method) → Base p t heap f fs m → (depth : ℕ) (id : Id) → (id_at p (map (λ (g : Frame). g.method) fs) depth ≡ Some id → Found heap fs depth id) → id_at p (f.method ∷ map (λ (g : Frame). g.method) fs) depth ≡ Some id → Found heap (f ∷ fs) depth id
  found_here heap f fs m b depth id later e = at (frames_cells p (f ∷ fs) == depth) refl later
    where
      same_test : (b : Bool) → (frames_cells p (f ∷ fs) == depth) ≡ b → (chain_cells p (f.method ∷ map (λ (g : Frame). g.method) fs) == depth) ≡ b
      same_test b x = ap (λ n. n == depth) (chain_law p (f ∷ fs)) ∙ x

      at : (b : Bool) → (frames_cells p (f ∷ fs) == depth) ≡ b → (id_at p (map (λ (g : Frame). g.method) fs) depth ≡ Some id → Found heap fs depth id) → Found heap (f ∷ fs) depth id
      at true x rest =
          record {
            frame = f;
            callers = fs;
            method = m;
            is = subst (λ (b : Bool). (if b then Some f else frame_at p fs depth) ≡ Some f) (sym x) refl;
            same = some_same f.method id (subst (λ (b : Bool). (if b then Some f.method else id_at p (map (λ (g : Frame). g.method) fs) depth) ≡ Some id) (same_test true x) e);
            base = b;
          }
      at false x rest =
          let r = rest (subst (λ (b : Bool). (if b then Some f.method else id_at p (map (λ (g : Frame). g.method) fs) depth) ≡ Some id) (same_test false x) e) in
          record {
            frame = r.frame;
            callers = r.callers;
            method = r.method;
            is = subst (λ (b : Bool). (if b then Some f else frame_at p fs depth) ≡ Some r.frame) (sym x) r.is;
            same = r.same;
            base = r.base;
          }

  found_in : (heap : List Thing) (f : Frame) (fs : List Frame) (m : Method) → Base p t heap f fs m → Callers p t heap f.initialiser m.returns fs → (depth : ℕ) (id : Id) → id_at p (f.method ∷ map (λ (g : Frame). g.method) fs) depth ≡ Some id → Found heap (f ∷ fs) depth id
  found_in heap f [] m b c depth id e = found_here heap f [] m b depth id (λ x. absurd (cc x)) e
  found_in heap f (g ∷ gs) m b c depth id e = found_here heap f (g ∷ gs) m b depth id (λ x. found_in heap g gs c.0 c.1 c.4 depth id x) e

  -- a frame below gets other arguments or locals
  module _ (heap : List Thing) (depth : ℕ) (xs_ ys_ : Frame → List Value) where
    abbrev poke : Frame → Frame
    poke g = record g { arguments = xs_ g; locals = ys_ g }

    chain_put : (fs : List Frame) (g : Frame) → frame_at p fs depth ≡ Some g → map (λ (f : Frame). f.method) (put_frame p fs depth (poke g)) ≡ map (λ (f : Frame). f.method) fs
    chain_put [] g e = absurd (cc e)
    chain_put (f ∷ fs) g e = at (frames_cells p (f ∷ fs) == depth) e (λ x. chain_put fs g x)
      where
        at : (b : Bool) → (if b then Some f else frame_at p fs depth) ≡ Some g → (frame_at p fs depth ≡ Some g → map (λ (f : Frame). f.method) (put_frame p fs depth (poke g)) ≡ map (λ (f : Frame). f.method) fs) → map (λ (f : Frame). f.method) (if b then poke g ∷ fs else f ∷ put_frame p fs depth (poke g)) ≡ f.method ∷ map (λ (f : Frame). f.method) fs
        at true x ih = ap (λ (q : Frame). q.method ∷ map (λ (f : Frame). f.method) fs) (sym (some_same f g x))
        at false x ih = ap (λ is. f.method ∷ is) (ih x)

    route_put : (running : ℕ → Type 0) (id : Id) (fs : List Frame) (g : Frame) → frame_at p fs depth ≡ Some g → (turns : List Turn) (catch object : ℕ) → Route p t heap running id fs turns catch object → Route p t heap running id (put_frame p fs depth (poke g)) turns catch object
    route_put running id fs g e [] catch object h = h
    route_put running id fs g e (Finally k ∷ turns) catch object h =
        (h.0, h.1, route_put (Around p t id h.0.clause.start k) id fs g e turns catch object h.2)
    route_put running id [] g e (EndFrame ∷ turns) catch object h = absurd h
    route_put running id (f ∷ fs) g e (EndFrame ∷ turns) catch object h =
        at (frames_cells p (f ∷ fs) == depth) e (λ x. route_put (λ i. t.handled f.method i f.place ≡ true) f.method fs g x turns catch object h)
      where
        at : (b : Bool) → (if b then Some f else frame_at p fs depth) ≡ Some g → (frame_at p fs depth ≡ Some g → Route p t heap (λ i. t.handled f.method i f.place ≡ true) f.method (put_frame p fs depth (poke g)) turns catch object) → Route p t heap running id (if b then poke g ∷ fs else f ∷ put_frame p fs depth (poke g)) (EndFrame ∷ turns) catch object
        at true x ih = subst (λ (q : Frame). Route p t heap (λ i. t.handled q.method i q.place ≡ true) q.method fs turns catch object) (some_same f g x) h
        at false x ih = ih x

    plan_put : (id : Id) (fs : List Frame) (g : Frame) → frame_at p fs depth ≡ Some g → (k : ℕ) (slot : Option Slot) → IsPlan p t heap id fs k slot → IsPlan p t heap id (put_frame p fs depth (poke g)) k slot
    plan_put id fs g e k (Some (Throwing turns catch object)) h = (h.0, h.1, route_put (Around p t id h.0.start k) id fs g e turns catch object h.2)
    plan_put id fs g e k (Some (Leaving ks target)) h = h
    plan_put id fs g e k _ h = absurd h

    slots_put : (f : Frame) (fs : List Frame) (m : Method) (g : Frame) → frame_at p fs depth ≡ Some g → Slots p t heap f fs m → Slots p t heap f (put_frame p fs depth (poke g)) m
    slots_put f fs m g e h =
        record { at = λ k x. record { caught = λ c. (h.at k x).caught c; plan = λ c. plan_put f.method fs g e k (slice_get f.slots k) ((h.at k x).plan c) } }

    -- contexts of equal chains
    have_chain : (i : Id) (xs ys : List Id) → xs ≡ ys → (vs : List Value) (ts : List StackType) → HaveAll p (record { heap = heap; chain = i ∷ xs }) vs ts → HaveAll p (record { heap = heap; chain = i ∷ ys }) vs ts
    have_chain i xs ys e vs ts h = subst (λ zs. HaveAll p (record { heap = heap; chain = i ∷ zs }) vs ts) e h

    base_put : (f : Frame) (fs : List Frame) (m : Method) (g : Frame) → frame_at p fs depth ≡ Some g → Base p t heap f fs m → Base p t heap f (put_frame p fs depth (poke g)) m
    base_put f fs m g e h =
        let same = sym (chain_put fs g e) in
        record {
          is = h.is;
          code = h.code;
          count = h.count;
          arguments = have_chain f.method _ _ same f.arguments (map loaded m.arguments) h.arguments;
          locals = have_chain f.method _ _ same f.locals (map loaded m.locals) h.locals;
        }

    below_put : (i : Id) (xs ys : List Id) → xs ≡ ys → (r : Option PlaceType) (vs : List Value) (us : List StackType) → Below p t (record { heap = heap; chain = i ∷ xs }) r vs us → Below p t (record { heap = heap; chain = i ∷ ys }) r vs us
    below_put i xs ys e r vs us h = subst (λ zs. Below p t (record { heap = heap; chain = i ∷ zs }) r vs us) e h

    waits_put : (b : Bool) (r : Option PlaceType) (f : Frame) (fs : List Frame) (g : Frame) → frame_at p fs depth ≡ Some g → Waits p t heap b r f fs → Waits p t heap b r f (put_frame p fs depth (poke g))
    waits_put true r f fs g e h = record { types = h.types; typed = h.typed; stack = have_chain f.method _ _ (sym (chain_put fs g e)) f.stack h.types h.stack }
    waits_put false r f fs g e h =
        record { line = h.line; is = h.is; types = h.types; typed = h.typed; below = below_put f.method _ _ (sym (chain_put fs g e)) r f.stack h.types h.below; stays = h.stays }

    waits_same : (b : Bool) (r : Option PlaceType) (g : Frame) (gs : List Frame) → Waits p t heap b r g gs → Waits p t heap b r (poke g) gs
    waits_same true r g gs h = record { types = h.types; typed = h.typed; stack = h.stack }
    waits_same false r g gs h = record { line = h.line; is = h.is; types = h.types; typed = h.typed; below = h.below; stays = h.stays }

    callers_put : (b : Bool) (r : Option PlaceType) (fs : List Frame) → Callers p t heap b r fs → (g : Frame) → frame_at p fs depth ≡ Some g → ((gs : List Frame) (mg : Method) → Base p t heap g gs mg → HaveAll p (over heap (g ∷ gs)) (xs_ g) (map loaded mg.arguments) × HaveAll p (over heap (g ∷ gs)) (ys_ g) (map loaded mg.locals)) → Callers p t heap b r (put_frame p fs depth (poke g))
    callers_put b r [] c g e fit = absurd (cc e)
    callers_put b r (f ∷ fs) c g e fit = at (frames_cells p (f ∷ fs) == depth) e (λ x. callers_put f.initialiser c.0.returns fs c.4 g x fit)
      where
        at : (q : Bool) → (if q then Some f else frame_at p fs depth) ≡ Some g → (frame_at p fs depth ≡ Some g → Callers p t heap f.initialiser c.0.returns (put_frame p fs depth (poke g))) → Callers p t heap b r (if q then poke g ∷ fs else f ∷ put_frame p fs depth (poke g))
        at true x ih =
            let d = subst (λ (q : Frame). Callers p t heap b r (q ∷ fs)) (some_same f g x) c in
            let y = fit fs d.0 d.1 in
            (d.0, record { is = d.1.is; code = d.1.code; count = d.1.count; arguments = y.0; locals = y.1 }, record { at = d.2.at }, waits_same b r g fs d.3, d.4)
        at false x ih = (c.0, base_put f fs c.0 g x c.1, slots_put f fs c.0 g x c.2, waits_put b r f fs g x c.3, ih x)

  -- what a write leaves is typed as before
  pub record Done (s : State) (f : Frame) (fs : List Frame) (m : Method) (w : Written) : Type 0 where
    pub now : Now p t w.state (record f { arguments = w.arguments; locals = w.locals }) w.callers m
    pub reach : Reaches p (over s.heap (f ∷ fs)) (over w.state.heap (f ∷ w.callers))

  reach_chain : (heap : List Thing) (i : Id) (xs ys : List Id) → xs ≡ ys → Reaches p (record { heap = heap; chain = i ∷ xs }) (record { heap = heap; chain = i ∷ ys })
  reach_chain heap i xs ys e = record { heap = same_heap heap; chain = λ d id x. subst (λ zs. id_at p (i ∷ zs) d ≡ Some id) e x }

  write_below : (s : State) (f : Frame) (fs : List Frame) (m : Method) → Now p t s f fs m → (depth : ℕ) (xs_ ys_ : Frame → List Value) (g : Frame) → frame_at p fs depth ≡ Some g → ((gs : List Frame) (mg : Method) → Base p t s.heap g gs mg → HaveAll p (over s.heap (g ∷ gs)) (xs_ g) (map loaded mg.arguments) × HaveAll p (over s.heap (g ∷ gs)) (ys_ g) (map loaded mg.locals)) → Done s f fs m (record { state = s; arguments = f.arguments; locals = f.locals; callers = put_frame p fs depth (record g { arguments = xs_ g; locals = ys_ g }) })
  write_below s f fs m n depth xs_ ys_ g e fit =
      record {
        now = record {
          stored = n.stored;
          base = base_put s.heap depth xs_ ys_ f fs m g e n.base;
          slots = slots_put s.heap depth xs_ ys_ f fs m g e n.slots;
          callers = callers_put s.heap depth xs_ ys_ f.initialiser m.returns fs n.callers g e fit;
        };
        reach = reach_chain s.heap f.method _ _ (sym (chain_put s.heap depth xs_ ys_ fs g e));
      }

module _ (p : Program) (t : Typing) (a : Accepted p t) where
  thing_there : (s : State) (f : Frame) (fs : List Frame) (m : Method) → Now p t s f fs m → (object : ℕ) (mould : Mould) → mould_at s.heap object ≡ Some mould → (x : Thing) × (thing_at s.heap object ≡ Some x) × ThingFits p t (over s.heap []) x × (mould_of x ≡ mould)
  thing_there s f fs m n object mould e =
      let x = some_inv (thing_at s.heap object) (λ x. Some (mould_of x)) mould e in
      (x.0, x.1, n.stored.heap object x.0 x.1, some_same (mould_of x.0) mould x.2)

  -- what a pointer leads to has its type
  read_fine : (s : State) (f : Frame) (fs : List Frame) (m : Method) → Now p t s f fs m → (own : CliType) (x : Spot) → LeadsTo p (over s.heap (f ∷ fs)) own x → (w : Value) × (read p s f fs x ≡ Some w) × HasType p (over s.heap (f ∷ fs)) w (of_type own)
  read_fine s f fs m n own (InArgument depth i) h =
      let g = found_in p t s.heap f fs m n.base n.callers depth h.id h.there in
      let same : g.method ≡ h.method = some_same g.method h.method (sym g.base.is ∙ ap p.method g.same ∙ h.is) in
      let at = subst (λ (q : Method). slice_get q.arguments i ≡ Some (Plain own)) (sym same) h.at in
      let v = get_have p (over s.heap (g.frame ∷ g.callers)) g.frame.arguments (map loaded g.method.arguments) i (of_type own) g.base.arguments (get_map loaded g.method.arguments i (Plain own) at) in (
        v.0,
        subst (λ o. on_some o (λ (g : Frame). slice_get g.arguments i) ≡ Some v.0) (sym g.is) v.1,
        has_flat p (over s.heap (g.frame ∷ g.callers)) (over s.heap (f ∷ fs)) (same_heap s.heap) v.0 (of_type own) (flat_type own) v.2,
      )
  read_fine s f fs m n own (InLocal depth i) h =
      let g = found_in p t s.heap f fs m n.base n.callers depth h.id h.there in
      let same : g.method ≡ h.method = some_same g.method h.method (sym g.base.is ∙ ap p.method g.same ∙ h.is) in
      let at = subst (λ (q : Method). slice_get q.locals i ≡ Some (Plain own)) (sym same) h.at in
      let v = get_have p (over s.heap (g.frame ∷ g.callers)) g.frame.locals (map loaded g.method.locals) i (of_type own) g.base.locals (get_map loaded g.method.locals i (Plain own) at) in (
        v.0,
        subst (λ o. on_some o (λ (g : Frame). slice_get g.locals i) ≡ Some v.0) (sym g.is) v.1,
        has_flat p (over s.heap (g.frame ∷ g.callers)) (over s.heap (f ∷ fs)) (same_heap s.heap) v.0 (of_type own) (flat_type own) v.2,
      )
  read_fine s f fs m n own (InObject object i) h =
      let x = thing_there s f fs m n object h.mould h.there in
      let v = value_there p t (over s.heap []) x.0 x.2 i own (ap (λ z. place_in p z i) x.3 ∙ h.at) in (
        v.0,
        subst (λ o. on_some o (λ x. value_in x i) ≡ Some v.0) (sym x.1) v.1,
        has_more p (over s.heap []) (over s.heap (f ∷ fs)) (from_heap p t s.heap (f ∷ fs)) v.0 (of_type own) v.2,
      )

  write_fine : (s : State) (f : Frame) (fs : List Frame) (m : Method) → Now p t s f fs m → (own : CliType) (x : Spot) → LeadsTo p (over s.heap (f ∷ fs)) own x → (v : Value) → HasType p (over s.heap (f ∷ fs)) v (of_type own) → (w : Written) × (write p s f fs x v ≡ Some w) × Done p t s f fs m w
  write_fine s f fs m n own (InArgument depth i) h v hv =
      at (frames_cells p (f ∷ fs) == depth) refl g.is
    where
      g : Found p t s.heap (f ∷ fs) depth h.id
      g = found_in p t s.heap f fs m n.base n.callers depth h.id h.there

      type_at : (q : Frame) (gs : List Frame) (mg : Method) → Base p t s.heap q gs mg → q.method ≡ h.id → slice_get mg.arguments i ≡ Some (Plain own)
      type_at q gs mg b same =
          let is : mg ≡ h.method = some_same mg h.method (sym b.is ∙ ap p.method same ∙ h.is) in
          subst (λ (z : Method). slice_get z.arguments i ≡ Some (Plain own)) (sym is) h.at

      seen : (gs : List Frame) → HasType p (over s.heap gs) v (of_type own)
      seen gs = has_flat p (over s.heap (f ∷ fs)) (over s.heap gs) (same_heap s.heap) v (of_type own) (flat_type own) hv

      set : (q : Frame) (gs : List Frame) (mg : Method) → Base p t s.heap q gs mg → q.method ≡ h.id → HaveAll p (over s.heap (q ∷ gs)) (slice_set q.arguments i v) (map loaded mg.arguments)
      set q gs mg b same = set_have p (over s.heap (q ∷ gs)) q.arguments (map loaded mg.arguments) i (of_type own) v b.arguments (get_map loaded mg.arguments i (Plain own) (type_at q gs mg b same)) (seen (q ∷ gs))

      at : (b : Bool) → (frames_cells p (f ∷ fs) == depth) ≡ b → (if b then Some f else frame_at p fs depth) ≡ Some g.frame → (w : Written) × ((if b then Some (record { state = s; arguments = slice_set f.arguments i v; locals = f.locals; callers = fs }) else on_some (frame_at p fs depth) (λ (g : Frame). Some (record { state = s; arguments = f.arguments; locals = f.locals; callers = put_frame p fs depth (record g { arguments = slice_set g.arguments i v }) }))) ≡ Some w) × Done p t s f fs m w
      at true y e =
          let same : f.method ≡ h.id = ap (λ (q : Frame). q.method) (some_same f g.frame e) ∙ g.same in (
            record { state = s; arguments = slice_set f.arguments i v; locals = f.locals; callers = fs },
            refl,
            record {
              now = record {
                stored = n.stored;
                base = record { is = n.base.is; code = n.base.code; count = n.base.count; arguments = set f fs m n.base same; locals = n.base.locals };
                slots = record { at = n.slots.at };
                callers = n.callers;
              };
              reach = reach_chain p t s.heap f.method _ _ refl;
            },
          )
      at false y e = (
        record { state = s; arguments = f.arguments; locals = f.locals; callers = put_frame p fs depth (record g.frame { arguments = slice_set g.frame.arguments i v }) },
        subst (λ o. on_some {B = Written} o (λ (g : Frame). Some (record { state = s; arguments = f.arguments; locals = f.locals; callers = put_frame p fs depth (record g { arguments = slice_set g.arguments i v }) })) ≡ Some (record { state = s; arguments = f.arguments; locals = f.locals; callers = put_frame p fs depth (record g.frame { arguments = slice_set g.frame.arguments i v }) })) (sym e) refl,
        write_below p t s f fs m n depth (λ q. slice_set q.arguments i v) (λ q. q.locals) g.frame e (λ gs mg b. (set g.frame gs mg b g.same, b.locals)),
      )
  write_fine s f fs m n own (InLocal depth i) h v hv =
      at (frames_cells p (f ∷ fs) == depth) refl g.is
    where
      g : Found p t s.heap (f ∷ fs) depth h.id
      g = found_in p t s.heap f fs m n.base n.callers depth h.id h.there

      type_at : (q : Frame) (gs : List Frame) (mg : Method) → Base p t s.heap q gs mg → q.method ≡ h.id → slice_get mg.locals i ≡ Some (Plain own)
      type_at q gs mg b same =
          let is : mg ≡ h.method = some_same mg h.method (sym b.is ∙ ap p.method same ∙ h.is) in
          subst (λ (z : Method). slice_get z.locals i ≡ Some (Plain own)) (sym is) h.at

      seen : (gs : List Frame) → HasType p (over s.heap gs) v (of_type own)
      seen gs = has_flat p (over s.heap (f ∷ fs)) (over s.heap gs) (same_heap s.heap) v (of_type own) (flat_type own) hv

      set : (q : Frame) (gs : List Frame) (mg : Method) → Base p t s.heap q gs mg → q.method ≡ h.id → HaveAll p (over s.heap (q ∷ gs)) (slice_set q.locals i v) (map loaded mg.locals)
      set q gs mg b same = set_have p (over s.heap (q ∷ gs)) q.locals (map loaded mg.locals) i (of_type own) v b.locals (get_map loaded mg.locals i (Plain own) (type_at q gs mg b same)) (seen (q ∷ gs))

      at : (b : Bool) → (frames_cells p (f ∷ fs) == depth) ≡ b → (if b then Some f else frame_at p fs depth) ≡ Some g.frame → (w : Written) × ((if b then Some (record { state = s; arguments = f.arguments; locals = slice_set f.locals i v; callers = fs }) else on_some (frame_at p fs depth) (λ (g : Frame). Some (record { state = s; arguments = f.arguments; locals = f.locals; callers = put_frame p fs depth (record g { locals = slice_set g.locals i v }) }))) ≡ Some w) × Done p t s f fs m w
      at true y e =
          let same : f.method ≡ h.id = ap (λ (q : Frame). q.method) (some_same f g.frame e) ∙ g.same in (
            record { state = s; arguments = f.arguments; locals = slice_set f.locals i v; callers = fs },
            refl,
            record {
              now = record {
                stored = n.stored;
                base = record { is = n.base.is; code = n.base.code; count = n.base.count; arguments = n.base.arguments; locals = set f fs m n.base same };
                slots = record { at = n.slots.at };
                callers = n.callers;
              };
              reach = reach_chain p t s.heap f.method _ _ refl;
            },
          )
      at false y e = (
        record { state = s; arguments = f.arguments; locals = f.locals; callers = put_frame p fs depth (record g.frame { locals = slice_set g.frame.locals i v }) },
        subst (λ o. on_some {B = Written} o (λ (g : Frame). Some (record { state = s; arguments = f.arguments; locals = f.locals; callers = put_frame p fs depth (record g { locals = slice_set g.locals i v }) })) ≡ Some (record { state = s; arguments = f.arguments; locals = f.locals; callers = put_frame p fs depth (record g.frame { locals = slice_set g.frame.locals i v }) })) (sym e) refl,
        write_below p t s f fs m n depth (λ q. q.arguments) (λ q. slice_set q.locals i v) g.frame e (λ gs mg b. (b.arguments, set g.frame gs mg b g.same)),
      )
  write_fine s f fs m n own (InObject object i) h v hv =
      let x = thing_there s f fs m n object h.mould h.there in
      let new : Thing = with_value x.0 i v in
      let hw = has_flat p (over s.heap (f ∷ fs)) (over s.heap []) (same_heap s.heap) v (of_type own) (flat_type own) hv in
      let y = with_there p t (over s.heap []) x.0 x.2 i own v (ap (λ z. place_in p z i) x.3 ∙ h.at) hw in
      let heap : List Thing = put_thing s.heap object (with_value x.0 i v) in (
        record { state = record s { heap = put_thing s.heap object (with_value x.0 i v) }; arguments = f.arguments; locals = f.locals; callers = fs },
        ap (λ o. on_some {B = Written} o (λ x. Some (record { state = record s { heap = put_thing s.heap object (with_value x i v) }; arguments = f.arguments; locals = f.locals; callers = fs }))) x.1,
        record {
          now = again (put_thing s.heap object (with_value x.0 i v)) (now_put p t a s f fs m n object x.0 (with_value x.0 i v) x.1 y.1 y.0);
          reach = reach p t s.heap heap (puts s.heap object x.0 (with_value x.0 i v) x.1 y.1) (f ∷ fs);
        },
      )
    where
      again : (heap : List Thing) → Now p t (record s { heap = heap }) f fs m → Now p t (record s { heap = heap }) (record f { arguments = f.arguments; locals = f.locals }) fs m
      again heap n' = n'

  pointer_has : (cx : Context) (v : Value) (u : StackType) (type : CliType) → HasType p cx v u → pointee u ≡ Some type → (c : Cell) × (x : Spot) × (v ≡ Pointer c x) × Points p cx type c x
  pointer_has cx (Pointer c x) (P e) type h k = (c, x, refl, subst (λ z. Points p cx z c x) (some_same e type k) h)
  pointer_has cx (Int i) I type h k = absurd (cc k)
  pointer_has cx (Long i) L type h k = absurd (cc k)
  pointer_has cx Null Nil type h k = absurd (cc k)
  pointer_has cx Null (O d) type h k = absurd (cc k)
  pointer_has cx (Object i) (O d) type h k = absurd (cc k)
  pointer_has cx (Handle g) H type h k = absurd (cc k)
  pointer_has cx _ _ type h k = absurd h

module _ (p : Program) (t : Typing) (a : Accepted p t) (s : State) (f : Frame) (fs : List Frame) (m : Method) (n : Now p t s f fs m) (fr : s.frames ≡ f ∷ fs) (next : ℕ) (ts us : List StackType) (l : Leads p t f.method f.place us next) (have : HaveAll p (over s.heap (f ∷ fs)) f.stack ts) where
  abbrev cx : Context
  cx = over s.heap (f ∷ fs)

  pub load_indirect_fine : (access : Access) → effect p t.exception m (LoadIndirect access) ts ≡ Some us → Goes p t (load_indirect p s f fs next access)
  unfolding load_indirect
  load_indirect_fine access e =
      let x0 = top_inv ts _ us e in
      let x1 = some_inv (pointee x0.0) _ us x0.3 in
      let wide = pointer_wide access x1.0 (when_inv (pointer_takes access x1.0) _ us x1.2).0 in
      some_goes p t (access_cell access) wide.0 _ wide.1
      (top_goes p t cx f.stack ts _ _ us have e (λ v rest u types hv hrest e1.
      let type = some_inv (pointee u) _ us e1 in
      let w = when_inv (pointer_takes access type.0) _ us type.2 in
      let x = pointer_has p t a cx v u type.0 hv type.1 in
      let view = sees access type.0 x.3.own x.0 wide.0 w.0 wide.1 x.3.fine x.3.is in
      let r = read_fine p t a s f fs m n x.3.own x.1 x.3.leads in
      let k = kept_cell p cx wide.0 view.view r.0 (subst (HasType p cx r.0) view.same r.2) in
      subst (λ z. Goes p t (on_pointer z wide.0 (λ cell spot. on_some (read p s f fs spot) (λ w. on_some (kept_in wide.0 w) (λ x. goes p s f fs next (x ∷ rest)))))) (sym x.2)
      (test_goes p t (same_width x.0 wide.0) _ view.width
      (some_goes p t (read p s f fs x.1) r.0 _ r.1
      (some_goes p t (kept_in wide.0 r.0) k.0 _ k.1
      (leads_fine p t a s f fs m n next (k.0 ∷ rest) (accessed access type.0 ∷ types) us l w.1
      (subst (HasType p cx k.0) (sym view.loads) k.2, hrest)))))))

  pub store_indirect_fine : (access : Access) → effect p t.exception m (StoreIndirect access) ts ≡ Some us → Goes p t (store_indirect p s f fs next access)
  unfolding store_indirect
  store_indirect_fine access e =
      let x0 = top_inv ts _ us e in
      let x1 = top_inv x0.1 _ us x0.3 in
      let x2 = some_inv (pointee x1.0) _ us x1.3 in
      let wide = pointer_wide access x2.0 (and_left (pointer_takes access x2.0) _ (when_inv (pointer_takes access x2.0 && assignable p x0.0 (accessed access x2.0)) _ us x2.2).0) in
      some_goes p t (access_cell access) wide.0 _ wide.1
      (top_goes p t cx f.stack ts _ _ us have e (λ v below uv below_types hv hbelow e1.
      top_goes p t cx below below_types _ _ us hbelow e1 (λ q rest u types hq hrest e2.
      let type = some_inv (pointee u) _ us e2 in
      let w = when_inv (pointer_takes access type.0 && assignable p uv (accessed access type.0)) _ us type.2 in
      let x = pointer_has p t a cx q u type.0 hq type.1 in
      let view = sees access type.0 x.3.own x.0 wide.0 (and_left (pointer_takes access type.0) _ w.0) wide.1 x.3.fine x.3.is in
      let own = view.loads ∙ sym view.same in
      let hv' = subst (HasType p cx v) (own ∙ type_held x.3.own x.0 x.3.is) (has_fits p a.up cx v uv (accessed access type.0) hv (and_right (pointer_takes access type.0) _ w.0)) in
      let k = kept_cell p cx x.0 x.3.own v hv' in
      let r = write_fine p t a s f fs m n x.3.own x.1 x.3.leads k.0 (subst (HasType p cx k.0) (sym (type_held x.3.own x.0 x.3.is)) k.2) in
      subst (λ y. Goes p t (on_pointer y wide.0 (λ cell spot. on_some (kept_in cell v) (λ w. on_some (write p s f fs spot w) (λ t. goes p t.state (record f { arguments = t.arguments; locals = t.locals }) t.callers next rest))))) (sym x.2)
      (test_goes p t (same_width x.0 wide.0) _ view.width
      (some_goes p t (kept_in x.0 v) k.0 _ k.1
      (some_goes p t (write p s f fs x.1 k.0) r.0 _ r.1
      (leads_fine p t a r.0.state (record f { arguments = r.0.arguments; locals = r.0.locals }) r.0.callers m r.2.now next rest types us l w.1
      (have_more p cx (over r.0.state.heap (f ∷ r.0.callers)) r.2.reach rest types hrest))))))))

  -- an address in the frame itself
  own_chain : (f : Frame) (fs : List Frame) → id_at p (f.method ∷ map (λ (f : Frame). f.method) fs) (frames_cells p (f ∷ fs)) ≡ Some f.method
  own_chain f fs =
      let yes : (chain_cells p (f.method ∷ map (λ (f : Frame). f.method) fs) == frames_cells p (f ∷ fs)) ≡ true = eq-eqb _ _ (chain_law p (f ∷ fs)) in
      subst (λ (b : Bool). (if b then Some f.method else id_at p (map (λ (f : Frame). f.method) fs) (frames_cells p (f ∷ fs))) ≡ Some f.method) (sym yes) refl

  address_of : (k : PlaceType) → address_type k ts ≡ Some us → (type : CliType) × (c : Cell) × (k ≡ Plain type) × (cell_of type ≡ Some c) × (Some (P type ∷ ts) ≡ Some us)
  address_of (Plain type) e =
      let w = when_inv (is_plain type) _ us e in
      let c = plain_cell type w.0 in
      (type, c.0, refl, c.1, w.1)
  address_of (To type) e = absurd (cc e)

  pub argument_address_fine : (i : ℕ) → effect p t.exception m (LoadArgumentAddress i) ts ≡ Some us → Goes p t (on_some (p.method f.method) (λ m. on_some (slice_get m.arguments i) (λ type. on_some (place_cell type) (λ cell. goes p s f fs next (Pointer cell (InArgument (frames_cells p (f ∷ fs)) i) ∷ f.stack)))))
  argument_address_fine i e =
      let k = some_inv (slice_get m.arguments i) _ us e in
      let d = address_of k.0 k.2 in
      some_goes p t (p.method f.method) m _ n.base.is
      (some_goes p t (slice_get m.arguments i) k.0 _ k.1
      (some_goes p t (place_cell k.0) d.1 _ (ap place_cell d.2 ∙ d.3)
      (leads_fine p t a s f fs m n next (Pointer d.1 (InArgument (frames_cells p (f ∷ fs)) i) ∷ f.stack) (P d.0 ∷ ts) us l d.4
      (record { own = d.0; leads = record { id = f.method; there = own_chain f fs; method = m; is = n.base.is; at = k.1 ∙ ap Some d.2 }; is = d.3; fine = agree_here d.0 d.1 d.3 }, have))))

  pub local_address_fine : (i : ℕ) → effect p t.exception m (LoadLocalAddress i) ts ≡ Some us → Goes p t (on_some (p.method f.method) (λ m. on_some (slice_get m.locals i) (λ type. on_some (place_cell type) (λ cell. goes p s f fs next (Pointer cell (InLocal (frames_cells p (f ∷ fs)) i) ∷ f.stack)))))
  local_address_fine i e =
      let k = some_inv (slice_get m.locals i) _ us e in
      let d = address_of k.0 k.2 in
      some_goes p t (p.method f.method) m _ n.base.is
      (some_goes p t (slice_get m.locals i) k.0 _ k.1
      (some_goes p t (place_cell k.0) d.1 _ (ap place_cell d.2 ∙ d.3)
      (leads_fine p t a s f fs m n next (Pointer d.1 (InLocal (frames_cells p (f ∷ fs)) i) ∷ f.stack) (P d.0 ∷ ts) us l d.4
      (record { own = d.0; leads = record { id = f.method; there = own_chain f fs; method = m; is = n.base.is; at = k.1 ∙ ap Some d.2 }; is = d.3; fine = agree_here d.0 d.1 d.3 }, have))))
