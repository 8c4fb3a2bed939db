-- Fields, static fields and literals.
use Rattle.std.proofs.Common.{◌≡◌, ℕ, Bool, true, false, List, [], ◌∷◌, ◌++◌, length, Option, Some, None, refl, sym, ap, ◌∙◌, subst}
use Rattle.std.specs.Prelude.{if◌then◌else◌, slice_get, slice_set}
use Rattle.std.specs.Option.{option_map}
use Rattle.plain_types.specs.declared.elem.Elem.TheVariants as elem
use Rattle.machine.specs.Data.{Id, id_eq, CliType, Basic, ClassOf, Plain, InObject, cell_of, thing_at, put_thing, end_of, Value, Object, Pointer, Thing, Instance, Text, Elements, Boxed, StaticCell, Frame, State}
use Rattle.machine.specs.Program.{Program, Method, LoadField, StoreField, LoadFieldAddress, LoadStatic, StoreStatic, LoadStaticAddress, LoadText}
use Rattle.machine.specs.Numbers.{kept, zero_of}
use Rattle.machine.specs.Texts.{same_text}
use Rattle.machine.specs.Throw.{on_some, goes}
use Rattle.machine.specs.Objects.{load_field, store_field, load_field_address, static_object, static_of, static_at, Reached, reached, static_reached, load_static, store_static, load_static_address, literal_object, load_text}
use Rattle.machine_typed.specs.Typing.{StackType, O, P, of_type, is_plain, assignable, effect}
use Rattle.machine_typed.specs.Accepted.{Typing, HasInstances, Leads, Accepted}
use Rattle.machine_typed.proofs.Heaps.{OfStatic, OfText, mould_of, mould_at, mould_there, Extends, same_heap, grows, puts, get_seam, some_same, some_inv}
use Rattle.machine_typed.proofs.Types.{id_same, plain_cell, agree_here}
use Rattle.machine_typed.proofs.Values.{Context, type_of_mould, flat_type, HasType, HaveAll, has_more, has_flat, has_fits, kept_has, zero_has}
use Rattle.machine_typed.proofs.States.{over, Goes, some_goes, Now, leads_fine, now_grown, now_put}
use Rattle.machine_typed.proofs.Steps.{when_inv, top_goes, from_heap, have_over, new_has}
use Rattle.machine_typed.proofs.Things.{value_there, with_there, instance_goes}

-- a cell of a static field
pub cell_at : (heap : List Thing) (n : ℕ) (k : CliType) → mould_at heap n ≡ Some (OfStatic k) → (v : Value) × (thing_at heap n ≡ Some (StaticCell k v))
cell_at heap n k e = let y = some_inv (thing_at heap n) (λ x. Some (mould_of x)) (OfStatic k) e in at y.0 y.1 (some_same (mould_of y.0) (OfStatic k) y.2)
  where
    at : (x : Thing) → thing_at heap n ≡ Some x → mould_of x ≡ OfStatic k → (v : Value) × (thing_at heap n ≡ Some (StaticCell k v))
    at (StaticCell q v) ex ek = let same : q ≡ k = cc ek in (v, ex ∙ ap (λ z. Some (StaticCell z v)) same)
    at (Instance c vs) ex ek = absurd (cc ek)
    at (Text units) ex ek = absurd (cc ek)
    at (Elements element vs) ex ek = absurd (cc ek)
    at (Boxed type v) ex ek = absurd (cc ek)

module _ (p : Program) (t : Typing) (a : Accepted p t) (s : State) (f : Frame) (fs : List Frame) (m : Method) (n : Now p t s f fs m) (fr : s.frames ≡ f ∷ fs) (next : ℕ) (ts us : List StackType) (l : Leads p t f.method f.place us next) (have : HaveAll p (over s.heap (f ∷ fs)) f.stack ts) where
  abbrev cx : Context
  cx = over s.heap (f ∷ fs)

  -- a value of the object's type, seen from the frame, and seen from the heap
  from_frame : (heap : List Thing) (v : Value) (k : CliType) → Extends s.heap heap → HasType p (over heap (f ∷ fs)) v (of_type k) → HasType p (over heap []) v (of_type k)
  from_frame heap v k x h = has_flat p (over heap (f ∷ fs)) (over heap []) (same_heap heap) v (of_type k) (flat_type k) h

  pub load_field_fine : (owner : Id) (i : ℕ) → HasInstances p t owner → effect p t.exception m (LoadField owner i) ts ≡ Some us → Goes p t (load_field p s f fs next owner i)
  unfolding load_field
  load_field_fine owner i only e =
      top_goes p t cx f.stack ts _ _ us have e (λ v rest u types hv hrest e'.
      let w = when_inv (assignable p u (O (ClassOf owner))) _ us e' in
      let ks = some_inv (p.fields owner) _ us w.1 in
      let k = some_inv (slice_get ks.0 i) _ us ks.2 in
      instance_goes p t a s f fs m n fr owner only i ks.0 k.0 ks.1 k.1 v (has_fits p a.up cx v u (O (ClassOf owner)) hv w.0) _ (λ object c vs x.
      let z = value_there p t (over s.heap []) (Instance c vs) x.fits i k.0 x.place in
      some_goes p t (slice_get vs i) z.0 _ z.1
      (leads_fine p t a s f fs m n next (z.0 ∷ rest) (of_type k.0 ∷ types) us l k.2 (has_more p (over s.heap []) cx (from_heap p t s.heap (f ∷ fs)) z.0 (of_type k.0) z.2, hrest))))

  pub store_field_fine : (owner : Id) (i : ℕ) → HasInstances p t owner → effect p t.exception m (StoreField owner i) ts ≡ Some us → Goes p t (store_field p s f fs next owner i)
  unfolding store_field
  store_field_fine owner i only e =
      top_goes p t cx f.stack ts _ _ us have e (λ w below uw below_types hw hbelow e1.
      top_goes p t cx below below_types _ _ us hbelow e1 (λ v rest u types hv hrest e2.
      let x = when_inv (assignable p u (O (ClassOf owner))) _ us e2 in
      let ks = some_inv (p.fields owner) _ us x.1 in
      let k = some_inv (slice_get ks.0 i) _ us ks.2 in
      let y = when_inv (assignable p uw (of_type k.0)) _ us k.2 in
      let z = kept_has p cx (Plain k.0) w (has_fits p a.up cx w uw (of_type k.0) hw y.0) in
      some_goes p t (p.fields owner) ks.0 _ ks.1
      (some_goes p t (slice_get ks.0 i) k.0 _ k.1
      (some_goes p t (kept (Plain k.0) w) z.0 _ z.1
      (instance_goes p t a s f fs m n fr owner only i ks.0 k.0 ks.1 k.1 v (has_fits p a.up cx v u (O (ClassOf owner)) hv x.0) _ (λ object c vs q.
      let old : Thing = Instance c vs in
      let new : Thing = Instance c (slice_set vs i z.0) in
      let b = with_there p t (over s.heap []) old q.fits i k.0 z.0 q.place (from_frame s.heap z.0 k.0 (same_heap s.heap) z.2) in
      leads_fine p t a (record s { heap = put_thing s.heap object new }) f fs m (now_put p t a s f fs m n object old new q.at b.1 b.0) next rest types us l y.1
      (have_over p t s.heap (put_thing s.heap object new) (f ∷ fs) (puts s.heap object old new q.at b.1) rest types hrest)))))))

  pub load_field_address_fine : (owner : Id) (i : ℕ) → HasInstances p t owner → effect p t.exception m (LoadFieldAddress owner i) ts ≡ Some us → Goes p t (load_field_address p s f fs next owner i)
  unfolding load_field_address
  load_field_address_fine owner i only e =
      top_goes p t cx f.stack ts _ _ us have e (λ v rest u types hv hrest e'.
      let w = when_inv (assignable p u (O (ClassOf owner))) _ us e' in
      let ks = some_inv (p.fields owner) _ us w.1 in
      let k = some_inv (slice_get ks.0 i) _ us ks.2 in
      let c = plain_cell k.0 (a.fields owner ks.0 i k.0 ks.1 k.1) in
      some_goes p t (p.fields owner) ks.0 _ ks.1
      (some_goes p t (slice_get ks.0 i) k.0 _ k.1
      (some_goes p t (cell_of k.0) c.0 _ c.1
      (instance_goes p t a s f fs m n fr owner only i ks.0 k.0 ks.1 k.1 v (has_fits p a.up cx v u (O (ClassOf owner)) hv w.0) _ (λ object d vs x.
      leads_fine p t a s f fs m n next (Pointer c.0 (InObject object i) ∷ rest) (P k.0 ∷ types) us l k.2
      (record { own = k.0; leads = record { mould = mould_of (Instance d vs); there = mould_there s.heap object (Instance d vs) x.at; at = x.place }; is = c.1; fine = agree_here k.0 c.0 c.1 }, hrest))))))

  -- a static field was accessed
  record Arrived (kind : CliType) (x : Reached) : Type 0 where
    type : x.type ≡ kind
    there : mould_at x.state.heap x.object ≡ Some (OfStatic kind)
    now : Now p t x.state f fs m
    more : Extends s.heap x.state.heap

  reached_fine : (id : Id) (kind : CliType) → p.static id ≡ Some kind → is_plain kind ≡ true → (o : Option ℕ) → static_object s.statics id ≡ o → Arrived kind (reached s id kind o)
  reached_fine id kind is plain (Some i) e = record { type = refl; there = n.stored.statics id i kind e is; now = n; more = same_heap s.heap }
  reached_fine id kind is plain None e =
      record {
        type = refl;
        there = new_typed;
        now = record {
          stored = record { heap = g.stored.heap; statics = λ h i k e o. at h i k (id_eq id h) refl e o; literals = g.stored.literals; going = n.stored.going };
          base = g.base;
          slots = g.slots;
          callers = g.callers;
        };
        more = grows s.heap new;
      }
    where
      new : Thing
      new = StaticCell kind (zero_of kind)

      heap : List Thing
      heap = s.heap ++ new ∷ []

      g : Now p t (record s { heap = heap }) f fs m
      g = now_grown p t a s f fs m n new (zero_has p (over heap []) kind plain)

      new_typed : mould_at heap (end_of s.heap) ≡ Some (OfStatic kind)
      new_typed = mould_there heap (end_of s.heap) new (get_seam s.heap new)

      at : (h : Id) (i : ℕ) (k : CliType) (b : Bool) → id_eq id h ≡ b → (if b then Some (end_of s.heap) else static_object s.statics h) ≡ Some i → p.static h ≡ Some k → mould_at heap i ≡ Some (OfStatic k)
      at h i k true x e o =
          let same : kind ≡ k = some_same kind k (sym is ∙ ap p.static (id_same id h x) ∙ o) in
          subst (λ j. mould_at heap j ≡ Some (OfStatic k)) (some_same (end_of s.heap) i e) (subst (λ q. mould_at heap (end_of s.heap) ≡ Some (OfStatic q)) same new_typed)
      at h i k false x e o = (grows s.heap new).keeps i (OfStatic k) (n.stored.statics h i k e o)

  -- an access of a static field goes on
  static_goes : (id : Id) (kind : CliType) → p.static id ≡ Some kind → is_plain kind ≡ true → (k : Reached → Option State) → ((x : Reached) → Arrived kind x → Goes p t (k x)) → Goes p t (on_some (static_reached p s id) k)
  static_goes id kind is plain k h =
      let x = reached s id kind (static_object s.statics id) in
      some_goes p t (static_reached p s id) x k (ap (option_map (λ kind. reached s id kind (static_object s.statics id))) is) (h x (reached_fine id kind is plain (static_object s.statics id) refl))

  pub load_static_fine : (id : Id) → effect p t.exception m (LoadStatic id) ts ≡ Some us → Goes p t (load_static p s f fs next id)
  unfolding load_static
  load_static_fine id e =
      let k = some_inv (p.static id) _ us e in
      let q = when_inv (is_plain k.0) _ us k.2 in
      static_goes id k.0 k.1 q.0 _ (λ x h.
      let v = cell_at x.state.heap x.object k.0 h.there in
      let hv = has_more p (over x.state.heap []) (over x.state.heap (f ∷ fs)) (from_heap p t x.state.heap (f ∷ fs)) v.0 (of_type k.0) (h.now.stored.heap x.object (StaticCell k.0 v.0) v.1) in
      some_goes p t (static_at x.state.heap x.object) v.0 _ (ap (λ o. on_some o static_of) v.1)
      (leads_fine p t a x.state f fs m h.now next (v.0 ∷ f.stack) (of_type k.0 ∷ ts) us l q.1 (hv, have_over p t s.heap x.state.heap (f ∷ fs) h.more f.stack ts have)))

  pub store_static_fine : (id : Id) → effect p t.exception m (StoreStatic id) ts ≡ Some us → Goes p t (store_static p s f fs next id)
  unfolding store_static
  store_static_fine id e =
      let k = some_inv (p.static id) _ us e in
      let q = when_inv (is_plain k.0) _ us k.2 in
      static_goes id k.0 k.1 q.0 _ (λ x h.
      let old = cell_at x.state.heap x.object k.0 h.there in
      some_goes p t (static_at x.state.heap x.object) old.0 _ (ap (λ o. on_some o static_of) old.1)
      (top_goes p t (over x.state.heap (f ∷ fs)) f.stack ts _ _ us (have_over p t s.heap x.state.heap (f ∷ fs) h.more f.stack ts have) q.1 (λ v rest u types hv hrest e'.
      let w = when_inv (assignable p u (of_type k.0)) _ us e' in
      let z = kept_has p (over x.state.heap (f ∷ fs)) (Plain k.0) v (has_fits p a.up (over x.state.heap (f ∷ fs)) v u (of_type k.0) hv w.0) in
      let hz = from_frame x.state.heap z.0 k.0 h.more z.2 in
      subst (λ (q : CliType). Goes p t (on_some (kept (Plain q) v) (λ w. goes p (record x.state { heap = put_thing x.state.heap x.object (StaticCell q w) }) f fs next rest))) (sym h.type)
      (some_goes p t (kept (Plain k.0) v) z.0 _ z.1
      (leads_fine p t a (record x.state { heap = put_thing x.state.heap x.object (StaticCell k.0 z.0) }) f fs m
      (now_put p t a x.state f fs m h.now x.object (StaticCell k.0 old.0) (StaticCell k.0 z.0) old.1 refl hz) next rest types us l w.1
      (have_over p t x.state.heap (put_thing x.state.heap x.object (StaticCell k.0 z.0)) (f ∷ fs) (puts x.state.heap x.object (StaticCell k.0 old.0) (StaticCell k.0 z.0) old.1 refl) rest types hrest))))))

  pub load_static_address_fine : (id : Id) → effect p t.exception m (LoadStaticAddress id) ts ≡ Some us → Goes p t (load_static_address p s f fs next id)
  unfolding load_static_address
  load_static_address_fine id e =
      let k = some_inv (p.static id) _ us e in
      let q = when_inv (is_plain k.0) _ us k.2 in
      let c = plain_cell k.0 q.0 in
      static_goes id k.0 k.1 q.0 _ (λ x h.
      some_goes p t (cell_of x.type) c.0 _ (ap cell_of h.type ∙ c.1)
      (leads_fine p t a x.state f fs m h.now next (Pointer c.0 (InObject x.object 0) ∷ f.stack) (P k.0 ∷ ts) us l q.1
      (record { own = k.0; leads = record { mould = OfStatic k.0; there = h.there; at = refl }; is = c.1; fine = agree_here k.0 c.0 c.1 }, have_over p t s.heap x.state.heap (f ∷ fs) h.more f.stack ts have)))

  -- literals
  pub load_text_fine : (units : List ℕ) → effect p t.exception m (LoadText units) ts ≡ Some us → (o : Option ℕ) → literal_object s.literals units ≡ o → Goes p t (load_text p s f fs next units o)
  unfolding load_text
  load_text_fine units e (Some i) o =
      let x = n.stored.literals units i o in
      leads_fine p t a s f fs m n next (Object i ∷ f.stack) (O (Basic elem.String) ∷ ts) us l e
      (record { own = Basic elem.String; at = ap (λ o. on_some o type_of_mould) x.1; below = a.same (Basic elem.String) }, have)
  load_text_fine units e None o =
      leads_fine p t a (record s { heap = heap; literals = record { text = units; object = end_of s.heap } ∷ s.literals }) f fs m
      (record {
        stored = record { heap = g.stored.heap; statics = g.stored.statics; literals = λ us' i h. here us' i (same_text units us') h; going = n.stored.going };
        base = g.base;
        slots = g.slots;
        callers = g.callers;
      })
      next (Object (end_of s.heap) ∷ f.stack) (O (Basic elem.String) ∷ ts) us l e
      (new_has p t a s.heap (f ∷ fs) (Text units) (Basic elem.String) refl, have_over p t s.heap heap (f ∷ fs) (grows s.heap (Text units)) f.stack ts have)
    where
      heap : List Thing
      heap = s.heap ++ Text units ∷ []

      g : Now p t (record s { heap = heap }) f fs m
      g = now_grown p t a s f fs m n (Text units) tt

      here : (us' : List ℕ) (i : ℕ) (b : Bool) → (if b then Some (end_of s.heap) else literal_object s.literals us') ≡ Some i → (count : ℕ) × (mould_at heap i ≡ Some (OfText count))
      here us' i true x = (length units, subst (λ j. mould_at heap j ≡ Some (OfText (length units))) (some_same (end_of s.heap) i x) (mould_there heap (end_of s.heap) (Text units) (get_seam s.heap (Text units))))
      here us' i false x = let y = n.stored.literals us' i x in (y.0, (grows s.heap (Text units)).keeps i (OfText y.0) y.1)
