-- Arrays.
use Rattle.std.proofs.Common.{◌≡◌, ℕ, Bool, true, false, ◌&&◌, List, [], ◌∷◌, ◌++◌, length, replicate, Option, Some, None, refl, sym, ap, ◌∙◌, subst}
use Rattle.std.specs.Prelude.{ℤ, unsigned_abs, if◌then◌else◌, slice_get, slice_set}
use Rattle.std.proofs.Math.ListN.{length-set}
use Rattle.std.proofs.lemmas.Bool.{lt-ltb}
use Rattle.std.proofs.lemmas.Option.{slice_get_within}
use Rattle.board_types.specs.declared.board.Known.TheVariants.{NullReference, IndexOutOfRange, Overflow, ArrayTypeMismatch}
use Rattle.machine.specs.Data.{CliType, ArrayOf, Cell, Bits, Refers, InObject, cell_of, put_thing, end_of, Value, Int, Long, Object, Pointer, Thing, Elements, Frame, State}
use Rattle.machine.specs.Program.{Program, Method, Access, Exact, Typed, access_cell, NewArray, LoadLength, LoadElement, StoreElement, LoadElementAddress}
use Rattle.machine.specs.Numbers.{is_long, is_negative, same_width, kept_in, zero_of, as_int}
use Rattle.machine.specs.Throw.{on_some, goes, raise}
use Rattle.machine.specs.Rows.{length_value, index_of}
use Rattle.machine.specs.Objects.{value_fits, new_array, load_length, load_element, store_element, is_exact, load_element_address}
use Rattle.machine_typed.specs.Typing.{StackType, I, O, P, number, of_type, held, is_plain, is_int, is_reference, agrees, has_width, ArrayKind, NullArray, ArrayWith, array_of, array_takes, element_loaded, element_takes, effect}
use Rattle.machine_typed.specs.Accepted.{Typing, elements_fit, Leads, Accepted}
use Rattle.machine_typed.proofs.Heaps.{OfElements, mould_there, same_heap, grows, puts, some_same, some_inv, and_left, and_right}
use Rattle.machine_typed.proofs.Types.{type_same, type_held, plain_cell, width_cell, width_back, type_width, agree_numbers, agree_here, elements_width, ElementKinds, NumberElements, ReferenceElements, element_kinds}
use Rattle.machine_typed.proofs.Values.{Context, flat_type, HasType, HaveAll, has_more, has_flat, has_fits, has_element, kept_number, kept_cell, kept_wide, kept_reference, zero_has}
use Rattle.machine_typed.proofs.States.{over, Goes, some_goes, Now, leads_fine, now_grown, now_put}
use Rattle.machine_typed.proofs.Throws.{raise_fine}
use Rattle.machine_typed.proofs.Operators.{int_has}
use Rattle.machine_typed.proofs.Steps.{when_inv, top_inv, top_goes, from_heap, have_over, new_has, or_raise_fine}
use Rattle.machine_typed.proofs.Things.{cell_goes, every_at, every_set, every_replicate, Array, ElementsOf, array_goes}
use Rattle.machine_typed.proofs.BoxRows.{fits_told}

module _ (p : Program) (t : Typing) (a : Accepted p t) (s : State) (f : Frame) (fs : List Frame) (m : Method) (n : Now p t s f fs m) (fr : s.frames ≡ f ∷ fs) (next : ℕ) (ts us : List StackType) (l : Leads p t f.method f.place us next) (have : HaveAll p (over s.heap (f ∷ fs)) f.stack ts) where
  abbrev cx : Context
  cx = over s.heap (f ∷ fs)

  int_goes : (v : Value) (u : StackType) → HasType p cx v u → is_int u ≡ true → (k : ℤ → Option State) → ((i : ℤ) → Goes p t (k i)) → Goes p t (on_some (as_int v) k)
  int_goes v u h e k g = let i = int_has p cx v u h e in some_goes p t (as_int v) i.0 k i.1 (g i.0)

  pub new_array_fine : (element : CliType) → t.made (ArrayOf element) ≡ true → effect p t.exception m (NewArray element) ts ≡ Some us → Goes p t (new_array p s f fs next element)
  unfolding new_array
  new_array_fine element made e =
      let x = top_inv ts _ us e in
      let plain = and_right (is_int x.0) (is_plain element) (when_inv (is_int x.0 && is_plain element) _ us x.3).0 in
      let c = plain_cell element plain in
      some_goes p t (cell_of element) c.0 _ c.1
      (top_goes p t cx f.stack ts _ _ us have e (λ v rest u types hv hrest e1.
      let w = when_inv (is_int u && is_plain element) _ us e1 in
      int_goes v u hv (and_left (is_int u) (is_plain element) w.0) _ (λ i. at rest types hrest w.1 plain i (is_negative i))))
    where
      at : (rest : List Value) (types : List StackType) → HaveAll p cx rest types → Some (O (ArrayOf element) ∷ types) ≡ Some us → is_plain element ≡ true → (i : ℤ) (b : Bool) → Goes p t (if b then raise p s Overflow else goes p (record s { heap = s.heap ++ Elements element (replicate (unsigned_abs i) (zero_of element)) ∷ [] }) f fs next (Object (end_of s.heap) ∷ rest))
      at rest types h e plain i true = raise_fine p t a s f fs m n fr Overflow
      at rest types h e plain i false =
          let new : Thing = Elements element (replicate (unsigned_abs i) (zero_of element)) in
          let heap : List Thing = s.heap ++ new ∷ [] in
          leads_fine p t a (record s { heap = s.heap ++ new ∷ [] }) f fs m
          (now_grown p t a s f fs m n new (every_replicate p (over heap []) (of_type element) (unsigned_abs i) (zero_of element) (zero_has p (over heap []) element plain), plain, made)) next (Object (end_of s.heap) ∷ rest) (O (ArrayOf element) ∷ types) us l e
          (new_has p t a s.heap (f ∷ fs) new (ArrayOf element) refl, have_over p t s.heap heap (f ∷ fs) (grows s.heap new) rest types h)

  pub load_length_fine : effect p t.exception m LoadLength ts ≡ Some us → Goes p t (load_length p s f fs next)
  unfolding load_length
  load_length_fine e =
      top_goes p t cx f.stack ts _ _ us have e (λ v rest u types hv hrest e1.
      let x = some_inv (array_of u) _ us e1 in
      array_goes p t a s f fs m n fr NullReference v u hv x.0 x.1 _ (λ object b vs y z.
      leads_fine p t a s f fs m n next (length_value (length vs) ∷ rest) (I ∷ types) us l x.2 (tt, hrest)))

  -- ---- what an access sees of an array

  -- the cell by which elements are read or written
  wide_there : (access : Access) (array : ArrayKind) → array_takes p access array ≡ true → (c : Cell) × (access_cell access ≡ Some c)
  wide_there (Exact c) array e = (c, refl)
  wide_there (Typed operand) NullArray e = plain_cell operand e
  wide_there (Typed operand) (ArrayWith element) e = plain_cell operand (and_left (is_plain operand) _ e)

  -- the type that elements are taken for
  record Viewed (access : Access) (array : ArrayKind) (b : CliType) (wide : Cell) : Type 0 where
    type : CliType
    fit : elements_fit p b type ≡ true
    width : has_width type wide ≡ true
    loads : held wide type ≡ element_loaded access array

  exact_loads : (cell : Cell) (element : CliType) → held cell element ≡ element_loaded (Exact cell) (ArrayWith element)
  exact_loads (Bits i) element = refl
  exact_loads Refers element = refl

  viewed : (access : Access) (array : ArrayKind) (b : CliType) (wide : Cell) → array_takes p access array ≡ true → access_cell access ≡ Some wide → t.made (ArrayOf b) ≡ true → ElementsOf p t a s f fs m n fr array b → Viewed access array b wide
  viewed access NullArray b wide e c plain h = absurd h
  viewed (Exact cell) (ArrayWith element) b wide e c plain h =
      let same = some_same cell wide c in
      record { type = element; fit = h.0; width = subst (λ z. has_width element z ≡ true) same e; loads = subst (λ z. held z element ≡ element_loaded (Exact cell) (ArrayWith element)) same (exact_loads cell element) }
  viewed (Typed operand) (ArrayWith element) b wide e c plain h =
      let fit = a.up (ArrayOf b) (ArrayOf element) (ArrayOf operand) h.1 (and_right (is_plain operand) _ e) in
      let x = a.arrays (ArrayOf b) operand plain fit in
      let same : b ≡ x.0 = cc (x.1) in
      record { type = operand; fit = subst (λ z. elements_fit p z operand ≡ true) (sym same) x.2; width = type_width operand wide c; loads = sym (type_held operand wide c) }

  from_array : (v : Value) (b : CliType) → HasType p (over s.heap []) v (of_type b) → HasType p cx v (of_type b)
  from_array v b h = has_more p (over s.heap []) cx (from_heap p t s.heap (f ∷ fs)) v (of_type b) h

  pub load_element_fine : (access : Access) → effect p t.exception m (LoadElement access) ts ≡ Some us → Goes p t (load_element p s f fs next access)
  unfolding load_element
  load_element_fine access e =
      let x0 = top_inv ts _ us e in
      let x1 = top_inv x0.1 _ us x0.3 in
      let x2 = some_inv (array_of x1.0) _ us x1.3 in
      let wide = wide_there access x2.0 (and_right (is_int x0.0) _ (when_inv (is_int x0.0 && array_takes p access x2.0) _ us x2.2).0) in
      some_goes p t (access_cell access) wide.0 _ wide.1
      (top_goes p t cx f.stack ts _ _ us have e (λ index below uindex below_types hindex hbelow e1.
      top_goes p t cx below below_types _ _ us hbelow e1 (λ v rest u types hv hrest e2.
      let array = some_inv (array_of u) _ us e2 in
      let w = when_inv (is_int uindex && array_takes p access array.0) _ us array.2 in
      int_goes index uindex hindex (and_left (is_int uindex) _ w.0) _ (λ i.
      array_goes p t a s f fs m n fr NullReference v u hv array.0 array.1 _ (λ object b vs y z.
      let view = viewed access array.0 b wide.0 (and_right (is_int uindex) _ w.0) wide.1 y.made z in
      cell_goes p t b wide.0 (elements_width p b view.type wide.0 view.fit view.width) _ (λ c ec sc.
      or_raise_fine p t a s f fs m n IndexOutOfRange (slice_get vs (index_of i)) _ fr (λ q eq.
      let hq = has_element p a.up cx q b view.type view.fit (from_array q b (every_at p (over s.heap []) (of_type b) vs (index_of i) q y.every eq)) in
      let d = width_cell (cell_of view.type) wide.0 view.width in
      let k = kept_wide p cx d.0 wide.0 view.type q d.2 (subst (HasType p cx q) (type_held view.type d.0 d.1) hq) in
      some_goes p t (kept_in wide.0 q) k.0 _ k.1
      (leads_fine p t a s f fs m n next (k.0 ∷ rest) (element_loaded access array.0 ∷ types) us l w.1
      (subst (HasType p cx k.0) view.loads k.2, hrest)))))))))

  -- a value that may be stored by a cell of the width: a number, or a reference that is tested
  abbrev Storable : Cell → Value → Type 0
  Storable (Bits i) v = HasType p cx v (number (is_long i))
  Storable Refers v = (u : StackType) × HasType p cx v u × (is_reference u ≡ true)

  held_storable : (c : Cell) (type : CliType) (v : Value) → HasType p cx v (held c type) → Storable c v
  held_storable (Bits i) type v h = h
  held_storable Refers type v h = (O type, h, refl)

  element_value : (access : Access) (wide : Cell) → access_cell access ≡ Some wide → (v : Value) (u : StackType) → HasType p cx v u → element_takes p access u ≡ true → (w : Value) × (kept_in wide v ≡ Some w) × Storable wide w
  element_value (Exact cell) wide c v u h e = subst (λ z. (w : Value) × (kept_in z v ≡ Some w) × Storable z w) (some_same cell wide c) (by cell e)
    where
      by : (cell : Cell) → element_takes p (Exact cell) u ≡ true → (w : Value) × (kept_in cell v ≡ Some w) × Storable cell w
      by (Bits i) e = kept_number p cx i v (has_fits p a.up cx v u (number (is_long i)) h e)
      by Refers e = (v, kept_reference p cx v u h e, (u, h, e))
  element_value (Typed operand) wide c v u h e =
      let k = kept_cell p cx wide operand v (subst (HasType p cx v) (type_held operand wide c) (has_fits p a.up cx v u (of_type operand) h e)) in
      (k.0, k.1, held_storable wide operand k.0 k.2)

  number_fits : (i : Bool) (v : Value) (b : CliType) → HasType p cx v (number i) → value_fits p s.heap b v ≡ Some true
  number_fits false (Int k) b h = refl
  number_fits true (Long k) b h = refl
  number_fits false _ b h = absurd h
  number_fits true _ b h = absurd h

  -- what is stored in an array of a type, if the test says so
  stored_value : (wide c : Cell) (b : CliType) (w : Value) → is_plain b ≡ true → cell_of b ≡ Some c → same_width c wide ≡ true → Storable wide w → (ok : Bool) × (value_fits p s.heap b w ≡ Some ok) × (ok ≡ true → (x : Value) × (kept_in c w ≡ Some x) × HasType p cx x (of_type b))
  stored_value (Bits i) c b w plain ec sc h =
      let k = kept_wide p cx (Bits i) c b w (width_back c (Bits i) sc) h in
      (true, number_fits (is_long i) w b h, λ ok. (k.0, k.1, subst (HasType p cx k.0) (sym (type_held b c ec)) k.2))
  stored_value Refers Refers b w plain ec sc h =
      let x = fits_told p t a s f fs m n fr next ts us l have w h.0 h.1 h.2 b plain in
      (x.0, x.1, λ ok. (w, kept_reference p cx w h.0 h.1 h.2, subst (HasType p cx w) (sym (type_held b Refers ec)) (x.2 ok)))
  stored_value Refers (Bits i) b w plain ec sc h = absurd (cc sc)

  pub store_element_fine : (access : Access) → effect p t.exception m (StoreElement access) ts ≡ Some us → Goes p t (store_element p s f fs next access)
  unfolding store_element
  store_element_fine access e =
      let x0 = top_inv ts _ us e in
      let x1 = top_inv x0.1 _ us x0.3 in
      let x2 = top_inv x1.1 _ us x1.3 in
      let x3 = some_inv (array_of x2.0) _ us x2.3 in
      let wide = wide_there access x3.0 (and_left (array_takes p access x3.0) _ (and_right (is_int x1.0) _ (when_inv (is_int x1.0 && (array_takes p access x3.0 && element_takes p access x0.0)) _ us x3.2).0)) in
      some_goes p t (access_cell access) wide.0 _ wide.1
      (top_goes p t cx f.stack ts _ _ us have e (λ v below uv below_types hv hbelow e1.
      top_goes p t cx below below_types _ _ us hbelow e1 (λ index lower uindex lower_types hindex hlower e2.
      top_goes p t cx lower lower_types _ _ us hlower e2 (λ this rest u types hthis hrest e3.
      let array = some_inv (array_of u) _ us e3 in
      let w = when_inv (is_int uindex && (array_takes p access array.0 && element_takes p access uv)) _ us array.2 in
      let both = and_right (is_int uindex) _ w.0 in
      let k = element_value access wide.0 wide.1 v uv hv (and_right (array_takes p access array.0) _ both) in
      int_goes index uindex hindex (and_left (is_int uindex) _ w.0) _ (λ i.
      some_goes p t (kept_in wide.0 v) k.0 _ k.1
      (array_goes p t a s f fs m n fr NullReference this u hthis array.0 array.1 _ (λ object b vs y z.
      let view = viewed access array.0 b wide.0 (and_left (array_takes p access array.0) _ both) wide.1 y.made z in
      cell_goes p t b wide.0 (elements_width p b view.type wide.0 view.fit view.width) _ (λ c ec sc.
      or_raise_fine p t a s f fs m n IndexOutOfRange (slice_get vs (index_of i)) _ fr (λ old eo.
      let x = stored_value wide.0 c b k.0 (a.objects (ArrayOf b) y.made) ec sc k.2 in
      some_goes p t (value_fits p s.heap b k.0) x.0 _ x.1
      (at rest types hrest w.1 object b vs y c k.0 (index_of i) x.0 x.2))))))))))
    where
      at : (rest : List Value) (types : List StackType) → HaveAll p cx rest types → Some types ≡ Some us → (object : ℕ) (b : CliType) (vs : List Value) → Array p t a s f fs m n fr object b vs → (c : Cell) (w : Value) (i : ℕ) (ok : Bool) → (ok ≡ true → (x : Value) × (kept_in c w ≡ Some x) × HasType p cx x (of_type b)) → Goes p t (if ok then on_some (kept_in c w) (λ x. goes p (record s { heap = put_thing s.heap object (Elements b (slice_set vs i x)) }) f fs next rest) else raise p s ArrayTypeMismatch)
      at rest types h e object b vs y c w i false g = raise_fine p t a s f fs m n fr ArrayTypeMismatch
      at rest types h e object b vs y c w i true g =
          let x = g refl in
          let new : Thing = Elements b (slice_set vs i x.0) in
          let hx = has_flat p cx (over s.heap []) (same_heap s.heap) x.0 (of_type b) (flat_type b) x.2 in
          some_goes p t (kept_in c w) x.0 _ x.1
          (leads_fine p t a (record s { heap = put_thing s.heap object new }) f fs m
          (now_put p t a s f fs m n object (Elements b vs) new y.at (ap (OfElements b) (length-set vs i x.0)) (every_set p (over s.heap []) (of_type b) vs i x.0 y.every hx, y.plain, y.made)) next rest types us l e
          (have_over p t s.heap (put_thing s.heap object new) (f ∷ fs) (puts s.heap object (Elements b vs) new y.at (ap (OfElements b) (length-set vs i x.0))) rest types h))

  -- elements that are taken for a type, and are exactly of it where they are references
  exact_agrees : (b type : CliType) (c : Cell) → elements_fit p b type ≡ true → cell_of b ≡ Some c → is_exact c b type ≡ true → agrees b type ≡ true
  exact_agrees b type c fit ec ex = by (element_kinds p b type fit)
    where
      by : ElementKinds p b type → agrees b type ≡ true
      by (NumberElements i j x y w) = agree_numbers b type i j x y w
      by (ReferenceElements x y w) =
          let same = type_same b type (subst (λ z. is_exact z b type ≡ true) (some_same c Refers (sym ec ∙ x)) ex) in
          subst (λ z. agrees b z ≡ true) same (agree_here b Refers x)

  pub load_element_address_fine : (type : CliType) → effect p t.exception m (LoadElementAddress type) ts ≡ Some us → Goes p t (load_element_address p s f fs next type)
  unfolding load_element_address
  load_element_address_fine type e =
      let x0 = top_inv ts _ us e in
      let x1 = top_inv x0.1 _ us x0.3 in
      let x2 = some_inv (array_of x1.0) _ us x1.3 in
      let wide = wide_there (Typed type) x2.0 (and_right (is_int x0.0) _ (when_inv (is_int x0.0 && array_takes p (Typed type) x2.0) _ us x2.2).0) in
      some_goes p t (cell_of type) wide.0 _ wide.1
      (top_goes p t cx f.stack ts _ _ us have e (λ index below uindex below_types hindex hbelow e1.
      top_goes p t cx below below_types _ _ us hbelow e1 (λ v rest u types hv hrest e2.
      let array = some_inv (array_of u) _ us e2 in
      let w = when_inv (is_int uindex && array_takes p (Typed type) array.0) _ us array.2 in
      int_goes index uindex hindex (and_left (is_int uindex) _ w.0) _ (λ i.
      array_goes p t a s f fs m n fr NullReference v u hv array.0 array.1 _ (λ object b vs y z.
      let fit = typed_fit array.0 b (and_right (is_int uindex) _ w.0) y.made z in
      cell_goes p t b wide.0 (elements_width p b type wide.0 fit (type_width type wide.0 wide.1)) _ (λ c ec sc.
      or_raise_fine p t a s f fs m n IndexOutOfRange (slice_get vs (index_of i)) _ fr (λ old eo.
      at rest types hrest w.1 object b vs y c (index_of i) old eo ec (is_exact c b type) (λ ex. exact_agrees b type c fit ec ex))))))))
    where
      typed_fit : (array : ArrayKind) (b : CliType) → array_takes p (Typed type) array ≡ true → t.made (ArrayOf b) ≡ true → ElementsOf p t a s f fs m n fr array b → elements_fit p b type ≡ true
      typed_fit NullArray b e plain h = absurd h
      typed_fit (ArrayWith element) b e plain h =
          let x = a.arrays (ArrayOf b) type plain (a.up (ArrayOf b) (ArrayOf element) (ArrayOf type) h.1 (and_right (is_plain type) _ e)) in
          let same : b ≡ x.0 = cc (x.1) in
          subst (λ z. elements_fit p z type ≡ true) (sym same) x.2

      at : (rest : List Value) (types : List StackType) → HaveAll p cx rest types → Some (P type ∷ types) ≡ Some us → (object : ℕ) (b : CliType) (vs : List Value) → Array p t a s f fs m n fr object b vs → (c : Cell) (i : ℕ) (old : Value) → slice_get vs i ≡ Some old → cell_of b ≡ Some c → (ok : Bool) → (ok ≡ true → agrees b type ≡ true) → Goes p t (if ok then goes p s f fs next (Pointer c (InObject object i) ∷ rest) else raise p s ArrayTypeMismatch)
      at rest types h e object b vs y c i old eo ec false g = raise_fine p t a s f fs m n fr ArrayTypeMismatch
      at rest types h e object b vs y c i old eo ec true g =
          leads_fine p t a s f fs m n next (Pointer c (InObject object i) ∷ rest) (P type ∷ types) us l e (
            record {
              own = b;
              leads = record {
                mould = OfElements b (length vs);
                there = mould_there s.heap object (Elements b vs) y.at;
                at = ap (λ (q : Bool). if q then Some b else None) (lt-ltb i (length vs) (slice_get_within vs i old eo));
              };
              is = ec;
              fine = g refl;
            },
            h,
          )
