-- Rows on objects under a renaming.
use Rattle.std.proofs.Common.{◌≡◌, ℕ, zero, suc, Bool, true, false, List, [], ◌∷◌, ◌++◌, map, length, replicate, Option, Some, None, refl, sym, ap, ◌∙◌, inl}
use Rattle.std.specs.Prelude.{if◌then◌else◌, ◌&&◌, ◌||◌, is_some, unsigned_abs, slice_set}
use Rattle.std.specs.Option.{option_map}
use Rattle.std.proofs.lemmas.List.{map-set}
use Rattle.std.proofs.lemmas.Option.{slice_get-map}
use Rattle.board_types.specs.declared.board.Known.TheVariants.{IndexOutOfRange, Overflow, InvalidCast, ArrayTypeMismatch}
use Rattle.plain_types.specs.declared.elem.Elem.TheVariants as elem
use Rattle.machine.specs.Data.{Id, id_eq, put_thing, end_of, type_of, type_eq, CliType, Basic, EnumOf, ClassOf, ValueOf, ArrayOf, Plain, Cell, Bits, Refers, cell_of, InObject, Value, Int, Long, Null, Object, Handle, Pointer, Thing, Instance, Text, Elements, Boxed, StaticCell, Frame, Static, State}
use Rattle.machine.specs.Program.{Program, Access}
use Rattle.machine.specs.Numbers.{zero_of}
use Rattle.machine.specs.Throw.{on_some, goes}
use Rattle.machine.specs.Rows.{length_value, index_of}
use Rattle.machine.specs.Objects.{load_field, store_field, load_field_address, static_object, static_of, static_at, Reached, reached, static_reached, load_static, store_static, load_static_address, load_text, load_indirect, store_indirect, are_named, elements_named, is_named, fits_named, value_fits, new_array, load_length, load_element, store_element, is_exact, load_element_address, cast_class, is_instance, box_value, number_type, same_number, boxed_number, unbox, unbox_value, unbox_any}
use Rattle.machine.specs.Natives.{class_of_type}
use Rattle.machine_rename.specs.Rename.{Renaming, Answers, type_to, value_to, thing_to, frame_to, static_to, state_to, access_to}
use Rattle.machine_rename.proofs.Base.{cell_law, some_law, same_law, if_law, top_law, two_law, three_law, length-map_lem, end_law, thing_at_law, put_thing_law, goes_law}
use Rattle.machine_rename.proofs.ThrowLaws.{zero_law, raise_law}
use Rattle.machine_rename.proofs.ValueLaws.{as_int_law, kept_in_law, kept_law, access_law}
use Rattle.machine_rename.proofs.RowLaws.{type_of_law, added_law, elements_law, on_cell_law, pointer_law, type_eq_law, or_raise_law, thing_law, instance_law, read_law, written_to, write_law}

module _ (r : Renaming) (low high : Program) (a : Answers r low high) where
  -- a row and its renamed one
  abbrev pub Rows : (renamed row : Program → State → Frame → List Frame → ℕ → Option State) → Type 0
  Rows renamed row = (s : State) (f : Frame) (fs : List Frame) (next : ℕ) → renamed high (state_to r s) (frame_to r f) (map (frame_to r) fs) (r.place f.method next) ≡ option_map (state_to r) (row low s f fs next)

  -- a frame goes on over a heap that is the other's, renamed
  pub heap_law : (s : State) (f : Frame) (fs : List Frame) (next : ℕ) (stack : List Value) (heap : List Thing) (heap' : List Thing) → heap' ≡ map (thing_to r) heap → goes high (record (state_to r s) { heap = heap' }) (frame_to r f) (map (frame_to r) fs) (r.place f.method next) (map (value_to r) stack) ≡ option_map (state_to r) (goes low (record s { heap = heap }) f fs next stack)
  heap_law s f fs next stack heap heap' e =
      ap (λ h. goes high (record (state_to r s) { heap = h }) (frame_to r f) (map (frame_to r) fs) (r.place f.method next) (map (value_to r) stack)) e
      ∙ goes_law r low high a (record s { heap = heap }) f fs next stack

  -- a new object is pushed
  pub push_new_law : (s : State) (f : Frame) (fs : List Frame) (next : ℕ) (rest : List Value) (x x' : Thing) → x' ≡ thing_to r x → goes high (record (state_to r s) { heap = map (thing_to r) s.heap ++ x' ∷ [] }) (frame_to r f) (map (frame_to r) fs) (r.place f.method next) (Object (end_of (map (thing_to r) s.heap)) ∷ map (value_to r) rest) ≡ option_map (state_to r) (goes low (record s { heap = s.heap ++ x ∷ [] }) f fs next (Object (end_of s.heap) ∷ rest))
  push_new_law s f fs next rest x x' e =
      ap (λ n. goes high (record (state_to r s) { heap = map (thing_to r) s.heap ++ x' ∷ [] }) (frame_to r f) (map (frame_to r) fs) (r.place f.method next) (Object n ∷ map (value_to r) rest)) (end_law r s.heap)
      ∙ heap_law s f fs next (Object (end_of s.heap) ∷ rest) (s.heap ++ x ∷ []) (map (thing_to r) s.heap ++ x' ∷ []) (ap (λ y. map (thing_to r) s.heap ++ y ∷ []) e ∙ sym (added_law r s.heap x))

  -- ---- fields

  pub load_field_law : (owner : Id) (n : ℕ) → Rows (λ p s f fs next. load_field p s f fs next (r.type owner) n) (λ p s f fs next. load_field p s f fs next owner n)
  unfolding load_field
  load_field_law owner n s f fs next =
      top_law (state_to r) (value_to r) f.stack _ _ (λ this rest.
      thing_law r low high a s this _ _ (λ object thing.
      instance_law r low high a owner thing _ _ (λ class vs.
      some_law (state_to r) (value_to r) _ _ _ _ (slice_get-map (value_to r) vs n) (λ v.
      goes_law r low high a s f fs next (v ∷ rest)))))

  put_instance_law : (heap : List Thing) (object : ℕ) (c : Id) (vs : List Value) (n : ℕ) (w : Value) → put_thing (map (thing_to r) heap) object (Instance (r.type c) (slice_set (map (value_to r) vs) n (value_to r w))) ≡ map (thing_to r) (put_thing heap object (Instance c (slice_set vs n w)))
  put_instance_law heap object c vs n w =
      ap (λ xs. put_thing (map (thing_to r) heap) object (Instance (r.type c) xs)) (sym (map-set (value_to r) vs n w))
      ∙ sym (put_thing_law r heap object (Instance c (slice_set vs n w)))

  put_elements_law : (heap : List Thing) (object : ℕ) (t : CliType) (vs : List Value) (n : ℕ) (w : Value) → put_thing (map (thing_to r) heap) object (Elements (type_to r t) (slice_set (map (value_to r) vs) n (value_to r w))) ≡ map (thing_to r) (put_thing heap object (Elements t (slice_set vs n w)))
  put_elements_law heap object t vs n w =
      ap (λ xs. put_thing (map (thing_to r) heap) object (Elements (type_to r t) xs)) (sym (map-set (value_to r) vs n w))
      ∙ sym (put_thing_law r heap object (Elements t (slice_set vs n w)))

  pub store_field_law : (owner : Id) (n : ℕ) → Rows (λ p s f fs next. store_field p s f fs next (r.type owner) n) (λ p s f fs next. store_field p s f fs next owner n)
  unfolding store_field
  store_field_law owner n s f fs next =
      two_law (state_to r) (value_to r) f.stack _ _ (λ this v rest.
      some_law (state_to r) (map (type_to r)) _ _ _ _ (a.fields owner) (λ types.
      some_law (state_to r) (type_to r) _ _ _ _ (slice_get-map (type_to r) types n) (λ type.
      some_law (state_to r) (value_to r) _ _ _ _ (kept_law r (Plain type) v) (λ w.
      thing_law r low high a s this _ _ (λ object thing.
      instance_law r low high a owner thing _ _ (λ class vs.
      heap_law s f fs next rest (put_thing s.heap object (Instance class (slice_set vs n w))) _ (put_instance_law s.heap object class vs n w)))))))

  pub load_field_address_law : (owner : Id) (n : ℕ) → Rows (λ p s f fs next. load_field_address p s f fs next (r.type owner) n) (λ p s f fs next. load_field_address p s f fs next owner n)
  unfolding load_field_address
  load_field_address_law owner n s f fs next =
      top_law (state_to r) (value_to r) f.stack _ _ (λ this rest.
      some_law (state_to r) (map (type_to r)) _ _ _ _ (a.fields owner) (λ types.
      some_law (state_to r) (type_to r) _ _ _ _ (slice_get-map (type_to r) types n) (λ type.
      same_law (state_to r) _ _ _ _ (cell_law r type) (λ cell.
      thing_law r low high a s this _ _ (λ object thing.
      instance_law r low high a owner thing _ _ (λ class vs.
      goes_law r low high a s f fs next (Pointer cell (InObject object n) ∷ rest)))))))

  -- ---- static fields

  static_object_law : (xs : List Static) (id : Id) → static_object (map (static_to r) xs) (r.field id) ≡ static_object xs id
  static_object_law [] id = refl
  static_object_law (x ∷ xs) id =
      ap (λ (b : Bool). if b then Some x.object else static_object (map (static_to r) xs) (r.field id)) (a.static_fields x.field id)
      ∙ ap (λ o. if id_eq x.field id then Some x.object else o) (static_object_law xs id)

  static_of_law : (x : Thing) → static_of (thing_to r x) ≡ option_map (value_to r) (static_of x)
  static_of_law (StaticCell type value) = refl
  static_of_law (Instance class vs) = refl
  static_of_law (Text units) = refl
  static_of_law (Elements element values) = refl
  static_of_law (Boxed type value) = refl

  static_at_law : (heap : List Thing) (n : ℕ) → static_at (map (thing_to r) heap) n ≡ option_map (value_to r) (static_at heap n)
  static_at_law heap n = some_law (value_to r) (thing_to r) _ _ _ _ (thing_at_law r heap n) static_of_law

  abbrev reached_to : Reached → Reached
  reached_to x = record { state = state_to r x.state; object = x.object; type = type_to r x.type }

  reached_law : (s : State) (id : Id) (type : CliType) (o : Option ℕ) → reached (state_to r s) (r.field id) (type_to r type) o ≡ reached_to (reached s id type o)
  reached_law s id type (Some n) = refl
  reached_law s id type None =
      let at : List Thing → ℕ → Reached = λ h n. record { state = record (state_to r s) { heap = h; statics = record { field = r.field id; object = n } ∷ map (static_to r) s.statics }; object = n; type = type_to r type } in
      ap (at (map (thing_to r) s.heap ++ StaticCell (type_to r type) (zero_of (type_to r type)) ∷ [])) (end_law r s.heap)
      ∙ ap (λ v. at (map (thing_to r) s.heap ++ StaticCell (type_to r type) v ∷ []) (end_of s.heap)) (sym (zero_law r type))
      ∙ ap (λ h. at h (end_of s.heap)) (sym (added_law r s.heap (StaticCell type (zero_of type))))

  static_reached_law : (s : State) (id : Id) → static_reached high (state_to r s) (r.field id) ≡ option_map reached_to (static_reached low s id)
  static_reached_law s id =
      ap (λ o. option_map (λ type. reached (state_to r s) (r.field id) type (static_object (map (static_to r) s.statics) (r.field id))) o) (a.static id)
      ∙ ap (λ n. option_map (λ type. reached (state_to r s) (r.field id) type n) (option_map (type_to r) (low.static id))) (static_object_law s.statics id)
      ∙ go (low.static id)
    where
      go : (o : Option CliType) → option_map (λ type. reached (state_to r s) (r.field id) type (static_object s.statics id)) (option_map (type_to r) o) ≡ option_map reached_to (option_map (λ type. reached s id type (static_object s.statics id)) o)
      go None = refl
      go (Some type) = ap Some (reached_law s id type (static_object s.statics id))

  pub load_static_law : (id : Id) → Rows (λ p s f fs next. load_static p s f fs next (r.field id)) (λ p s f fs next. load_static p s f fs next id)
  unfolding load_static
  load_static_law id s f fs next =
      some_law (state_to r) reached_to _ _ _ _ (static_reached_law s id) (λ x.
      some_law (state_to r) (value_to r) _ _ _ _ (static_at_law x.state.heap x.object) (λ v. goes_law r low high a x.state f fs next (v ∷ f.stack)))

  pub store_static_law : (id : Id) → Rows (λ p s f fs next. store_static p s f fs next (r.field id)) (λ p s f fs next. store_static p s f fs next id)
  unfolding store_static
  store_static_law id s f fs next =
      some_law (state_to r) reached_to _ _ _ _ (static_reached_law s id) (λ x.
      some_law (state_to r) (value_to r) _ _ _ _ (static_at_law x.state.heap x.object) (λ old.
      top_law (state_to r) (value_to r) f.stack _ _ (λ v rest.
      some_law (state_to r) (value_to r) _ _ _ _ (kept_law r (Plain x.type) v) (λ w.
      heap_law x.state f fs next rest (put_thing x.state.heap x.object (StaticCell x.type w)) _ (sym (put_thing_law r x.state.heap x.object (StaticCell x.type w)))))))

  pub load_static_address_law : (id : Id) → Rows (λ p s f fs next. load_static_address p s f fs next (r.field id)) (λ p s f fs next. load_static_address p s f fs next id)
  unfolding load_static_address
  load_static_address_law id s f fs next =
      some_law (state_to r) reached_to _ _ _ _ (static_reached_law s id) (λ x.
      same_law (state_to r) _ _ _ _ (cell_law r x.type) (λ cell. goes_law r low high a x.state f fs next (Pointer cell (InObject x.object 0) ∷ f.stack)))

  -- ---- literals

  pub load_text_law : (units : List ℕ) (o : Option ℕ) → Rows (λ p s f fs next. load_text p s f fs next units o) (λ p s f fs next. load_text p s f fs next units o)
  unfolding load_text
  load_text_law units (Some n) s f fs next = goes_law r low high a s f fs next (Object n ∷ f.stack)
  load_text_law units None s f fs next =
      ap (λ n. goes high (record (state_to r s) { heap = map (thing_to r) s.heap ++ Text units ∷ []; literals = record { text = units; object = n } ∷ s.literals }) (frame_to r f) (map (frame_to r) fs) (r.place f.method next) (Object n ∷ map (value_to r) f.stack)) (end_law r s.heap)
      ∙ ap (λ h. goes high (record (state_to r s) { heap = h; literals = record { text = units; object = end_of s.heap } ∷ s.literals }) (frame_to r f) (map (frame_to r) fs) (r.place f.method next) (Object (end_of s.heap) ∷ map (value_to r) f.stack)) (sym (added_law r s.heap (Text units)))
      ∙ goes_law r low high a (record s { heap = s.heap ++ Text units ∷ []; literals = record { text = units; object = end_of s.heap } ∷ s.literals }) f fs next (Object (end_of s.heap) ∷ f.stack)

  -- ---- pointers

  pub load_indirect_law : (x : Access) → Rows (λ p s f fs next. load_indirect p s f fs next (access_to r x)) (λ p s f fs next. load_indirect p s f fs next x)
  unfolding load_indirect
  load_indirect_law x s f fs next =
      same_law (state_to r) _ _ _ _ (access_law r x) (λ wide.
      top_law (state_to r) (value_to r) f.stack _ _ (λ v rest.
      pointer_law r v wide _ _ (λ c spot.
      some_law (state_to r) (value_to r) _ _ _ _ (read_law r low high a s f fs spot) (λ w.
      some_law (state_to r) (value_to r) _ _ _ _ (kept_in_law r wide w) (λ y. goes_law r low high a s f fs next (y ∷ rest))))))

  pub store_indirect_law : (x : Access) → Rows (λ p s f fs next. store_indirect p s f fs next (access_to r x)) (λ p s f fs next. store_indirect p s f fs next x)
  unfolding store_indirect
  store_indirect_law x s f fs next =
      same_law (state_to r) _ _ _ _ (access_law r x) (λ wide.
      two_law (state_to r) (value_to r) f.stack _ _ (λ pointer v rest.
      pointer_law r pointer wide _ _ (λ c spot.
      some_law (state_to r) (value_to r) _ _ _ _ (kept_in_law r c v) (λ w.
      some_law (state_to r) (written_to r low high a) _ _ _ _ (write_law r low high a s f fs spot w) (λ t.
      goes_law r low high a t.state (record f { arguments = t.arguments; locals = t.locals }) t.callers next rest)))))

  -- ---- arrays

  pub class_of_type_law : (t : CliType) → class_of_type high (type_to r t) ≡ option_map r.type (class_of_type low t)
  class_of_type_law (Basic e) = a.basic e
  class_of_type_law (EnumOf e class) = refl
  class_of_type_law (ClassOf class) = refl
  class_of_type_law (ValueOf class) = refl
  class_of_type_law (ArrayOf element) = a.array

  some_there : (o' o : Option Id) → o' ≡ option_map r.type o → is_some o' ≡ is_some o
  some_there o' o e = ap is_some e ∙ go o
    where
      go : (o : Option Id) → is_some (option_map r.type o) ≡ is_some o
      go None = refl
      go (Some x) = refl

  are_named_law : (own type : CliType) → are_named high (type_to r own) (type_to r type) ≡ are_named low own type
  are_named_law own type =
      ap (λ b. b || (type_eq (type_to r type) (Basic elem.Object) || (is_some (class_of_type high (type_to r own)) && is_some (class_of_type high (type_to r type))))) (type_eq_law r low high a own type)
      ∙ ap (λ b. type_eq own type || (b || (is_some (class_of_type high (type_to r own)) && is_some (class_of_type high (type_to r type))))) (type_eq_law r low high a type (Basic elem.Object))
      ∙ ap (λ b. type_eq own type || (type_eq type (Basic elem.Object) || (b && is_some (class_of_type high (type_to r type))))) (some_there _ _ (class_of_type_law own))
      ∙ ap (λ b. type_eq own type || (type_eq type (Basic elem.Object) || (is_some (class_of_type low own) && b))) (some_there _ _ (class_of_type_law type))

  is_named_law : (own type : CliType) → is_named high (type_to r own) (type_to r type) ≡ is_named low own type
  is_named_law (ArrayOf c) (ArrayOf d) =
      ap (λ k. elements_named k (cell_of (type_to r d)) (is_named high (type_to r c) (type_to r d))) (cell_law r c)
      ∙ ap (λ k. elements_named (cell_of c) k (is_named high (type_to r c) (type_to r d))) (cell_law r d)
      ∙ ap (elements_named (cell_of c) (cell_of d)) (is_named_law c d)
  is_named_law (ArrayOf c) (ClassOf d) = some_there _ _ a.array
  is_named_law (ArrayOf c) (Basic e) = refl
  is_named_law (ArrayOf c) (EnumOf e d) = refl
  is_named_law (ArrayOf c) (ValueOf d) = refl
  is_named_law (Basic e) (ArrayOf d) = refl
  is_named_law (EnumOf e c) (ArrayOf d) = refl
  is_named_law (ClassOf c) (ArrayOf d) = refl
  is_named_law (ValueOf c) (ArrayOf d) = refl
  is_named_law (Basic e) (Basic g) = are_named_law (Basic e) (Basic g)
  is_named_law (Basic e) (EnumOf g d) = are_named_law (Basic e) (EnumOf g d)
  is_named_law (Basic e) (ClassOf d) = are_named_law (Basic e) (ClassOf d)
  is_named_law (Basic e) (ValueOf d) = are_named_law (Basic e) (ValueOf d)
  is_named_law (EnumOf e c) (Basic g) = are_named_law (EnumOf e c) (Basic g)
  is_named_law (EnumOf e c) (EnumOf g d) = are_named_law (EnumOf e c) (EnumOf g d)
  is_named_law (EnumOf e c) (ClassOf d) = are_named_law (EnumOf e c) (ClassOf d)
  is_named_law (EnumOf e c) (ValueOf d) = are_named_law (EnumOf e c) (ValueOf d)
  is_named_law (ClassOf c) (Basic g) = are_named_law (ClassOf c) (Basic g)
  is_named_law (ClassOf c) (EnumOf g d) = are_named_law (ClassOf c) (EnumOf g d)
  is_named_law (ClassOf c) (ClassOf d) = are_named_law (ClassOf c) (ClassOf d)
  is_named_law (ClassOf c) (ValueOf d) = are_named_law (ClassOf c) (ValueOf d)
  is_named_law (ValueOf c) (Basic g) = are_named_law (ValueOf c) (Basic g)
  is_named_law (ValueOf c) (EnumOf g d) = are_named_law (ValueOf c) (EnumOf g d)
  is_named_law (ValueOf c) (ClassOf d) = are_named_law (ValueOf c) (ClassOf d)
  is_named_law (ValueOf c) (ValueOf d) = are_named_law (ValueOf c) (ValueOf d)

  fits_named_law : (own type : CliType) → fits_named high (type_to r own) (type_to r type) ≡ fits_named low own type
  fits_named_law own type =
      ap (λ (b : Bool). if b then Some (high.fits (type_to r own) (type_to r type)) else None) (is_named_law own type)
      ∙ ap (λ b. if is_named low own type then Some b else None) (a.fits own type)

  fits_thing_law : (type : CliType) (o : Option CliType) → on_some (option_map (type_to r) o) (λ own. fits_named high own (type_to r type)) ≡ on_some o (λ own. fits_named low own type)
  fits_thing_law type None = refl
  fits_thing_law type (Some own) = fits_named_law own type

  pub value_fits_law : (heap : List Thing) (type : CliType) (v : Value) → value_fits high (map (thing_to r) heap) (type_to r type) (value_to r v) ≡ value_fits low heap type v
  value_fits_law heap type (Object n) =
      ap (λ o. on_some o (λ x. on_some (type_of x) (λ own. fits_named high own (type_to r type)))) (thing_at_law r heap n) ∙ go _
    where
      go : (o : Option Thing) → on_some (option_map (thing_to r) o) (λ x. on_some (type_of x) (λ own. fits_named high own (type_to r type))) ≡ on_some o (λ x. on_some (type_of x) (λ own. fits_named low own type))
      go None = refl
      go (Some x) = ap (λ o. on_some o (λ own. fits_named high own (type_to r type))) (type_of_law r x) ∙ fits_thing_law type (type_of x)
  value_fits_law heap type Null = refl
  value_fits_law heap type (Int n) = refl
  value_fits_law heap type (Long n) = refl
  value_fits_law heap type (Handle h) = refl
  value_fits_law heap type (Pointer c x) = refl

  zeros_law : (t : CliType) (n : ℕ) → replicate n (zero_of (type_to r t)) ≡ map (value_to r) (replicate n (zero_of t))
  zeros_law t zero = refl
  zeros_law t (suc n) = ap (λ v. v ∷ replicate n (zero_of (type_to r t))) (sym (zero_law r t)) ∙ ap (λ vs. value_to r (zero_of t) ∷ vs) (zeros_law t n)

  pub new_array_law : (t : CliType) → Rows (λ p s f fs next. new_array p s f fs next (type_to r t)) (λ p s f fs next. new_array p s f fs next t)
  unfolding new_array
  new_array_law t s f fs next =
      same_law (state_to r) _ _ _ _ (cell_law r t) (λ cell.
      top_law (state_to r) (value_to r) f.stack _ _ (λ v rest.
      same_law (state_to r) _ _ _ _ (as_int_law r v) (λ n.
      if_law (state_to r) _ _ _ _ _ _ refl (raise_law r low high a s Overflow (inl refl))
      (push_new_law s f fs next rest (Elements t (replicate (unsigned_abs n) (zero_of t))) _ (ap (Elements (type_to r t)) (zeros_law t (unsigned_abs n)))))))

  pub length_law : (s : State) (f : Frame) (fs : List Frame) (next : ℕ) (rest vs : List Value) → goes high (state_to r s) (frame_to r f) (map (frame_to r) fs) (r.place f.method next) (length_value (length (map (value_to r) vs)) ∷ map (value_to r) rest) ≡ option_map (state_to r) (goes low s f fs next (length_value (length vs) ∷ rest))
  length_law s f fs next rest vs =
      ap (λ n. goes high (state_to r s) (frame_to r f) (map (frame_to r) fs) (r.place f.method next) (length_value n ∷ map (value_to r) rest)) (length-map_lem (value_to r) vs)
      ∙ goes_law r low high a s f fs next (length_value (length vs) ∷ rest)

  pub load_length_law : Rows load_length load_length
  unfolding load_length
  load_length_law s f fs next =
      top_law (state_to r) (value_to r) f.stack _ _ (λ this rest.
      thing_law r low high a s this _ _ (λ object thing.
      elements_law r thing _ _ (λ element vs. length_law s f fs next rest vs)))

  pub load_element_law : (x : Access) → Rows (λ p s f fs next. load_element p s f fs next (access_to r x)) (λ p s f fs next. load_element p s f fs next x)
  unfolding load_element
  load_element_law x s f fs next =
      same_law (state_to r) _ _ _ _ (access_law r x) (λ wide.
      two_law (state_to r) (value_to r) f.stack _ _ (λ this index rest.
      same_law (state_to r) _ _ _ _ (as_int_law r index) (λ i.
      thing_law r low high a s this _ _ (λ object thing.
      elements_law r thing _ _ (λ element vs.
      on_cell_law r element wide _ _ (λ cell.
      or_raise_law r low high a (value_to r) s IndexOutOfRange _ _ _ _ (inl refl) (slice_get-map (value_to r) vs (index_of i)) (λ v.
      some_law (state_to r) (value_to r) _ _ _ _ (kept_in_law r wide v) (λ w. goes_law r low high a s f fs next (w ∷ rest)))))))))

  pub store_element_law : (x : Access) → Rows (λ p s f fs next. store_element p s f fs next (access_to r x)) (λ p s f fs next. store_element p s f fs next x)
  unfolding store_element
  store_element_law x s f fs next =
      same_law (state_to r) _ _ _ _ (access_law r x) (λ wide.
      three_law (state_to r) (value_to r) f.stack _ _ (λ this index v rest.
      same_law (state_to r) _ _ _ _ (as_int_law r index) (λ i.
      some_law (state_to r) (value_to r) _ _ _ _ (kept_in_law r wide v) (λ w.
      thing_law r low high a s this _ _ (λ object thing.
      elements_law r thing _ _ (λ element vs.
      on_cell_law r element wide _ _ (λ cell.
      or_raise_law r low high a (value_to r) s IndexOutOfRange _ _ _ _ (inl refl) (slice_get-map (value_to r) vs (index_of i)) (λ old.
      same_law (state_to r) _ _ _ _ (value_fits_law s.heap element w) (λ ok.
      if_law (state_to r) _ _ _ _ _ _ refl
      (some_law (state_to r) (value_to r) _ _ _ _ (kept_in_law r cell w) (λ y.
      heap_law s f fs next rest (put_thing s.heap object (Elements element (slice_set vs (index_of i) y))) _ (put_elements_law s.heap object element vs (index_of i) y)))
      (raise_law r low high a s ArrayTypeMismatch (inl refl)))))))))))

  exact_law : (c : Cell) (t u : CliType) → is_exact c (type_to r t) (type_to r u) ≡ is_exact c t u
  exact_law (Bits integer) t u = refl
  exact_law Refers t u = type_eq_law r low high a t u

  pub load_element_address_law : (t : CliType) → Rows (λ p s f fs next. load_element_address p s f fs next (type_to r t)) (λ p s f fs next. load_element_address p s f fs next t)
  unfolding load_element_address
  load_element_address_law t s f fs next =
      same_law (state_to r) _ _ _ _ (cell_law r t) (λ wide.
      two_law (state_to r) (value_to r) f.stack _ _ (λ this index rest.
      same_law (state_to r) _ _ _ _ (as_int_law r index) (λ i.
      thing_law r low high a s this _ _ (λ object thing.
      elements_law r thing _ _ (λ element vs.
      on_cell_law r element wide _ _ (λ cell.
      or_raise_law r low high a (value_to r) s IndexOutOfRange _ _ _ _ (inl refl) (slice_get-map (value_to r) vs (index_of i)) (λ old.
      if_law (state_to r) _ _ _ _ _ _ (exact_law cell element t)
      (goes_law r low high a s f fs next (Pointer cell (InObject object (index_of i)) ∷ rest))
      (raise_law r low high a s ArrayTypeMismatch (inl refl)))))))))

  -- ---- casts and boxes

  pub cast_class_law : (t : CliType) → Rows (λ p s f fs next. cast_class p s f fs next (type_to r t)) (λ p s f fs next. cast_class p s f fs next t)
  unfolding cast_class
  cast_class_law t s f fs next =
      top_law (state_to r) (value_to r) f.stack _ _ (λ v rest.
      some_law (state_to r) (value_to r) _ _ _ _ (kept_in_law r Refers v) (λ w.
      same_law (state_to r) _ _ _ _ (value_fits_law s.heap t w) (λ ok.
      if_law (state_to r) _ _ _ _ _ _ refl (goes_law r low high a s f fs next (w ∷ rest)) (raise_law r low high a s InvalidCast (inl refl)))))

  or_null_law : (b : Bool) (v : Value) → (if b then value_to r v else Null) ≡ value_to r (if b then v else Null)
  or_null_law true v = refl
  or_null_law false v = refl

  pub is_instance_law : (t : CliType) → Rows (λ p s f fs next. is_instance p s f fs next (type_to r t)) (λ p s f fs next. is_instance p s f fs next t)
  unfolding is_instance
  is_instance_law t s f fs next =
      top_law (state_to r) (value_to r) f.stack _ _ (λ v rest.
      some_law (state_to r) (value_to r) _ _ _ _ (kept_in_law r Refers v) (λ w.
      same_law (state_to r) _ _ _ _ (value_fits_law s.heap t w) (λ ok.
      ap (λ x. goes high (state_to r s) (frame_to r f) (map (frame_to r) fs) (r.place f.method next) (x ∷ map (value_to r) rest)) (or_null_law ok w)
      ∙ goes_law r low high a s f fs next ((if ok then w else Null) ∷ rest))))

  pub box_value_law : (t : CliType) → Rows (λ p s f fs next. box_value p s f fs next (type_to r t)) (λ p s f fs next. box_value p s f fs next t)
  unfolding box_value
  box_value_law t s f fs next =
      same_law (state_to r) _ _ _ _ (cell_law r t) (λ cell.
      top_law (state_to r) (value_to r) f.stack _ _ (λ v rest.
      some_law (state_to r) (value_to r) _ _ _ _ (kept_in_law r cell v) (λ w. push_new_law s f fs next rest (Boxed t w) _ refl)))

  number_type_law : (t : CliType) → number_type (type_to r t) ≡ type_to r (number_type t)
  number_type_law (EnumOf e class) = refl
  number_type_law (Basic e) = refl
  number_type_law (ClassOf class) = refl
  number_type_law (ValueOf class) = refl
  number_type_law (ArrayOf element) = refl

  same_number_law : (t u : CliType) → same_number (type_to r t) (type_to r u) ≡ same_number t u
  same_number_law t u =
      ap (λ x. type_eq x (number_type (type_to r u))) (number_type_law t) ∙ ap (type_eq (type_to r (number_type t))) (number_type_law u)
      ∙ type_eq_law r low high a (number_type t) (number_type u)

  boxed_number_law : (t : CliType) (x : Thing) → boxed_number (type_to r t) (thing_to r x) ≡ option_map (value_to r) (boxed_number t x)
  boxed_number_law t (Boxed own v) = if_law (value_to r) _ _ _ _ _ _ (same_number_law own t) refl refl
  boxed_number_law t (Instance class vs) = refl
  boxed_number_law t (Text units) = refl
  boxed_number_law t (Elements element values) = refl
  boxed_number_law t (StaticCell own v) = refl

  pub unbox_law : (t : CliType) → Rows (λ p s f fs next. unbox p s f fs next (type_to r t)) (λ p s f fs next. unbox p s f fs next t)
  unfolding unbox
  unbox_law t s f fs next =
      same_law (state_to r) _ _ _ _ (cell_law r t) (λ cell.
      top_law (state_to r) (value_to r) f.stack _ _ (λ v rest.
      thing_law r low high a s v _ _ (λ object thing.
      or_raise_law r low high a (value_to r) s InvalidCast _ _ _ _ (inl refl) (boxed_number_law t thing) (λ old.
      goes_law r low high a s f fs next (Pointer cell (InObject object 0) ∷ rest)))))

  unbox_value_law : (t : CliType) → Rows (λ p s f fs next. unbox_value p s f fs next (type_to r t)) (λ p s f fs next. unbox_value p s f fs next t)
  unfolding unbox_value
  unbox_value_law t s f fs next =
      top_law (state_to r) (value_to r) f.stack _ _ (λ v rest.
      thing_law r low high a s v _ _ (λ object thing.
      or_raise_law r low high a (value_to r) s InvalidCast _ _ _ _ (inl refl) (boxed_number_law t thing) (λ w.
      goes_law r low high a s f fs next (w ∷ rest))))

  pub unbox_any_law : (t : CliType) (c : Cell) → Rows (λ p s f fs next. unbox_any p s f fs next (type_to r t) c) (λ p s f fs next. unbox_any p s f fs next t c)
  unbox_any_law t Refers s f fs next = cast_class_law t s f fs next
  unbox_any_law t (Bits integer) s f fs next = unbox_value_law t s f fs next
