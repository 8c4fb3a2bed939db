-- The cells of objects never fall: each row.
use Rattle.std.proofs.Common.{◌≡◌, ℕ, zero, suc, ◌+◌, ◌-◌, ◌*◌, ◌≤◌, Bool, true, false, ◌||◌, List, [], ◌∷◌, ◌++◌, map, take, drop, length, replicate, Option, Some, None, refl, sym, ap, ◌∙◌, subst, arith}
use Rattle.std.specs.Prelude.{if◌then◌else◌, ℤ, pos, unsigned_abs, nat_lt, slice_get, slice_set, unwrap_or, decimal}
use Rattle.std.specs.Option.{option_map}
use Rattle.std.specs.Int.{w32, w64, cast_unsigned}
use Rattle.std.specs.List.{list_any}
use Rattle.std.proofs.lemmas.List.{length-set, length-append, length-take-le, length-drop}
use Rattle.std.proofs.lemmas.Bool.{ltb-false}
use Rattle.cil_opcodes.specs.declared.shape.IntegerType.{IntegerType}
use Rattle.cil_opcodes.specs.declared.shape.IntegerType.TheVariants.{U2}
use Rattle.board_types.specs.declared.board.Known.TheVariants.{IndexOutOfRange, Overflow, InvalidCast, ArrayTypeMismatch, Argument, ArgumentNull, ArgumentOutOfRange}
use Rattle.machine.specs.Data.{Id, id_eq, thing_size, end_of, thing_at, put_thing, type_of, type_eq, CliType, Basic, EnumOf, ClassOf, ValueOf, ArrayOf, Plain, Cell, Bits, Refers, cell_of, bytes_of, InArgument, InLocal, InObject, Value, Int, Null, Object, Pointer, Thing, Instance, Text, Elements, Boxed, StaticCell, Frame, State, Long, PlaceType, Handle}
use Rattle.machine.specs.Program.{Program, Access, access_cell, Instruction, Nop, Push, Dup, Pop, LoadArgument, StoreArgument, LoadArgumentAddress, LoadLocal, StoreLocal, LoadLocalAddress, Binary, Shift, Unary, Compare, Convert, ConvertChecked, Branch, BranchIf, BranchCompare, Switch, Call, CallVirtual, NewObject, Return, LoadField, StoreField, LoadFieldAddress, LoadStatic, StoreStatic, LoadStaticAddress, LoadText, LoadIndirect, StoreIndirect, NewArray, LoadLength, LoadElement, StoreElement, LoadElementAddress, CastClass, IsInstance, Box, Unbox, UnboxAny, Throw, Rethrow, Leave, EndFinally, Initialiser, Line, Method, Body, Code, Native, Missing, NativeName, ObjectToString, EnumEquals, EnumToString, ArrayLength, ArrayCopy, StringLength, StringChars, StringConcat, StringSubstring, StringEquals, StringCompare, StringFromChars, StringFromChar, NumberSigned, NumberUnsigned, InitializeArray, DebugPrint}
use Rattle.machine.specs.Numbers.{agree, of_bool, is_negative, binary, shift, unary, compare, branch_compare, convert, convert_checked, truth, kept, kept_in, zero_of, as_int, as_long, as_handle}
use Rattle.machine.specs.Texts.{printed, decimal_text}
use Rattle.machine.specs.Throw.{on_some, goes, left}
use Rattle.machine.specs.Rows.{take_arguments, keep_all, on_frames, length_value, index_of, frames_cells, read, write}
use Rattle.machine.specs.Objects.{load_field, store_field, load_field_address, static_object, static_of, static_at, Reached, reached, static_reached, load_static, store_static, load_static_address, load_text, literal_object, load_indirect, store_indirect, value_fits, new_array, load_length, load_element, store_element, is_exact, load_element_address, cast_class, is_instance, box_value, boxed_number, unbox, unbox_value, unbox_any}
use Rattle.machine.specs.Natives.{on_array_or_null, class_of_type, name_of, units_of, text_at, or_empty, texts_equal, texts_compared, unit_of, new_text, is_range, piece, spliced, on_enum, equals_box, number_text, copy_elements, numbers_of, initialise, on_string, object_to_string, enum_equals, enum_to_string, array_length, array_copy, string_length, string_chars, string_concat, string_substring, string_equals, string_compare, string_from_chars, string_from_char, number_signed, number_unsigned, initialize_array, debug_print, native}
use Rattle.machine.specs.Calls.{if_none, if_room, start_frame, starts, enter, invoke, call, receiver, call_virtual, construct, new_object, result_of, with_result, number_of, hand_back, return_value, start_code, start_class}
use Rattle.machine.specs.Trace.{cells}
use Rattle.machine.specs.Step.{branch_if, place_cell, act, after_start, step}
use Rattle.machine_rename.proofs.GrowsBase.{Grows, elements_size, none_grows, state_grows, some_grows, if_grows, top_grows, two_grows, three_grows, elements_grows, on_cell_grows, pointer_grows, goes_grows, more, kept_up, raise_grows, leave_grows, take_up_grows, throw_value_grows, throw_again_grows, answered_grows, or_raise_grows, thing_or_grows, thing_grows, instance_grows, write_grows}

module _ (n : ℕ) (p : Program) where
  -- ---- objects

  push_new_grows : (s : State) (f : Frame) (fs : List Frame) (next : ℕ) (rest : List Value) (x : Thing) → n ≤ end_of s.heap → Grows n (goes p (record s { heap = s.heap ++ x ∷ [] }) f fs next (Object (end_of s.heap) ∷ rest))
  push_new_grows s f fs next rest x h = goes_grows n p (record s { heap = s.heap ++ x ∷ [] }) f fs next (Object (end_of s.heap) ∷ rest) (more n p s.heap x h)

  -- a value of an instance, or of an array, is written
  put_instance_grows : (s : State) (f : Frame) (fs : List Frame) (next : ℕ) (rest : List Value) (object : ℕ) (x : Thing) (class : Id) (vs : List Value) (i : ℕ) (w : Value) → thing_at s.heap object ≡ Some x → x ≡ Instance class vs → n ≤ end_of s.heap → Grows n (goes p (record s { heap = put_thing s.heap object (Instance class (slice_set vs i w)) }) f fs next rest)
  put_instance_grows s f fs next rest object x class vs i w e q h =
      goes_grows n p (record s { heap = put_thing s.heap object (Instance class (slice_set vs i w)) }) f fs next rest
      (kept_up n p s.heap object x (Instance class (slice_set vs i w)) e (ap (λ k. 1 + k) (length-set vs i w) ∙ ap thing_size (sym q)) h)

  put_elements_grows : (s : State) (f : Frame) (fs : List Frame) (next : ℕ) (rest : List Value) (object : ℕ) (x : Thing) (t : CliType) (vs ws : List Value) → thing_at s.heap object ≡ Some x → x ≡ Elements t vs → length ws ≡ length vs → n ≤ end_of s.heap → Grows n (goes p (record s { heap = put_thing s.heap object (Elements t ws) }) f fs next rest)
  put_elements_grows s f fs next rest object x t vs ws e q l h =
      goes_grows n p (record s { heap = put_thing s.heap object (Elements t ws) }) f fs next rest
      (kept_up n p s.heap object x (Elements t ws) e (elements_size t vs ws l ∙ ap thing_size (sym q)) h)

  load_field_grows : (s : State) (f : Frame) (fs : List Frame) (next : ℕ) (owner : Id) (i : ℕ) → n ≤ end_of s.heap → Grows n (load_field p s f fs next owner i)
  unfolding load_field
  load_field_grows s f fs next owner i h =
      top_grows n f.stack _ (λ this rest.
      thing_grows n p s this _ h (λ object x e.
      instance_grows n p owner x _ (λ class vs q.
      some_grows n (slice_get vs i) _ (λ v e. goes_grows n p s f fs next (v ∷ rest) h))))

  store_field_grows : (s : State) (f : Frame) (fs : List Frame) (next : ℕ) (owner : Id) (i : ℕ) → n ≤ end_of s.heap → Grows n (store_field p s f fs next owner i)
  unfolding store_field
  store_field_grows s f fs next owner i h =
      two_grows n f.stack _ (λ this v rest.
      some_grows n (p.fields owner) _ (λ types e.
      some_grows n (slice_get types i) _ (λ type e.
      some_grows n (kept (Plain type) v) _ (λ w e.
      thing_grows n p s this _ h (λ object x e.
      instance_grows n p owner x _ (λ class vs q. put_instance_grows s f fs next rest object x class vs i w e q h))))))

  load_field_address_grows : (s : State) (f : Frame) (fs : List Frame) (next : ℕ) (owner : Id) (i : ℕ) → n ≤ end_of s.heap → Grows n (load_field_address p s f fs next owner i)
  unfolding load_field_address
  load_field_address_grows s f fs next owner i h =
      top_grows n f.stack _ (λ this rest.
      some_grows n (p.fields owner) _ (λ types e.
      some_grows n (slice_get types i) _ (λ type e.
      some_grows n (cell_of type) _ (λ cell e.
      thing_grows n p s this _ h (λ object x e.
      instance_grows n p owner x _ (λ class vs q. goes_grows n p s f fs next (Pointer cell (InObject object i) ∷ rest) h))))))

  reached_grows : (s : State) (id : Id) (t : CliType) (o : Option ℕ) → n ≤ end_of s.heap → n ≤ end_of (reached s id t o).state.heap
  reached_grows s id t (Some k) h = h
  reached_grows s id t None h = more n p s.heap (StaticCell t (zero_of t)) h

  static_grows : (s : State) (id : Id) (x : Reached) → static_reached p s id ≡ Some x → n ≤ end_of s.heap → n ≤ end_of x.state.heap
  static_grows s id x e h = at (p.static id) e
    where
      at : (o : Option CliType) → option_map (λ t. reached s id t (static_object s.statics id)) o ≡ Some x → n ≤ end_of x.state.heap
      at None e = absurd (cc e)
      at (Some t) e = let q : reached s id t (static_object s.statics id) ≡ x = cc e in subst (λ (y : Reached). n ≤ end_of y.state.heap) q (reached_grows s id t (static_object s.statics id) h)

  load_static_grows : (s : State) (f : Frame) (fs : List Frame) (next : ℕ) (id : Id) → n ≤ end_of s.heap → Grows n (load_static p s f fs next id)
  unfolding load_static
  load_static_grows s f fs next id h =
      some_grows n (static_reached p s id) _ (λ x e.
      some_grows n (static_at x.state.heap x.object) _ (λ v q. goes_grows n p x.state f fs next (v ∷ f.stack) (static_grows s id x e h)))

  load_static_address_grows : (s : State) (f : Frame) (fs : List Frame) (next : ℕ) (id : Id) → n ≤ end_of s.heap → Grows n (load_static_address p s f fs next id)
  unfolding load_static_address
  load_static_address_grows s f fs next id h =
      some_grows n (static_reached p s id) _ (λ x e.
      some_grows n (cell_of x.type) _ (λ c q. goes_grows n p x.state f fs next (Pointer c (InObject x.object 0) ∷ f.stack) (static_grows s id x e h)))

  load_text_grows : (s : State) (f : Frame) (fs : List Frame) (next : ℕ) (units : List ℕ) (o : Option ℕ) → n ≤ end_of s.heap → Grows n (load_text p s f fs next units o)
  unfolding load_text
  load_text_grows s f fs next units (Some k) h = goes_grows n p s f fs next (Object k ∷ f.stack) h
  load_text_grows s f fs next units None h =
      goes_grows n p (record s { heap = s.heap ++ Text units ∷ []; literals = record { text = units; object = end_of s.heap } ∷ s.literals }) f fs next (Object (end_of s.heap) ∷ f.stack) (more n p s.heap (Text units) h)

  load_indirect_grows : (s : State) (f : Frame) (fs : List Frame) (next : ℕ) (access : Access) → n ≤ end_of s.heap → Grows n (load_indirect p s f fs next access)
  unfolding load_indirect
  load_indirect_grows s f fs next access h =
      some_grows n (access_cell access) _ (λ wide e.
      top_grows n f.stack _ (λ v rest.
      pointer_grows n v wide _ (λ c x.
      some_grows n (read p s f fs x) _ (λ w e. some_grows n (kept_in wide w) _ (λ y e. goes_grows n p s f fs next (y ∷ rest) h)))))

  store_indirect_grows : (s : State) (f : Frame) (fs : List Frame) (next : ℕ) (access : Access) → n ≤ end_of s.heap → Grows n (store_indirect p s f fs next access)
  unfolding store_indirect
  store_indirect_grows s f fs next access h =
      some_grows n (access_cell access) _ (λ wide e.
      two_grows n f.stack _ (λ pointer v rest.
      pointer_grows n pointer wide _ (λ c x.
      some_grows n (kept_in c v) _ (λ w e.
      some_grows n (write p s f fs x w) _ (λ t e.
      goes_grows n p t.state (record f { arguments = t.arguments; locals = t.locals }) t.callers next rest (write_grows n p s f fs x w h t e))))))

  new_array_grows : (s : State) (f : Frame) (fs : List Frame) (next : ℕ) (t : CliType) → n ≤ end_of s.heap → Grows n (new_array p s f fs next t)
  unfolding new_array
  new_array_grows s f fs next t h =
      some_grows n (cell_of t) _ (λ c e.
      top_grows n f.stack _ (λ v rest.
      some_grows n (as_int v) _ (λ k e.
      if_grows n (is_negative k) _ _ (λ w. raise_grows n p s Overflow h) (λ w. push_new_grows s f fs next rest (Elements t (replicate (unsigned_abs k) (zero_of t))) h))))

  load_length_grows : (s : State) (f : Frame) (fs : List Frame) (next : ℕ) → n ≤ end_of s.heap → Grows n (load_length p s f fs next)
  unfolding load_length
  load_length_grows s f fs next h =
      top_grows n f.stack _ (λ this rest.
      thing_grows n p s this _ h (λ object x e.
      elements_grows n x _ (λ t vs q. goes_grows n p s f fs next (length_value (length vs) ∷ rest) h)))

  load_element_grows : (s : State) (f : Frame) (fs : List Frame) (next : ℕ) (access : Access) → n ≤ end_of s.heap → Grows n (load_element p s f fs next access)
  unfolding load_element
  load_element_grows s f fs next access h =
      some_grows n (access_cell access) _ (λ wide e.
      two_grows n f.stack _ (λ this index rest.
      some_grows n (as_int index) _ (λ i e.
      thing_grows n p s this _ h (λ object x e.
      elements_grows n x _ (λ t vs q.
      on_cell_grows n t wide _ (λ c.
      or_raise_grows n p s IndexOutOfRange (slice_get vs (index_of i)) _ h (λ v e.
      some_grows n (kept_in wide v) _ (λ w e. goes_grows n p s f fs next (w ∷ rest) h))))))))

  store_element_grows : (s : State) (f : Frame) (fs : List Frame) (next : ℕ) (access : Access) → n ≤ end_of s.heap → Grows n (store_element p s f fs next access)
  unfolding store_element
  store_element_grows s f fs next access h =
      some_grows n (access_cell access) _ (λ wide e.
      three_grows n f.stack _ (λ this index v rest.
      some_grows n (as_int index) _ (λ i e.
      some_grows n (kept_in wide v) _ (λ w e.
      thing_grows n p s this _ h (λ object x e.
      elements_grows n x _ (λ t vs q.
      on_cell_grows n t wide _ (λ c.
      or_raise_grows n p s IndexOutOfRange (slice_get vs (index_of i)) _ h (λ old u.
      some_grows n (value_fits p s.heap t w) _ (λ ok u.
      if_grows n ok _ _
      (λ y. some_grows n (kept_in c w) _ (λ z u. put_elements_grows s f fs next rest object x t vs (slice_set vs (index_of i) z) e q (length-set vs (index_of i) z) h))
      (λ y. raise_grows n p s ArrayTypeMismatch h))))))))))

  load_element_address_grows : (s : State) (f : Frame) (fs : List Frame) (next : ℕ) (t : CliType) → n ≤ end_of s.heap → Grows n (load_element_address p s f fs next t)
  unfolding load_element_address
  load_element_address_grows s f fs next t h =
      some_grows n (cell_of t) _ (λ wide e.
      two_grows n f.stack _ (λ this index rest.
      some_grows n (as_int index) _ (λ i e.
      thing_grows n p s this _ h (λ object x e.
      elements_grows n x _ (λ u vs q.
      on_cell_grows n u wide _ (λ c.
      or_raise_grows n p s IndexOutOfRange (slice_get vs (index_of i)) _ h (λ old e.
      if_grows n (is_exact c u t) _ _ (λ y. goes_grows n p s f fs next (Pointer c (InObject object (index_of i)) ∷ rest) h) (λ y. raise_grows n p s ArrayTypeMismatch h))))))))

  cast_class_grows : (s : State) (f : Frame) (fs : List Frame) (next : ℕ) (t : CliType) → n ≤ end_of s.heap → Grows n (cast_class p s f fs next t)
  unfolding cast_class
  cast_class_grows s f fs next t h =
      top_grows n f.stack _ (λ v rest.
      some_grows n (kept_in Refers v) _ (λ w e.
      some_grows n (value_fits p s.heap t w) _ (λ ok e.
      if_grows n ok _ _ (λ y. goes_grows n p s f fs next (w ∷ rest) h) (λ y. raise_grows n p s InvalidCast h))))

  is_instance_grows : (s : State) (f : Frame) (fs : List Frame) (next : ℕ) (t : CliType) → n ≤ end_of s.heap → Grows n (is_instance p s f fs next t)
  unfolding is_instance
  is_instance_grows s f fs next t h =
      top_grows n f.stack _ (λ v rest.
      some_grows n (kept_in Refers v) _ (λ w e.
      some_grows n (value_fits p s.heap t w) _ (λ ok e. goes_grows n p s f fs next ((if ok then w else Null) ∷ rest) h)))

  box_value_grows : (s : State) (f : Frame) (fs : List Frame) (next : ℕ) (t : CliType) → n ≤ end_of s.heap → Grows n (box_value p s f fs next t)
  unfolding box_value
  box_value_grows s f fs next t h =
      some_grows n (cell_of t) _ (λ c e.
      top_grows n f.stack _ (λ v rest. some_grows n (kept_in c v) _ (λ w e. push_new_grows s f fs next rest (Boxed t w) h)))

  unbox_grows : (s : State) (f : Frame) (fs : List Frame) (next : ℕ) (t : CliType) → n ≤ end_of s.heap → Grows n (unbox p s f fs next t)
  unfolding unbox
  unbox_grows s f fs next t h =
      some_grows n (cell_of t) _ (λ c e.
      top_grows n f.stack _ (λ v rest.
      thing_grows n p s v _ h (λ object x e.
      or_raise_grows n p s InvalidCast (boxed_number t x) _ h (λ old e. goes_grows n p s f fs next (Pointer c (InObject object 0) ∷ rest) h))))

  unbox_value_grows : (s : State) (f : Frame) (fs : List Frame) (next : ℕ) (t : CliType) → n ≤ end_of s.heap → Grows n (unbox_value p s f fs next t)
  unfolding unbox_value
  unbox_value_grows s f fs next t h =
      top_grows n f.stack _ (λ v rest.
      thing_grows n p s v _ h (λ object x e.
      or_raise_grows n p s InvalidCast (boxed_number t x) _ h (λ w e. goes_grows n p s f fs next (w ∷ rest) h)))

  unbox_any_grows : (s : State) (f : Frame) (fs : List Frame) (next : ℕ) (t : CliType) (c : Cell) → n ≤ end_of s.heap → Grows n (unbox_any p s f fs next t c)
  unbox_any_grows s f fs next t Refers h = cast_class_grows s f fs next t h
  unbox_any_grows s f fs next t (Bits integer) h = unbox_value_grows s f fs next t h

  -- a static field's cell
  static_cell : (x : Thing) (v : Value) → static_of x ≡ Some v → thing_size x ≡ 1
  static_cell (StaticCell type value) v e = refl
  static_cell (Instance class fields) v e = absurd (cc e)
  static_cell (Text units) v e = absurd (cc e)
  static_cell (Elements element values) v e = absurd (cc e)
  static_cell (Boxed type value) v e = absurd (cc e)

  static_kept : (heap : List Thing) (k : ℕ) (v : Value) (t : CliType) (w : Value) → static_at heap k ≡ Some v → n ≤ end_of heap → n ≤ end_of (put_thing heap k (StaticCell t w))
  static_kept heap k v t w e h = at (thing_at heap k) refl e
    where
      at : (o : Option Thing) → thing_at heap k ≡ o → on_some o static_of ≡ Some v → n ≤ end_of (put_thing heap k (StaticCell t w))
      at None q e = absurd (cc e)
      at (Some x) q e = kept_up n p heap k x (StaticCell t w) q (sym (static_cell x v e)) h

  store_static_grows : (s : State) (f : Frame) (fs : List Frame) (next : ℕ) (id : Id) → n ≤ end_of s.heap → Grows n (store_static p s f fs next id)
  unfolding store_static
  store_static_grows s f fs next id h =
      some_grows n (static_reached p s id) _ (λ x e.
      some_grows n (static_at x.state.heap x.object) _ (λ old u.
      top_grows n f.stack _ (λ v rest.
      some_grows n (kept (Plain x.type) v) _ (λ w y.
      goes_grows n p (record x.state { heap = put_thing x.state.heap x.object (StaticCell x.type w) }) f fs next rest
      (static_kept x.state.heap x.object old x.type w u (static_grows s id x e h))))))

  -- ---- natives

  new_text_grows : (s : State) (f : Frame) (fs : List Frame) (next : ℕ) (rest : List Value) (units : List ℕ) → n ≤ end_of s.heap → Grows n (new_text p s f fs next rest units)
  unfolding new_text
  new_text_grows s f fs next rest units h = push_new_grows s f fs next rest (Text units) h

  string_grows : (s : State) (v : Value) (k : List ℕ → Option State) → n ≤ end_of s.heap → ((units : List ℕ) → Grows n (k units)) → Grows n (on_string p s v k)
  string_grows s v k h g = thing_grows n p s v _ h (λ i x e. some_grows n (units_of x) _ (λ units e. g units))

  enum_grows : (x : Thing) (k : CliType → Value → Option State) → ((t : CliType) (v : Value) → Grows n (k t v)) → Grows n (on_enum x k)
  enum_grows (Boxed (EnumOf e class) v) k h = h (EnumOf e class) v
  enum_grows (Boxed (Basic e) v) k h = none_grows n
  enum_grows (Boxed (ClassOf class) v) k h = none_grows n
  enum_grows (Boxed (ValueOf class) v) k h = none_grows n
  enum_grows (Boxed (ArrayOf element) v) k h = none_grows n
  enum_grows (Instance class fields) k h = none_grows n
  enum_grows (Text units) k h = none_grows n
  enum_grows (Elements element values) k h = none_grows n
  enum_grows (StaticCell type value) k h = none_grows n

  spliced_length : (ws : List Value) (j : ℕ) (ys : List Value) → j + length ys ≤ length ws → length (spliced ws j ys) ≡ length ws
  spliced_length ws j ys h =
      let a = length-append (take j ws) (ys ++ drop (j + length ys) ws) in
      let b = length-append ys (drop (j + length ys) ws) in
      let c = length-take-le j ws (omega arith) in
      let d = length-drop (j + length ys) ws in
      a ∙ ap (λ k. k + length (ys ++ drop (j + length ys) ws)) c ∙ ap (λ k. j + k) (b ∙ ap (λ k. length ys + k) d) ∙ omega arith

  piece_length : (i k : ℕ) (vs : List Value) → i + k ≤ length vs → length (piece i k vs) ≡ k
  piece_length i k vs h = length-take-le k (drop i vs) (let d = length-drop i vs in omega arith)

  or_false : (b c : Bool) → (b || c) ≡ false → (b ≡ false) × (c ≡ false)
  or_false false false e = (refl, refl)
  or_false false true e = absurd (cc e)
  or_false true c e = absurd (cc e)

  copy_elements_grows : (s : State) (f : Frame) (fs : List Frame) (next : ℕ) (rest : List Value) (object : ℕ) (x : Thing) (t : CliType) (vs : List Value) (u : CliType) (ws : List Value) (i j k : ℤ) → thing_at s.heap object ≡ Some x → x ≡ Elements u ws → n ≤ end_of s.heap → Grows n (copy_elements p s f fs next rest object t vs u ws i j k)
  unfolding copy_elements
  copy_elements_grows s f fs next rest object x t vs u ws i j k e q h =
      if_grows n (type_eq t u) _ _
      (λ y. if_grows n (is_negative i || (is_negative j || is_negative k)) _ _ (λ z. raise_grows n p s ArgumentOutOfRange h) (λ z.
      if_grows n (nat_lt (length vs) (unsigned_abs i + unsigned_abs k) || nat_lt (length ws) (unsigned_abs j + unsigned_abs k)) _ _ (λ z. raise_grows n p s Argument h) (λ z.
      let parts = or_false (nat_lt (length vs) (unsigned_abs i + unsigned_abs k)) (nat_lt (length ws) (unsigned_abs j + unsigned_abs k)) z in
      let a = ltb-false (length vs) (unsigned_abs i + unsigned_abs k) parts.0 in
      let b = ltb-false (length ws) (unsigned_abs j + unsigned_abs k) parts.1 in
      let l = piece_length (unsigned_abs i) (unsigned_abs k) vs a in
      put_elements_grows s f fs next rest object x u ws (spliced ws (unsigned_abs j) (piece (unsigned_abs i) (unsigned_abs k) vs)) e q
      (spliced_length ws (unsigned_abs j) (piece (unsigned_abs i) (unsigned_abs k) vs) (omega arith)) h)))
      (λ y. raise_grows n p s ArrayTypeMismatch h)

  numbers_length : (integer : IntegerType) (k : ℕ) (bytes : List ℕ) → length (numbers_of integer k bytes) ≡ k
  numbers_length integer zero bytes = refl
  numbers_length integer (suc k) bytes = ap suc (numbers_length integer k (drop (bytes_of integer) bytes))

  initialise_grows : (s : State) (f : Frame) (fs : List Frame) (next : ℕ) (rest : List Value) (object : ℕ) (x : Thing) (t : CliType) (vs : List Value) (bytes : List ℕ) (c : Cell) → thing_at s.heap object ≡ Some x → x ≡ Elements t vs → n ≤ end_of s.heap → Grows n (initialise p s f fs next rest object t vs bytes c)
  initialise_grows s f fs next rest object x t vs bytes Refers e q h = raise_grows n p s Argument h
  initialise_grows s f fs next rest object x t vs bytes (Bits integer) e q h =
      if_grows n (nat_lt (length bytes) (length vs * bytes_of integer)) _ _ (λ y. raise_grows n p s Argument h)
      (λ y. put_elements_grows s f fs next rest object x t vs (numbers_of integer (length vs) bytes) e q (numbers_length integer (length vs) bytes) h)

  array_or_null_grows : (s : State) (v : Value) (o : Option State) → Grows n o → Grows n (on_array_or_null s.heap v o)
  array_or_null_grows s (Object i) o g = some_grows n (thing_at s.heap i) _ (λ x e. elements_grows n x _ (λ t ws q. g))
  array_or_null_grows s Null o g = g
  array_or_null_grows s (Int i) o g = none_grows n
  array_or_null_grows s (Long i) o g = none_grows n
  array_or_null_grows s (Handle i) o g = none_grows n
  array_or_null_grows s (Pointer c x) o g = none_grows n

  native_grows : (s : State) (f : Frame) (fs : List Frame) (next : ℕ) (rest : List Value) (name : NativeName) (vs : List Value) → n ≤ end_of s.heap → Grows n (native p s f fs next rest name vs)
  unfolding object_to_string enum_equals enum_to_string array_length array_copy string_length string_chars string_concat string_substring string_equals string_compare string_from_chars string_from_char number_signed number_unsigned initialize_array debug_print
  native_grows s f fs next rest ObjectToString vs h =
      top_grows n vs _ (λ this none.
      thing_grows n p s this _ h (λ i x e.
      some_grows n (type_of x) _ (λ t e. some_grows n (name_of p t) _ (λ units e. new_text_grows s f fs next rest units h))))
  native_grows s f fs next rest EnumEquals vs h =
      top_grows n vs _ (λ this others.
      top_grows n others _ (λ other none.
      thing_grows n p s this _ h (λ i x e.
      enum_grows x _ (λ t v. some_grows n (equals_box s.heap t v other) _ (λ b e. goes_grows n p s f fs next (of_bool b ∷ rest) h)))))
  native_grows s f fs next rest EnumToString vs h =
      top_grows n vs _ (λ this none.
      thing_grows n p s this _ h (λ i x e.
      enum_grows x _ (λ t v. some_grows n (number_text (cell_of t) v) _ (λ units e. new_text_grows s f fs next rest units h))))
  native_grows s f fs next rest ArrayLength vs h =
      top_grows n vs _ (λ this none.
      thing_grows n p s this _ h (λ i x e. elements_grows n x _ (λ t ws q. goes_grows n p s f fs next (length_value (length ws) ∷ rest) h)))
  native_grows s f fs next rest ArrayCopy vs h =
      top_grows n vs _ (λ source others.
      top_grows n others _ (λ i others.
      top_grows n others _ (λ destination others.
      top_grows n others _ (λ j others.
      top_grows n others _ (λ k none.
      some_grows n (as_int i) _ (λ i e.
      some_grows n (as_int j) _ (λ j e.
      some_grows n (as_int k) _ (λ k e.
      array_or_null_grows s source _ (array_or_null_grows s destination _ (
      thing_or_grows n p s ArgumentNull source _ h (λ a x e.
      thing_or_grows n p s ArgumentNull destination _ h (λ b y e.
      elements_grows n x _ (λ t us q.
      elements_grows n y _ (λ u ws q. copy_elements_grows s f fs next rest b y t us u ws i j k e q h))))))))))))))
  native_grows s f fs next rest StringLength vs h =
      top_grows n vs _ (λ this none. string_grows s this _ h (λ units. goes_grows n p s f fs next (length_value (length units) ∷ rest) h))
  native_grows s f fs next rest StringChars vs h =
      top_grows n vs _ (λ this others.
      top_grows n others _ (λ index none.
      some_grows n (as_int index) _ (λ i e.
      string_grows s this _ h (λ units.
      if_grows n (is_negative i) _ _ (λ y. raise_grows n p s IndexOutOfRange h)
      (λ y. or_raise_grows n p s IndexOutOfRange (slice_get units (index_of i)) _ h (λ u e. goes_grows n p s f fs next (Int (pos u) ∷ rest) h))))))
  native_grows s f fs next rest StringConcat vs h =
      top_grows n vs _ (λ a others.
      top_grows n others _ (λ b none.
      some_grows n (text_at s.heap a) _ (λ x e. some_grows n (text_at s.heap b) _ (λ y e. new_text_grows s f fs next rest (or_empty x ++ or_empty y) h))))
  native_grows s f fs next rest StringSubstring vs h =
      top_grows n vs _ (λ this others.
      top_grows n others _ (λ start others.
      top_grows n others _ (λ count none.
      some_grows n (as_int start) _ (λ i e.
      some_grows n (as_int count) _ (λ k e.
      string_grows s this _ h (λ units.
      if_grows n (is_range (length units) i k) _ _ (λ y. new_text_grows s f fs next rest (piece (unsigned_abs i) (unsigned_abs k) units) h) (λ y. raise_grows n p s ArgumentOutOfRange h)))))))
  native_grows s f fs next rest StringEquals vs h =
      top_grows n vs _ (λ a others.
      top_grows n others _ (λ b none.
      some_grows n (text_at s.heap a) _ (λ x e. some_grows n (text_at s.heap b) _ (λ y e. goes_grows n p s f fs next (of_bool (texts_equal x y) ∷ rest) h))))
  native_grows s f fs next rest StringCompare vs h =
      top_grows n vs _ (λ a others.
      top_grows n others _ (λ b none.
      some_grows n (text_at s.heap a) _ (λ x e. some_grows n (text_at s.heap b) _ (λ y e. goes_grows n p s f fs next (Int (texts_compared x y) ∷ rest) h))))
  native_grows s f fs next rest StringFromChars vs h =
      top_grows n vs _ (λ array others.
      top_grows n others _ (λ start others.
      top_grows n others _ (λ count none.
      some_grows n (as_int start) _ (λ i e.
      some_grows n (as_int count) _ (λ k e.
      thing_or_grows n p s ArgumentNull array _ h (λ object x e.
      elements_grows n x _ (λ t ws q.
      on_cell_grows n t (Bits U2) _ (λ c.
      if_grows n (is_range (length ws) i k) _ _ (λ y. new_text_grows s f fs next rest (map unit_of (piece (unsigned_abs i) (unsigned_abs k) ws)) h) (λ y. raise_grows n p s ArgumentOutOfRange h)))))))))
  native_grows s f fs next rest StringFromChar vs h =
      top_grows n vs _ (λ c none. some_grows n (as_int c) _ (λ k e. new_text_grows s f fs next rest (unit_of (Int k) ∷ []) h))
  native_grows s f fs next rest NumberSigned vs h =
      top_grows n vs _ (λ v none. some_grows n (as_long v) _ (λ k e. new_text_grows s f fs next rest (decimal_text k) h))
  native_grows s f fs next rest NumberUnsigned vs h =
      top_grows n vs _ (λ v none. some_grows n (as_long v) _ (λ k e. new_text_grows s f fs next rest (decimal (cast_unsigned w64 k)) h))
  native_grows s f fs next rest InitializeArray vs h =
      top_grows n vs _ (λ array others.
      top_grows n others _ (λ handle none.
      some_grows n (as_handle handle) _ (λ field e.
      some_grows n (p.bytes field) _ (λ bytes e.
      thing_grows n p s array _ h (λ object x e.
      elements_grows n x _ (λ t ws q.
      some_grows n (cell_of t) _ (λ c u. initialise_grows s f fs next rest object x t ws bytes c e q h)))))))
  native_grows s f fs next rest DebugPrint vs h =
      top_grows n vs _ (λ v none.
      some_grows n (text_at s.heap v) _ (λ x e. goes_grows n p (record s { output = s.output ++ printed (or_empty x) }) f fs next rest h))

  -- ---- methods

  room_grows : (f : Frame) (stack : List Value) (k : Option PlaceType) (o : Option State) → Grows n o → Grows n (if_room p f stack k o)
  room_grows f stack None o h = h
  room_grows f stack (Some k) o h =
      some_grows n (p.method f.method) _ (λ m e. if_grows n (nat_lt (length stack) m.max_stack) _ _ (λ w. h) (λ w. none_grows n))

  starts_grows : (s : State) (f : Frame) (fs : List Frame) (stack : List Value) (id : Id) (m : Method) (vs : List Value) → n ≤ end_of s.heap → Grows n (starts p s f fs stack id m vs)
  unfolding starts
  starts_grows s f fs stack id m vs h =
      room_grows f stack m.returns _ (
      some_grows n (goes p s f fs f.place stack) _ (λ t e.
      state_grows n (record t { frames = start_frame false id m vs ∷ t.frames }) (goes_grows n p s f fs f.place stack h t e)))

  enter_grows : (s : State) (f : Frame) (fs : List Frame) (next : ℕ) (rest : List Value) (id : Id) (m : Method) (vs : List Value) (body : Body) → n ≤ end_of s.heap → Grows n (enter p s f fs next rest id m vs body)
  enter_grows s f fs next rest id m vs Code h = starts_grows s f fs rest id m vs h
  enter_grows s f fs next rest id m vs (Native name) h = native_grows s f fs next rest name vs h
  enter_grows s f fs next rest id m vs Missing h = none_grows n

  invoke_grows : (s : State) (f : Frame) (fs : List Frame) (next : ℕ) (rest : List Value) (id : Id) (m : Method) (vs : List Value) → n ≤ end_of s.heap → Grows n (invoke p s f fs next rest id m vs)
  unfolding invoke
  invoke_grows s f fs next rest id m vs h =
      some_grows n (keep_all m.arguments vs) _ (λ ws e. enter_grows s f fs next rest id m ws m.body h)

  call_grows : (s : State) (f : Frame) (fs : List Frame) (next : ℕ) (id : Id) → n ≤ end_of s.heap → Grows n (call p s f fs next id)
  unfolding call
  call_grows s f fs next id h =
      some_grows n (p.method id) _ (λ m e.
      some_grows n (take_arguments (length m.arguments) f.stack []) _ (λ t e. invoke_grows s f fs next t.rest id m t.arguments h))

  call_virtual_grows : (s : State) (f : Frame) (fs : List Frame) (next : ℕ) (id : Id) → n ≤ end_of s.heap → Grows n (call_virtual p s f fs next id)
  unfolding call_virtual
  call_virtual_grows s f fs next id h =
      some_grows n (p.method id) _ (λ m e.
      some_grows n (take_arguments (length m.arguments) f.stack []) _ (λ t e.
      some_grows n (keep_all m.arguments t.arguments) _ (λ given e.
      top_grows n given _ (λ this others.
      thing_grows n p s this _ h (λ i x e.
      some_grows n (type_of x) _ (λ type e.
      some_grows n (class_of_type p type) _ (λ class e.
      some_grows n (p.target class id) _ (λ found e.
      some_grows n (p.method found) _ (λ b e.
      some_grows n (receiver b.arguments i x) _ (λ self e. invoke_grows s f fs next t.rest found b (self ∷ others) h))))))))))

  construct_grows : (s : State) (f : Frame) (fs : List Frame) (stack : List Value) (id : Id) (m : Method) (vs : List Value) (body : Body) → n ≤ end_of s.heap → Grows n (construct p s f fs stack id m vs body)
  construct_grows s f fs stack id m vs Code h = starts_grows s f fs stack id m vs h
  construct_grows s f fs stack id m vs (Native name) h = none_grows n
  construct_grows s f fs stack id m vs Missing h = none_grows n

  new_object_grows : (s : State) (f : Frame) (fs : List Frame) (class constructor : Id) → n ≤ end_of s.heap → Grows n (new_object p s f fs class constructor)
  unfolding new_object
  new_object_grows s f fs class constructor h =
      some_grows n (p.method constructor) _ (λ m e.
      some_grows n (p.fields class) _ (λ types e.
      some_grows n (take_arguments (length m.arguments - 1) f.stack []) _ (λ t e.
      some_grows n (keep_all m.arguments (Object (end_of s.heap) ∷ t.arguments)) _ (λ vs e.
      construct_grows (record s { heap = s.heap ++ Instance class (map zero_of types) ∷ [] }) f fs (Object (end_of s.heap) ∷ t.rest) constructor m vs m.body (more n p s.heap (Instance class (map zero_of types)) h)))))

  hand_back_grows : (s : State) (b : Bool) (v : Option Value) (fs : List Frame) → n ≤ end_of s.heap → Grows n (hand_back p s b v fs)
  hand_back_grows s true v [] h = some_grows n (number_of v) _ (λ k e. state_grows n _ h)
  hand_back_grows s false v [] h = some_grows n (number_of v) _ (λ k e. state_grows n _ h)
  hand_back_grows s true v (g ∷ gs) h = state_grows n (record s { frames = g ∷ gs }) h
  hand_back_grows s false v (g ∷ gs) h =
      some_grows n (p.fetch g.method g.place) _ (λ line e. goes_grows n p s g gs line.next (with_result v g.stack) h)

  return_grows : (s : State) (f : Frame) (fs : List Frame) → n ≤ end_of s.heap → Grows n (return_value p s f fs)
  unfolding return_value
  return_grows s f fs h =
      some_grows n (p.method f.method) _ (λ m e. some_grows n (result_of m.returns f.stack) _ (λ v e. hand_back_grows s f.initialiser v fs h))

  start_code_grows : (s : State) (i : Initialiser) (m : Method) (body : Body) → n ≤ end_of s.heap → Grows n (start_code p s i m body)
  start_code_grows s i m Code h = at m.arguments
    where
      at : (ks : List PlaceType) → Grows n (if_none ks (Some (record s { started = i.class ∷ s.started; frames = start_frame true i.method m [] ∷ s.frames })))
      at [] = state_grows n _ h
      at (k ∷ ks) = none_grows n
  start_code_grows s i m (Native name) h = none_grows n
  start_code_grows s i m Missing h = none_grows n

  start_class_grows : (s : State) (i : Initialiser) → n ≤ end_of s.heap → Grows n (start_class p s i)
  unfolding start_class
  start_class_grows s i h = some_grows n (p.method i.method) _ (λ m e. start_code_grows s i m m.body h)

  -- ---- a step

  branch_grows : (s : State) (f : Frame) (fs : List Frame) (next : ℕ) (on : Bool) (target : ℕ) (o : Option Bool) (rest : List Value) → n ≤ end_of s.heap → Grows n (branch_if p s f fs next on target o rest)
  branch_grows s f fs next on target o rest h =
      some_grows n o _ (λ b e. goes_grows n p s f fs (if agree b on then target else next) rest h)

  act_grows : (s : State) (f : Frame) (fs : List Frame) (next : ℕ) (i : Instruction) → n ≤ end_of s.heap → Grows n (act p s f fs next i)
  act_grows s f fs next Nop h = goes_grows n p s f fs next f.stack h
  act_grows s f fs next (Push v) h = goes_grows n p s f fs next (v ∷ f.stack) h
  act_grows s f fs next Dup h = top_grows n f.stack _ (λ v rest. goes_grows n p s f fs next (v ∷ v ∷ rest) h)
  act_grows s f fs next Pop h = top_grows n f.stack _ (λ v rest. goes_grows n p s f fs next rest h)
  act_grows s f fs next (LoadArgument i) h = some_grows n (slice_get f.arguments i) _ (λ v e. goes_grows n p s f fs next (v ∷ f.stack) h)
  act_grows s f fs next (StoreArgument i) h =
      some_grows n (p.method f.method) _ (λ m e.
      some_grows n (slice_get m.arguments i) _ (λ t e.
      top_grows n f.stack _ (λ v rest.
      some_grows n (kept t v) _ (λ w e. goes_grows n p s (record f { arguments = slice_set f.arguments i w }) fs next rest h))))
  act_grows s f fs next (LoadArgumentAddress i) h =
      some_grows n (p.method f.method) _ (λ m e.
      some_grows n (slice_get m.arguments i) _ (λ t e.
      some_grows n (place_cell t) _ (λ c e. goes_grows n p s f fs next (Pointer c (InArgument (frames_cells p (f ∷ fs)) i) ∷ f.stack) h)))
  act_grows s f fs next (LoadLocal i) h = some_grows n (slice_get f.locals i) _ (λ v e. goes_grows n p s f fs next (v ∷ f.stack) h)
  act_grows s f fs next (StoreLocal i) h =
      some_grows n (p.method f.method) _ (λ m e.
      some_grows n (slice_get m.locals i) _ (λ t e.
      top_grows n f.stack _ (λ v rest.
      some_grows n (kept t v) _ (λ w e. goes_grows n p s (record f { locals = slice_set f.locals i w }) fs next rest h))))
  act_grows s f fs next (LoadLocalAddress i) h =
      some_grows n (p.method f.method) _ (λ m e.
      some_grows n (slice_get m.locals i) _ (λ t e.
      some_grows n (place_cell t) _ (λ c e. goes_grows n p s f fs next (Pointer c (InLocal (frames_cells p (f ∷ fs)) i) ∷ f.stack) h)))
  act_grows s f fs next (Binary operator) h = two_grows n f.stack _ (λ x y rest. answered_grows n p s f fs next rest (binary operator x y) h)
  act_grows s f fs next (Shift operator) h =
      two_grows n f.stack _ (λ x y rest. some_grows n (shift operator x y) _ (λ v e. goes_grows n p s f fs next (v ∷ rest) h))
  act_grows s f fs next (Unary operator) h =
      top_grows n f.stack _ (λ x rest. some_grows n (unary operator x) _ (λ v e. goes_grows n p s f fs next (v ∷ rest) h))
  act_grows s f fs next (Compare comparison) h =
      two_grows n f.stack _ (λ x y rest. some_grows n (compare comparison x y) _ (λ b e. goes_grows n p s f fs next (of_bool b ∷ rest) h))
  act_grows s f fs next (Convert integer) h =
      top_grows n f.stack _ (λ x rest. some_grows n (convert integer x) _ (λ v e. goes_grows n p s f fs next (v ∷ rest) h))
  act_grows s f fs next (ConvertChecked integer source) h =
      top_grows n f.stack _ (λ x rest. answered_grows n p s f fs next rest (convert_checked integer source x) h)
  act_grows s f fs next (Branch target) h = goes_grows n p s f fs target f.stack h
  act_grows s f fs next (BranchIf on target) h = top_grows n f.stack _ (λ v rest. branch_grows s f fs next on target (truth v) rest h)
  act_grows s f fs next (BranchCompare comparison on target) h =
      two_grows n f.stack _ (λ x y rest. branch_grows s f fs next on target (branch_compare comparison x y) rest h)
  act_grows s f fs next (Switch targets) h =
      top_grows n f.stack _ (λ v rest. some_grows n (as_int v) _ (λ k e. goes_grows n p s f fs (unwrap_or (slice_get targets (cast_unsigned w32 k)) next) rest h))
  act_grows s f fs next (Call id) h = call_grows s f fs next id h
  act_grows s f fs next (CallVirtual id) h = call_virtual_grows s f fs next id h
  act_grows s f fs next (NewObject class constructor) h = new_object_grows s f fs class constructor h
  act_grows s f fs next Return h = return_grows s f fs h
  act_grows s f fs next (LoadField owner i) h = load_field_grows s f fs next owner i h
  act_grows s f fs next (StoreField owner i) h = store_field_grows s f fs next owner i h
  act_grows s f fs next (LoadFieldAddress owner i) h = load_field_address_grows s f fs next owner i h
  act_grows s f fs next (LoadStatic id) h = load_static_grows s f fs next id h
  act_grows s f fs next (StoreStatic id) h = store_static_grows s f fs next id h
  act_grows s f fs next (LoadStaticAddress id) h = load_static_address_grows s f fs next id h
  act_grows s f fs next (LoadText units) h = load_text_grows s f fs next units (literal_object s.literals units) h
  act_grows s f fs next (LoadIndirect access) h = load_indirect_grows s f fs next access h
  act_grows s f fs next (StoreIndirect access) h = store_indirect_grows s f fs next access h
  act_grows s f fs next (NewArray t) h = new_array_grows s f fs next t h
  act_grows s f fs next LoadLength h = load_length_grows s f fs next h
  act_grows s f fs next (LoadElement access) h = load_element_grows s f fs next access h
  act_grows s f fs next (StoreElement access) h = store_element_grows s f fs next access h
  act_grows s f fs next (LoadElementAddress t) h = load_element_address_grows s f fs next t h
  act_grows s f fs next (CastClass t) h = cast_class_grows s f fs next t h
  act_grows s f fs next (IsInstance t) h = is_instance_grows s f fs next t h
  act_grows s f fs next (Box t) h = box_value_grows s f fs next t h
  act_grows s f fs next (Unbox t) h = unbox_grows s f fs next t h
  act_grows s f fs next (UnboxAny t) h = some_grows n (cell_of t) _ (λ c e. unbox_any_grows s f fs next t c h)
  act_grows s f fs next Throw h = top_grows n f.stack _ (λ v rest. throw_value_grows n p s v h)
  act_grows s f fs next (Rethrow k) h = throw_again_grows n p s (slice_get f.slots k) h
  act_grows s f fs next (Leave target) h =
      some_grows n (p.method f.method) _ (λ m e. leave_grows n p s f fs (left p f.method f.place target 0 m.clauses) target h)
  act_grows s f fs next (EndFinally k) h = take_up_grows n p s f fs (slice_get f.slots k) h

  after_start_grows : (s : State) (f : Frame) (fs : List Frame) (line : Line) (needs : Option Initialiser) → n ≤ end_of s.heap → Grows n (after_start p s f fs line needs)
  after_start_grows s f fs line None h = act_grows s f fs line.next line.instruction h
  after_start_grows s f fs line (Some i) h =
      if_grows n (list_any (id_eq i.class) s.started) _ _ (λ y. act_grows s f fs line.next line.instruction h) (λ y. start_class_grows s i h)

  pub step_grows : (s : State) → n ≤ end_of s.heap → Grows n (step p s)
  unfolding step
  step_grows s h = at s.frames
    where
      at : (fs : List Frame) → Grows n (on_frames fs (λ f fs. on_some (p.fetch f.method f.place) (λ line. after_start p s f fs line line.needs)))
      at [] = none_grows n
      at (f ∷ fs) = some_grows n (p.fetch f.method f.place) _ (λ line e. after_start_grows s f fs line line.needs h)

-- cells fall only by frames
pub cells_fall : (p : Program) (s t : State) → step p s ≡ Some t → cells p s ≤ cells p t + (frames_cells p s.frames - frames_cells p t.frames)
cells_fall p s t e = let h = step_grows (end_of s.heap) p s (omega arith) t e in omega arith
