-- The natives under a renaming.
use Rattle.std.proofs.Common.{◌≡◌, ℕ, zero, suc, ◌+◌, ◌*◌, true, ◌&&◌, ◌||◌, List, [], ◌∷◌, ◌++◌, map, take, drop, length, Option, Some, None, refl, sym, ap, ◌∙◌, inl}
use Rattle.std.specs.Prelude.{ℤ, pos, unsigned_abs, slice_get, decimal, nat_lt}
use Rattle.std.specs.Option.{option_map}
use Rattle.std.specs.Int.{w64, cast_unsigned}
use Rattle.std.proofs.lemmas.List.{map-append}
use Rattle.cil_opcodes.specs.declared.shape.IntegerType.{IntegerType}
use Rattle.cil_opcodes.specs.declared.shape.IntegerType.TheVariants.{U2}
use Rattle.board_types.specs.declared.board.Known.{Known}
use Rattle.board_types.specs.declared.board.Known.TheVariants.{IndexOutOfRange, ArrayTypeMismatch, Argument, ArgumentNull, ArgumentOutOfRange}
use Rattle.machine.specs.Data.{Id, put_thing, type_eq, CliType, Basic, EnumOf, ClassOf, ValueOf, ArrayOf, Cell, Bits, Refers, cell_of, bytes_of, Value, Int, Long, Null, Object, Handle, Pointer, Thing, Instance, Text, Elements, Boxed, StaticCell, Frame, State}
use Rattle.machine.specs.Program.{Program, NativeName, ObjectToString, EnumEquals, EnumToString, ArrayLength, ArrayCopy, StringLength, StringChars, StringConcat, StringSubstring, StringEquals, StringCompare, StringFromChars, StringFromChar, NumberSigned, NumberUnsigned, InitializeArray, DebugPrint}
use Rattle.machine.specs.Numbers.{of_bool, cut, little_endian, number_in}
use Rattle.machine.specs.Texts.{printed, units_of_name, with_brackets, decimal_text}
use Rattle.machine.specs.Rows.{length_value, index_of}
use Rattle.machine.specs.Natives.{on_array_or_null, name_of, units_of, text_at, or_empty, texts_equal, texts_compared, unit_of, new_text, is_range, piece, spliced, on_enum, same_number_value, is_box_of, equals_box, number_text, copy_elements, numbers_of, initialise, on_string, object_to_string, enum_equals, enum_to_string, array_length, array_copy, string_length, string_chars, string_concat, string_substring, string_equals, string_compare, string_from_chars, string_from_char, number_signed, number_unsigned, initialize_array, debug_print, native}
use Rattle.machine_rename.specs.Rename.{Renaming, Answers, Asked, throws, type_to, value_to, thing_to, frame_to, state_to}
use Rattle.machine_rename.proofs.Base.{cell_law, some_law, same_law, some_eq, if_law, top_law, length-map_lem, thing_at_law, put_thing_law, goes_law}
use Rattle.machine_rename.proofs.ThrowLaws.{raise_law}
use Rattle.machine_rename.proofs.ValueLaws.{cut_law, as_int_law, as_long_law, as_handle_law}
use Rattle.machine_rename.proofs.RowLaws.{type_of_law, elements_law, on_cell_law, type_eq_law, or_raise_law, thing_or_law, thing_law}
use Rattle.machine_rename.proofs.ObjectLaws.{heap_law, push_new_law, length_law}

-- lists and objects alone
module _ (r : Renaming) where
  units_law : (t : Thing) → units_of (thing_to r t) ≡ units_of t
  units_law (Text units) = refl
  units_law (Instance class fields) = refl
  units_law (Elements element values) = refl
  units_law (Boxed type value) = refl
  units_law (StaticCell type value) = refl

  text_law : (heap : List Thing) (v : Value) → text_at (map (thing_to r) heap) (value_to r v) ≡ text_at heap v
  text_law heap Null = refl
  text_law heap (Object n) = some_eq (thing_to r) _ _ _ _ (thing_at_law r heap n) (λ x. ap (option_map Some) (units_law x))
  text_law heap (Int n) = refl
  text_law heap (Long n) = refl
  text_law heap (Handle f) = refl
  text_law heap (Pointer c x) = refl

  take_law : (n : ℕ) (vs : List Value) → take n (map (value_to r) vs) ≡ map (value_to r) (take n vs)
  take_law zero vs = refl
  take_law (suc n) [] = refl
  take_law (suc n) (v ∷ vs) = ap (λ ws. value_to r v ∷ ws) (take_law n vs)

  drop_law : (n : ℕ) (vs : List Value) → drop n (map (value_to r) vs) ≡ map (value_to r) (drop n vs)
  drop_law zero vs = refl
  drop_law (suc n) [] = refl
  drop_law (suc n) (v ∷ vs) = drop_law n vs

  piece_law : (start count : ℕ) (vs : List Value) → piece start count (map (value_to r) vs) ≡ map (value_to r) (piece start count vs)
  piece_law start count vs = ap (take count) (drop_law start vs) ∙ take_law count (drop start vs)

  spliced_law : (vs : List Value) (start : ℕ) (ws : List Value) → spliced (map (value_to r) vs) start (map (value_to r) ws) ≡ map (value_to r) (spliced vs start ws)
  spliced_law vs start ws =
      ap (λ n. take start (map (value_to r) vs) ++ (map (value_to r) ws ++ drop (start + n) (map (value_to r) vs))) (length-map_lem (value_to r) ws)
      ∙ ap (λ xs. xs ++ (map (value_to r) ws ++ drop (start + length ws) (map (value_to r) vs))) (take_law start vs)
      ∙ ap (λ xs. map (value_to r) (take start vs) ++ (map (value_to r) ws ++ xs)) (drop_law (start + length ws) vs)
      ∙ ap (λ xs. map (value_to r) (take start vs) ++ xs) (sym (map-append (value_to r) ws (drop (start + length ws) vs)))
      ∙ sym (map-append (value_to r) (take start vs) (ws ++ drop (start + length ws) vs))

  unit_law : (v : Value) → unit_of (value_to r v) ≡ unit_of v
  unit_law (Int n) = refl
  unit_law (Long n) = refl
  unit_law Null = refl
  unit_law (Object n) = refl
  unit_law (Handle f) = refl
  unit_law (Pointer c x) = refl

  chars_law : (vs : List Value) → map unit_of (map (value_to r) vs) ≡ map unit_of vs
  chars_law [] = refl
  chars_law (v ∷ vs) = ap (λ u. u ∷ map unit_of (map (value_to r) vs)) (unit_law v) ∙ ap (λ us. unit_of v ∷ us) (chars_law vs)

  enum_law : (x : Thing) (k' k : CliType → Value → Option State) → ((t : CliType) (v : Value) → k' (type_to r t) (value_to r v) ≡ option_map (state_to r) (k t v)) → on_enum (thing_to r x) k' ≡ option_map (state_to r) (on_enum x k)
  enum_law (Boxed (EnumOf e class) v) k' k h = h (EnumOf e class) v
  enum_law (Boxed (Basic e) v) k' k h = refl
  enum_law (Boxed (ClassOf class) v) k' k h = refl
  enum_law (Boxed (ValueOf class) v) k' k h = refl
  enum_law (Boxed (ArrayOf element) v) k' k h = refl
  enum_law (Instance class fields) k' k h = refl
  enum_law (Text units) k' k h = refl
  enum_law (Elements element values) k' k h = refl
  enum_law (StaticCell type value) k' k h = refl

  -- a number's value is what it was
  number_in_law : (integer : IntegerType) (v : Value) → number_in integer (value_to r v) ≡ number_in integer v
  number_in_law integer (Int n) = refl
  number_in_law integer (Long n) = refl
  number_in_law integer Null = refl
  number_in_law integer (Object n) = refl
  number_in_law integer (Handle f) = refl
  number_in_law integer (Pointer c x) = refl

  number_text_law : (c : Option Cell) (v : Value) → number_text c (value_to r v) ≡ number_text c v
  number_text_law (Some (Bits integer)) v = ap (option_map decimal_text) (number_in_law integer v)
  number_text_law (Some Refers) v = refl
  number_text_law None v = refl

  same_value_law : (v w : Value) → same_number_value (value_to r v) (value_to r w) ≡ same_number_value v w
  same_value_law (Int x) (Int y) = refl
  same_value_law (Long x) (Long y) = refl
  same_value_law _ _ = refl

  numbers_law : (integer : IntegerType) (n : ℕ) (bytes : List ℕ) → numbers_of integer n bytes ≡ map (value_to r) (numbers_of integer n bytes)
  numbers_law integer zero bytes = refl
  numbers_law integer (suc n) bytes =
      ap (λ v. v ∷ numbers_of integer n (drop (bytes_of integer) bytes)) (sym (cut_law r integer (little_endian (take (bytes_of integer) bytes))))
      ∙ ap (λ vs. value_to r (cut integer (little_endian (take (bytes_of integer) bytes))) ∷ vs) (numbers_law integer n (drop (bytes_of integer) bytes))

module _ (r : Renaming) (low high : Program) (a : Answers r low high) where
  name_of_law : (t : CliType) → name_of high (type_to r t) ≡ name_of low t
  name_of_law (ArrayOf element) = ap (option_map with_brackets) (name_of_law element)
  name_of_law (Basic e) = ap (option_map (λ class. units_of_name (high.name class))) (a.basic e) ∙ go (low.basic e)
    where
      go : (o : Option Id) → option_map (λ class. units_of_name (high.name class)) (option_map r.type o) ≡ option_map (λ class. units_of_name (low.name class)) o
      go None = refl
      go (Some class) = ap (λ n. Some (units_of_name n)) (a.name class)
  name_of_law (EnumOf e class) = ap (λ n. Some (units_of_name n)) (a.name class)
  name_of_law (ClassOf class) = ap (λ n. Some (units_of_name n)) (a.name class)
  name_of_law (ValueOf class) = ap (λ n. Some (units_of_name n)) (a.name class)

  is_box_law : (t : CliType) (v : Value) (x : Thing) → is_box_of (type_to r t) (value_to r v) (thing_to r x) ≡ is_box_of t v x
  is_box_law t v (Boxed own w) =
      ap (λ b. b && same_number_value (value_to r w) (value_to r v)) (type_eq_law r low high a own t) ∙ ap (λ b. type_eq own t && b) (same_value_law r w v)
  is_box_law t v (Instance class fields) = refl
  is_box_law t v (Text units) = refl
  is_box_law t v (Elements element values) = refl
  is_box_law t v (StaticCell type value) = refl

  equals_box_law : (heap : List Thing) (t : CliType) (v w : Value) → equals_box (map (thing_to r) heap) (type_to r t) (value_to r v) (value_to r w) ≡ equals_box heap t v w
  equals_box_law heap t v Null = refl
  equals_box_law heap t v (Object n) = ap (option_map (is_box_of (type_to r t) (value_to r v))) (thing_at_law r heap n) ∙ go _
    where
      go : (o : Option Thing) → option_map (is_box_of (type_to r t) (value_to r v)) (option_map (thing_to r) o) ≡ option_map (is_box_of t v) o
      go None = refl
      go (Some x) = ap Some (is_box_law t v x)
  equals_box_law heap t v (Int n) = refl
  equals_box_law heap t v (Long n) = refl
  equals_box_law heap t v (Handle f) = refl
  equals_box_law heap t v (Pointer c x) = refl

  -- a native and its renamed one
  abbrev Natives : (Program → State → Frame → List Frame → ℕ → List Value → List Value → Option State) → Type 0
  Natives run = (s : State) (f : Frame) (fs : List Frame) (next : ℕ) (rest arguments : List Value) → run high (state_to r s) (frame_to r f) (map (frame_to r) fs) (r.place f.method next) (map (value_to r) rest) (map (value_to r) arguments) ≡ option_map (state_to r) (run low s f fs next rest arguments)

  -- what a native throws is asked for
  abbrev Throwing : NativeName → Type 0
  Throwing name = (k : Known) → throws name k ≡ true → Asked low k

  new_text_law : (units : List ℕ) (s : State) (f : Frame) (fs : List Frame) (next : ℕ) (rest : List Value) → new_text high (state_to r s) (frame_to r f) (map (frame_to r) fs) (r.place f.method next) (map (value_to r) rest) units ≡ option_map (state_to r) (new_text low s f fs next rest units)
  unfolding new_text
  new_text_law units s f fs next rest = push_new_law r low high a s f fs next rest (Text units) (Text units) refl

  string_law : (s : State) (v : Value) (k' k : List ℕ → Option State) → ((units : List ℕ) → k' units ≡ option_map (state_to r) (k units)) → on_string high (state_to r s) (value_to r v) k' ≡ option_map (state_to r) (on_string low s v k)
  string_law s v k' k h = thing_law r low high a s v _ _ (λ n thing. same_law (state_to r) _ _ _ _ (units_law r thing) h)

  object_to_string_law : Natives object_to_string
  unfolding object_to_string
  object_to_string_law s f fs next rest arguments =
      top_law (state_to r) (value_to r) arguments _ _ (λ this none.
      thing_law r low high a s this _ _ (λ n thing.
      some_law (state_to r) (type_to r) _ _ _ _ (type_of_law r thing) (λ type.
      same_law (state_to r) _ _ _ _ (name_of_law type) (λ units. new_text_law units s f fs next rest))))

  enum_equals_law : Natives enum_equals
  unfolding enum_equals
  enum_equals_law s f fs next rest arguments =
      top_law (state_to r) (value_to r) arguments _ _ (λ this more.
      top_law (state_to r) (value_to r) more _ _ (λ other none.
      thing_law r low high a s this _ _ (λ n thing.
      enum_law r thing _ _ (λ type value.
      same_law (state_to r) _ _ _ _ (equals_box_law s.heap type value other) (λ b. goes_law r low high a s f fs next (of_bool b ∷ rest))))))

  enum_to_string_law : Natives enum_to_string
  unfolding enum_to_string
  enum_to_string_law s f fs next rest arguments =
      top_law (state_to r) (value_to r) arguments _ _ (λ this none.
      thing_law r low high a s this _ _ (λ n thing.
      enum_law r thing _ _ (λ type value.
      same_law (state_to r) _ _ _ _ (ap (λ c. number_text c (value_to r value)) (cell_law r type) ∙ number_text_law r (cell_of type) value) (λ units.
      new_text_law units s f fs next rest))))

  array_length_law : Natives array_length
  unfolding array_length
  array_length_law s f fs next rest arguments =
      top_law (state_to r) (value_to r) arguments _ _ (λ this none.
      thing_law r low high a s this _ _ (λ n thing.
      elements_law r thing _ _ (λ element values. length_law r low high a s f fs next rest values)))

  copy_elements_law : Throwing ArrayCopy → (s : State) (f : Frame) (fs : List Frame) (next : ℕ) (rest : List Value) (object : ℕ) (t : CliType) (vs : List Value) (u : CliType) (ws : List Value) (i j n : ℤ) → copy_elements high (state_to r s) (frame_to r f) (map (frame_to r) fs) (r.place f.method next) (map (value_to r) rest) object (type_to r t) (map (value_to r) vs) (type_to r u) (map (value_to r) ws) i j n ≡ option_map (state_to r) (copy_elements low s f fs next rest object t vs u ws i j n)
  unfolding copy_elements
  copy_elements_law th s f fs next rest object t vs u ws i j n =
      if_law (state_to r) _ _ _ _ _ _ (type_eq_law r low high a t u)
      (if_law (state_to r) _ _ _ _ _ _ refl (raise_law r low high a s ArgumentOutOfRange (th ArgumentOutOfRange refl))
      (if_law (state_to r) _ _ _ _ _ _
      (ap (λ k. nat_lt k (unsigned_abs i + unsigned_abs n) || nat_lt (length (map (value_to r) ws)) (unsigned_abs j + unsigned_abs n)) (length-map_lem (value_to r) vs)
      ∙ ap (λ k. nat_lt (length vs) (unsigned_abs i + unsigned_abs n) || nat_lt k (unsigned_abs j + unsigned_abs n)) (length-map_lem (value_to r) ws))
      (raise_law r low high a s Argument (th Argument refl))
      (heap_law r low high a s f fs next rest (put_thing s.heap object (Elements u (spliced ws (unsigned_abs j) (piece (unsigned_abs i) (unsigned_abs n) vs)))) _
      (ap (λ xs. put_thing (map (thing_to r) s.heap) object (Elements (type_to r u) (spliced (map (value_to r) ws) (unsigned_abs j) xs))) (piece_law r (unsigned_abs i) (unsigned_abs n) vs)
      ∙ ap (λ xs. put_thing (map (thing_to r) s.heap) object (Elements (type_to r u) xs)) (spliced_law r ws (unsigned_abs j) (piece (unsigned_abs i) (unsigned_abs n) vs))
      ∙ sym (put_thing_law r s.heap object (Elements u (spliced ws (unsigned_abs j) (piece (unsigned_abs i) (unsigned_abs n) vs))))))))
      (raise_law r low high a s ArrayTypeMismatch (inl refl))

  array_or_null_law : (heap : List Thing) (v : Value) (o' o : Option State) → o' ≡ option_map (state_to r) o → on_array_or_null (map (thing_to r) heap) (value_to r v) o' ≡ option_map (state_to r) (on_array_or_null heap v o)
  array_or_null_law heap (Object n) o' o e = some_law (state_to r) (thing_to r) _ _ _ _ (thing_at_law r heap n) (λ x. elements_law r x _ _ (λ t vs. e))
  array_or_null_law heap Null o' o e = e
  array_or_null_law heap (Int n) o' o e = refl
  array_or_null_law heap (Long n) o' o e = refl
  array_or_null_law heap (Handle f) o' o e = refl
  array_or_null_law heap (Pointer c x) o' o e = refl

  array_copy_law : Throwing ArrayCopy → Natives array_copy
  unfolding array_copy
  array_copy_law th s f fs next rest arguments =
      top_law (state_to r) (value_to r) arguments _ _ (λ source more.
      top_law (state_to r) (value_to r) more _ _ (λ i more.
      top_law (state_to r) (value_to r) more _ _ (λ destination more.
      top_law (state_to r) (value_to r) more _ _ (λ j more.
      top_law (state_to r) (value_to r) more _ _ (λ n none.
      same_law (state_to r) _ _ _ _ (as_int_law r i) (λ i.
      same_law (state_to r) _ _ _ _ (as_int_law r j) (λ j.
      same_law (state_to r) _ _ _ _ (as_int_law r n) (λ n.
      array_or_null_law s.heap source _ _ (array_or_null_law s.heap destination _ _ (
      thing_or_law r low high a s ArgumentNull source _ _ (th ArgumentNull refl) (λ x thing.
      thing_or_law r low high a s ArgumentNull destination _ _ (th ArgumentNull refl) (λ y other.
      elements_law r thing _ _ (λ t vs.
      elements_law r other _ _ (λ u ws. copy_elements_law th s f fs next rest y t vs u ws i j n))))))))))))))

  string_length_law : Natives string_length
  unfolding string_length
  string_length_law s f fs next rest arguments =
      top_law (state_to r) (value_to r) arguments _ _ (λ this none.
      string_law s this _ _ (λ units. goes_law r low high a s f fs next (length_value (length units) ∷ rest)))

  string_chars_law : Natives string_chars
  unfolding string_chars
  string_chars_law s f fs next rest arguments =
      top_law (state_to r) (value_to r) arguments _ _ (λ this more.
      top_law (state_to r) (value_to r) more _ _ (λ index none.
      same_law (state_to r) _ _ _ _ (as_int_law r index) (λ i.
      string_law s this _ _ (λ units.
      if_law (state_to r) _ _ _ _ _ _ refl (raise_law r low high a s IndexOutOfRange (inl refl))
      (or_raise_law r low high a (λ (u : ℕ). u) s IndexOutOfRange _ _ _ _ (inl refl) (same (slice_get units (index_of i))) (λ u. goes_law r low high a s f fs next (Int (pos u) ∷ rest)))))))
    where
      same : (o : Option ℕ) → o ≡ option_map (λ u. u) o
      same None = refl
      same (Some u) = refl

  string_concat_law : Natives string_concat
  unfolding string_concat
  string_concat_law s f fs next rest arguments =
      top_law (state_to r) (value_to r) arguments _ _ (λ v more.
      top_law (state_to r) (value_to r) more _ _ (λ w none.
      same_law (state_to r) _ _ _ _ (text_law r s.heap v) (λ x.
      same_law (state_to r) _ _ _ _ (text_law r s.heap w) (λ y. new_text_law (or_empty x ++ or_empty y) s f fs next rest))))

  string_substring_law : Throwing StringSubstring → Natives string_substring
  unfolding string_substring
  string_substring_law th s f fs next rest arguments =
      top_law (state_to r) (value_to r) arguments _ _ (λ this more.
      top_law (state_to r) (value_to r) more _ _ (λ start more.
      top_law (state_to r) (value_to r) more _ _ (λ count none.
      same_law (state_to r) _ _ _ _ (as_int_law r start) (λ i.
      same_law (state_to r) _ _ _ _ (as_int_law r count) (λ n.
      string_law s this _ _ (λ units.
      if_law (state_to r) _ _ _ _ _ _ refl (new_text_law (piece (unsigned_abs i) (unsigned_abs n) units) s f fs next rest) (raise_law r low high a s ArgumentOutOfRange (th ArgumentOutOfRange refl))))))))

  string_equals_law : Natives string_equals
  unfolding string_equals
  string_equals_law s f fs next rest arguments =
      top_law (state_to r) (value_to r) arguments _ _ (λ v more.
      top_law (state_to r) (value_to r) more _ _ (λ w none.
      same_law (state_to r) _ _ _ _ (text_law r s.heap v) (λ x.
      same_law (state_to r) _ _ _ _ (text_law r s.heap w) (λ y. goes_law r low high a s f fs next (of_bool (texts_equal x y) ∷ rest)))))

  string_compare_law : Natives string_compare
  unfolding string_compare
  string_compare_law s f fs next rest arguments =
      top_law (state_to r) (value_to r) arguments _ _ (λ v more.
      top_law (state_to r) (value_to r) more _ _ (λ w none.
      same_law (state_to r) _ _ _ _ (text_law r s.heap v) (λ x.
      same_law (state_to r) _ _ _ _ (text_law r s.heap w) (λ y. goes_law r low high a s f fs next (Int (texts_compared x y) ∷ rest)))))

  string_from_chars_law : Throwing StringFromChars → Natives string_from_chars
  unfolding string_from_chars
  string_from_chars_law th s f fs next rest arguments =
      top_law (state_to r) (value_to r) arguments _ _ (λ array more.
      top_law (state_to r) (value_to r) more _ _ (λ start more.
      top_law (state_to r) (value_to r) more _ _ (λ count none.
      same_law (state_to r) _ _ _ _ (as_int_law r start) (λ i.
      same_law (state_to r) _ _ _ _ (as_int_law r count) (λ n.
      thing_or_law r low high a s ArgumentNull array _ _ (th ArgumentNull refl) (λ object thing.
      elements_law r thing _ _ (λ element vs.
      on_cell_law r element (Bits U2) _ _ (λ cell.
      if_law (state_to r) _ _ _ _ _ _ (ap (λ k. is_range k i n) (length-map_lem (value_to r) vs))
      (ap (λ us. new_text high (state_to r s) (frame_to r f) (map (frame_to r) fs) (r.place f.method next) (map (value_to r) rest) us) (ap (map unit_of) (piece_law r (unsigned_abs i) (unsigned_abs n) vs) ∙ chars_law r (piece (unsigned_abs i) (unsigned_abs n) vs))
      ∙ new_text_law (map unit_of (piece (unsigned_abs i) (unsigned_abs n) vs)) s f fs next rest)
      (raise_law r low high a s ArgumentOutOfRange (th ArgumentOutOfRange refl))))))))))

  string_from_char_law : Natives string_from_char
  unfolding string_from_char
  string_from_char_law s f fs next rest arguments =
      top_law (state_to r) (value_to r) arguments _ _ (λ c none.
      same_law (state_to r) _ _ _ _ (as_int_law r c) (λ n. new_text_law (unit_of (Int n) ∷ []) s f fs next rest))

  number_signed_law : Natives number_signed
  unfolding number_signed
  number_signed_law s f fs next rest arguments =
      top_law (state_to r) (value_to r) arguments _ _ (λ v none.
      same_law (state_to r) _ _ _ _ (as_long_law r v) (λ n. new_text_law (decimal_text n) s f fs next rest))

  number_unsigned_law : Natives number_unsigned
  unfolding number_unsigned
  number_unsigned_law s f fs next rest arguments =
      top_law (state_to r) (value_to r) arguments _ _ (λ v none.
      same_law (state_to r) _ _ _ _ (as_long_law r v) (λ n. new_text_law (decimal (cast_unsigned w64 n)) s f fs next rest))

  initialise_law : Throwing InitializeArray → (s : State) (f : Frame) (fs : List Frame) (next : ℕ) (rest : List Value) (object : ℕ) (t : CliType) (vs : List Value) (bytes : List ℕ) (c : Cell) → initialise high (state_to r s) (frame_to r f) (map (frame_to r) fs) (r.place f.method next) (map (value_to r) rest) object (type_to r t) (map (value_to r) vs) bytes c ≡ option_map (state_to r) (initialise low s f fs next rest object t vs bytes c)
  initialise_law th s f fs next rest object t vs bytes Refers = raise_law r low high a s Argument (th Argument refl)
  initialise_law th s f fs next rest object t vs bytes (Bits integer) =
      if_law (state_to r) _ _ _ _ _ _ (ap (λ n. nat_lt (length bytes) (n * bytes_of integer)) (length-map_lem (value_to r) vs)) (raise_law r low high a s Argument (th Argument refl))
      (heap_law r low high a s f fs next rest (put_thing s.heap object (Elements t (numbers_of integer (length vs) bytes))) _
      (ap (λ n. put_thing (map (thing_to r) s.heap) object (Elements (type_to r t) (numbers_of integer n bytes))) (length-map_lem (value_to r) vs)
      ∙ ap (λ xs. put_thing (map (thing_to r) s.heap) object (Elements (type_to r t) xs)) (numbers_law r integer (length vs) bytes)
      ∙ sym (put_thing_law r s.heap object (Elements t (numbers_of integer (length vs) bytes)))))

  initialize_array_law : Throwing InitializeArray → Natives initialize_array
  unfolding initialize_array
  initialize_array_law th s f fs next rest arguments =
      top_law (state_to r) (value_to r) arguments _ _ (λ array more.
      top_law (state_to r) (value_to r) more _ _ (λ handle none.
      some_law (state_to r) r.field _ _ _ _ (as_handle_law r handle) (λ field.
      same_law (state_to r) _ _ _ _ (a.bytes field) (λ bytes.
      thing_law r low high a s array _ _ (λ object thing.
      elements_law r thing _ _ (λ element vs.
      same_law (state_to r) _ _ _ _ (cell_law r element) (λ cell. initialise_law th s f fs next rest object element vs bytes cell)))))))

  debug_print_law : Natives debug_print
  unfolding debug_print
  debug_print_law s f fs next rest arguments =
      top_law (state_to r) (value_to r) arguments _ _ (λ v none.
      same_law (state_to r) _ _ _ _ (text_law r s.heap v) (λ x. goes_law r low high a (record s { output = s.output ++ printed (or_empty x) }) f fs next rest))

  pub native_law : (name : NativeName) → Throwing name → Natives (λ p s f fs next rest arguments. native p s f fs next rest name arguments)
  native_law ObjectToString th = object_to_string_law
  native_law EnumEquals th = enum_equals_law
  native_law EnumToString th = enum_to_string_law
  native_law ArrayLength th = array_length_law
  native_law ArrayCopy th = array_copy_law th
  native_law StringLength th = string_length_law
  native_law StringChars th = string_chars_law
  native_law StringConcat th = string_concat_law
  native_law StringSubstring th = string_substring_law th
  native_law StringEquals th = string_equals_law
  native_law StringCompare th = string_compare_law
  native_law StringFromChars th = string_from_chars_law th
  native_law StringFromChar th = string_from_char_law
  native_law NumberSigned th = number_signed_law
  native_law NumberUnsigned th = number_unsigned_law
  native_law InitializeArray th = initialize_array_law th
  native_law DebugPrint th = debug_print_law
