-- Natives.
use Rattle.std.proofs.Common.{◌≡◌, ℕ, zero, suc, ◌+◌, ◌*◌, ◌≤◌, Bool, ◌||◌, List, [], ◌∷◌, ◌++◌, map, take, drop, length, Option, Some, ap, ◌∙◌, subst, arith}
use Rattle.std.specs.Prelude.{ℤ, pos, unsigned_abs, slice_get, nat_lt, decimal}
use Rattle.std.specs.Int.{w64, cast_unsigned}
use Rattle.std.proofs.lemmas.Bool.{ltb-false}
use Rattle.cil_opcodes.specs.declared.shape.IntegerType.{IntegerType}
use Rattle.cil_opcodes.specs.declared.shape.IntegerType.TheVariants.{U2}
use Rattle.board_types.specs.declared.board.Known.TheVariants.{NullReference, IndexOutOfRange, ArrayTypeMismatch, Argument, ArgumentNull, ArgumentOutOfRange}
use Rattle.machine.specs.Data.{thing_at, type_of, type_eq, CliType, Basic, EnumOf, ClassOf, ValueOf, ArrayOf, Cell, Bits, Refers, cell_of, bytes_of, Value, Int, Long, Null, Object, Handle, Pointer, Thing, Instance, Text, Elements, Boxed, StaticCell, Frame, State}
use Rattle.machine.specs.Program.{Program, NativeName, ObjectToString, EnumEquals, EnumToString, ArrayLength, ArrayCopy, StringLength, StringChars, StringConcat, StringSubstring, StringEquals, StringCompare, StringFromChars, StringFromChar, NumberSigned, NumberUnsigned, InitializeArray, DebugPrint}
use Rattle.machine.specs.Numbers.{is_negative, of_bool, little_endian, as_int, as_long, as_handle}
use Rattle.machine.specs.Texts.{printed, decimal_text}
use Rattle.machine.specs.Throw.{goes, raise}
use Rattle.machine.specs.Rows.{on_top, length_value, index_of}
use Rattle.machine.specs.Natives.{on_array_or_null, name_of, units_of, text_at, or_empty, texts_equal, texts_compared, unit_of, new_text, is_range, piece, spliced, on_enum, equals_box, number_text, copy_elements, numbers_of, initialise, on_string, object_to_string, enum_equals, enum_to_string, array_length, array_copy, string_length, string_chars, string_concat, string_substring, string_equals, string_compare, string_from_chars, string_from_char, number_signed, number_unsigned, initialize_array, debug_print, native}
use Rattle.machine_whole.specs.Whole.{OfElements, Context, over, AllName, ThingWhole, Whole}
use Rattle.machine_whole.proofs.Types.{or_left, or_right, spliced_long, piece_long, numbers_long}
use Rattle.machine_whole.proofs.Named.{all_append, all_take, all_drop, cut_names}
use Rattle.machine_whole.proofs.States.{Now, Fine, fine_some, fine_if, goes_fine, raise_fine, or_raise_fine, thing_fine, elements_fine}
use Rattle.machine_whole.proofs.Objects.{cell_fine, new_fine, put_fine}

module _ (fields frames : Bool) (p : Program) where
  numbers_name : (cx : Context) (i : IntegerType) (n : ℕ) (bytes : List ℕ) → AllName fields frames p cx (numbers_of i n bytes)
  numbers_name cx i zero bytes = tt
  numbers_name cx i (suc n) bytes = (cut_names fields frames p cx i (little_endian (take (bytes_of i) bytes)), numbers_name cx i n (drop (bytes_of i) bytes))

  pop_fine : (vs : List Value) (k : Value → List Value → Option State) → ((v : Value) (rest : List Value) → Fine fields frames p (k v rest)) → Fine fields frames p (on_top vs k)
  pop_fine [] k g = tt
  pop_fine (v ∷ vs) k g = g v vs

  enum_fine : (x : Thing) (k : CliType → Value → Option State) → ((type : CliType) (v : Value) → Fine fields frames p (k type v)) → Fine fields frames p (on_enum x k)
  enum_fine (Boxed (EnumOf e c) v) k g = g (EnumOf e c) v
  enum_fine (Boxed (Basic e) v) k g = tt
  enum_fine (Boxed (ClassOf c) v) k g = tt
  enum_fine (Boxed (ValueOf c) v) k g = tt
  enum_fine (Boxed (ArrayOf e) v) k g = tt
  enum_fine (Instance c vs) k g = tt
  enum_fine (Text units) k g = tt
  enum_fine (Elements e vs) k g = tt
  enum_fine (StaticCell type v) k g = tt

  array_or_null_fine : (heap : List Thing) (v : Value) (o : Option State) → Fine fields frames p o → Fine fields frames p (on_array_or_null heap v o)
  array_or_null_fine heap (Object i) o h = fine_some fields frames p (thing_at heap i) _ (λ x e. elements_fine fields frames p x _ (λ element vs is. h))
  array_or_null_fine heap Null o h = h
  array_or_null_fine heap (Int i) o h = tt
  array_or_null_fine heap (Long i) o h = tt
  array_or_null_fine heap (Handle i) o h = tt
  array_or_null_fine heap (Pointer i x) o h = tt

  module _ (s : State) (f : Frame) (fs : List Frame) (w : Whole fields frames p s) (n : Now fields frames p s f fs) (next : ℕ) (rest : List Value) (hr : AllName fields frames p (over s.heap (f ∷ fs)) rest) where
    text_fine : (units : List ℕ) → Fine fields frames p (new_text p s f fs next rest units)
    unfolding new_text
    text_fine units = new_fine fields frames p s f fs w n next (Text units) tt rest hr

    push_fine : (v : Value) → AllName fields frames p (over s.heap (f ∷ fs)) (v ∷ []) → Fine fields frames p (goes p s f fs next (v ∷ rest))
    push_fine v h = goes_fine fields frames p s f fs n next (v ∷ rest) (h.0, hr)

    string_fine : (v : Value) (k : List ℕ → Option State) → ((units : List ℕ) → Fine fields frames p (k units)) → Fine fields frames p (on_string p s v k)
    string_fine v k g = thing_fine fields frames p s w NullReference v _ (λ i x e. fine_some fields frames p (units_of x) k (λ units e. g units))

    copy_fine : (object : ℕ) (from to : CliType) (vs ws : List Value) → thing_at s.heap object ≡ Some (Elements to ws) → AllName fields frames p (over s.heap []) vs → AllName fields frames p (over s.heap []) ws → (i j k : ℤ) → Fine fields frames p (copy_elements p s f fs next rest object from vs to ws i j k)
    unfolding copy_elements
    copy_fine object from to vs ws e hv hw i j k =
        fine_if fields frames p (type_eq from to) _ (raise p s ArrayTypeMismatch) (λ b.
        fine_if fields frames p (is_negative i || (is_negative j || is_negative k)) (raise p s ArgumentOutOfRange) _ (λ b. raise_fine fields frames p s w ArgumentOutOfRange) (λ b.
        fine_if fields frames p (nat_lt (length vs) (unsigned_abs i + unsigned_abs k) || nat_lt (length ws) (unsigned_abs j + unsigned_abs k)) (raise p s Argument) _ (λ b. raise_fine fields frames p s w Argument) (λ eq.
        let lv : unsigned_abs i + unsigned_abs k ≤ length vs = ltb-false (length vs) (unsigned_abs i + unsigned_abs k) (or_left (nat_lt (length vs) (unsigned_abs i + unsigned_abs k)) (nat_lt (length ws) (unsigned_abs j + unsigned_abs k)) eq) in
        let lw : unsigned_abs j + unsigned_abs k ≤ length ws = ltb-false (length ws) (unsigned_abs j + unsigned_abs k) (or_right (nat_lt (length vs) (unsigned_abs i + unsigned_abs k)) (nat_lt (length ws) (unsigned_abs j + unsigned_abs k)) eq) in
        let ys : List Value = piece (unsigned_abs i) (unsigned_abs k) vs in
        let long : length ys ≡ unsigned_abs k = piece_long vs (unsigned_abs i) (unsigned_abs k) lv in
        put_fine fields frames p s f fs w n next object (Elements to ws) (Elements to (spliced ws (unsigned_abs j) ys)) e
        (ap (OfElements to) (spliced_long ws ys (unsigned_abs j) (omega (arith, long, lw))))
        (all_append fields frames p (over s.heap []) (take (unsigned_abs j) ws) (ys ++ drop (unsigned_abs j + length ys) ws) (all_take fields frames p (over s.heap []) (unsigned_abs j) ws hw)
        (all_append fields frames p (over s.heap []) ys (drop (unsigned_abs j + length ys) ws)
        (all_take fields frames p (over s.heap []) (unsigned_abs k) (drop (unsigned_abs i) vs) (all_drop fields frames p (over s.heap []) (unsigned_abs i) vs hv))
        (all_drop fields frames p (over s.heap []) (unsigned_abs j + length ys) ws hw)))
        rest hr))) (λ b. raise_fine fields frames p s w ArrayTypeMismatch)

    initialise_fine : (object : ℕ) (element : CliType) (vs : List Value) → thing_at s.heap object ≡ Some (Elements element vs) → (bytes : List ℕ) (cell : Cell) → Fine fields frames p (initialise p s f fs next rest object element vs bytes cell)
    initialise_fine object element vs e bytes Refers = raise_fine fields frames p s w Argument
    initialise_fine object element vs e bytes (Bits i) =
        fine_if fields frames p (nat_lt (length bytes) (length vs * bytes_of i)) (raise p s Argument) _ (λ b. raise_fine fields frames p s w Argument) (λ b.
        put_fine fields frames p s f fs w n next object (Elements element vs) (Elements element (numbers_of i (length vs) bytes)) e
        (ap (OfElements element) (numbers_long i (length vs) bytes)) (numbers_name (over s.heap []) i (length vs) bytes) rest hr)

    object_to_string_fine : (vs : List Value) → Fine fields frames p (object_to_string p s f fs next rest vs)
    unfolding object_to_string
    object_to_string_fine vs =
        pop_fine vs _ (λ this none.
        thing_fine fields frames p s w NullReference this _ (λ i x e.
        fine_some fields frames p (type_of x) _ (λ type e.
        fine_some fields frames p (name_of p type) _ (λ units e. text_fine units))))

    enum_equals_fine : (vs : List Value) → Fine fields frames p (enum_equals p s f fs next rest vs)
    unfolding enum_equals
    enum_equals_fine vs =
        pop_fine vs _ (λ this more.
        pop_fine more _ (λ other none.
        thing_fine fields frames p s w NullReference this _ (λ i x e.
        enum_fine x _ (λ type v.
        fine_some fields frames p (equals_box s.heap type v other) _ (λ b e. push_fine (of_bool b) (tt, tt))))))

    enum_to_string_fine : (vs : List Value) → Fine fields frames p (enum_to_string p s f fs next rest vs)
    unfolding enum_to_string
    enum_to_string_fine vs =
        pop_fine vs _ (λ this none.
        thing_fine fields frames p s w NullReference this _ (λ i x e.
        enum_fine x _ (λ type v.
        fine_some fields frames p (number_text (cell_of type) v) _ (λ units e. text_fine units))))

    array_length_fine : (vs : List Value) → Fine fields frames p (array_length p s f fs next rest vs)
    unfolding array_length
    array_length_fine vs =
        pop_fine vs _ (λ this none.
        thing_fine fields frames p s w NullReference this _ (λ i x e.
        elements_fine fields frames p x _ (λ element us is. push_fine (length_value (length us)) (tt, tt))))

    array_copy_fine : (vs : List Value) → Fine fields frames p (array_copy p s f fs next rest vs)
    unfolding array_copy
    array_copy_fine vs =
        pop_fine vs _ (λ source more.
        pop_fine more _ (λ i more.
        pop_fine more _ (λ destination more.
        pop_fine more _ (λ j more.
        pop_fine more _ (λ k none.
        fine_some fields frames p (as_int i) _ (λ i e1.
        fine_some fields frames p (as_int j) _ (λ j e2.
        fine_some fields frames p (as_int k) _ (λ k e3.
        array_or_null_fine s.heap source _ (array_or_null_fine s.heap destination _ (
        thing_fine fields frames p s w ArgumentNull source _ (λ a x ex.
        thing_fine fields frames p s w ArgumentNull destination _ (λ b y ey.
        elements_fine fields frames p x _ (λ from us xs.
        elements_fine fields frames p y _ (λ to ws ys.
        copy_fine b from to us ws (ey ∙ ap Some ys) (subst (ThingWhole fields frames p s.heap) xs (n.stored.things a x ex)) (subst (ThingWhole fields frames p s.heap) ys (n.stored.things b y ey)) i j k))))))))))))))

    string_length_fine : (vs : List Value) → Fine fields frames p (string_length p s f fs next rest vs)
    unfolding string_length
    string_length_fine vs = pop_fine vs _ (λ this none. string_fine this _ (λ units. push_fine (length_value (length units)) (tt, tt)))

    string_chars_fine : (vs : List Value) → Fine fields frames p (string_chars p s f fs next rest vs)
    unfolding string_chars
    string_chars_fine vs =
        pop_fine vs _ (λ this more.
        pop_fine more _ (λ index none.
        fine_some fields frames p (as_int index) _ (λ i e.
        string_fine this _ (λ units.
        fine_if fields frames p (is_negative i) (raise p s IndexOutOfRange) _ (λ b. raise_fine fields frames p s w IndexOutOfRange) (λ b.
        or_raise_fine fields frames p s w IndexOutOfRange (slice_get units (index_of i)) _ (λ u e. push_fine (Int (pos u)) (tt, tt)))))))

    string_concat_fine : (vs : List Value) → Fine fields frames p (string_concat p s f fs next rest vs)
    unfolding string_concat
    string_concat_fine vs =
        pop_fine vs _ (λ a more.
        pop_fine more _ (λ b none.
        fine_some fields frames p (text_at s.heap a) _ (λ x e.
        fine_some fields frames p (text_at s.heap b) _ (λ y e. text_fine (or_empty x ++ or_empty y)))))

    string_substring_fine : (vs : List Value) → Fine fields frames p (string_substring p s f fs next rest vs)
    unfolding string_substring
    string_substring_fine vs =
        pop_fine vs _ (λ this more.
        pop_fine more _ (λ start more.
        pop_fine more _ (λ count none.
        fine_some fields frames p (as_int start) _ (λ i e.
        fine_some fields frames p (as_int count) _ (λ k e.
        string_fine this _ (λ units.
        fine_if fields frames p (is_range (length units) i k) _ (raise p s ArgumentOutOfRange)
        (λ b. text_fine (piece (unsigned_abs i) (unsigned_abs k) units))
        (λ b. raise_fine fields frames p s w ArgumentOutOfRange)))))))

    string_equals_fine : (vs : List Value) → Fine fields frames p (string_equals p s f fs next rest vs)
    unfolding string_equals
    string_equals_fine vs =
        pop_fine vs _ (λ a more.
        pop_fine more _ (λ b none.
        fine_some fields frames p (text_at s.heap a) _ (λ x e.
        fine_some fields frames p (text_at s.heap b) _ (λ y e. push_fine (of_bool (texts_equal x y)) (tt, tt)))))

    string_compare_fine : (vs : List Value) → Fine fields frames p (string_compare p s f fs next rest vs)
    unfolding string_compare
    string_compare_fine vs =
        pop_fine vs _ (λ a more.
        pop_fine more _ (λ b none.
        fine_some fields frames p (text_at s.heap a) _ (λ x e.
        fine_some fields frames p (text_at s.heap b) _ (λ y e. push_fine (Int (texts_compared x y)) (tt, tt)))))

    string_from_chars_fine : (vs : List Value) → Fine fields frames p (string_from_chars p s f fs next rest vs)
    unfolding string_from_chars
    string_from_chars_fine vs =
        pop_fine vs _ (λ array more.
        pop_fine more _ (λ start more.
        pop_fine more _ (λ count none.
        fine_some fields frames p (as_int start) _ (λ i e.
        fine_some fields frames p (as_int count) _ (λ k e.
        thing_fine fields frames p s w ArgumentNull array _ (λ object x e.
        elements_fine fields frames p x _ (λ element us is.
        cell_fine fields frames p element (Bits U2) _ (λ cell e.
        fine_if fields frames p (is_range (length us) i k) _ (raise p s ArgumentOutOfRange)
        (λ b. text_fine (map unit_of (piece (unsigned_abs i) (unsigned_abs k) us)))
        (λ b. raise_fine fields frames p s w ArgumentOutOfRange)))))))))

    string_from_char_fine : (vs : List Value) → Fine fields frames p (string_from_char p s f fs next rest vs)
    unfolding string_from_char
    string_from_char_fine vs = pop_fine vs _ (λ c none. fine_some fields frames p (as_int c) _ (λ i e. text_fine (unit_of (Int i) ∷ [])))

    number_signed_fine : (vs : List Value) → Fine fields frames p (number_signed p s f fs next rest vs)
    unfolding number_signed
    number_signed_fine vs = pop_fine vs _ (λ v none. fine_some fields frames p (as_long v) _ (λ i e. text_fine (decimal_text i)))

    number_unsigned_fine : (vs : List Value) → Fine fields frames p (number_unsigned p s f fs next rest vs)
    unfolding number_unsigned
    number_unsigned_fine vs = pop_fine vs _ (λ v none. fine_some fields frames p (as_long v) _ (λ i e. text_fine (decimal (cast_unsigned w64 i))))

    initialize_array_fine : (vs : List Value) → Fine fields frames p (initialize_array p s f fs next rest vs)
    unfolding initialize_array
    initialize_array_fine vs =
        pop_fine vs _ (λ array more.
        pop_fine more _ (λ handle none.
        fine_some fields frames p (as_handle handle) _ (λ field e1.
        fine_some fields frames p (p.bytes field) _ (λ bytes e2.
        thing_fine fields frames p s w NullReference array _ (λ object x e.
        elements_fine fields frames p x _ (λ element us is.
        fine_some fields frames p (cell_of element) _ (λ cell e3. initialise_fine object element us (e ∙ ap Some is) bytes cell)))))))

    debug_print_fine : (vs : List Value) → Fine fields frames p (debug_print p s f fs next rest vs)
    unfolding debug_print
    debug_print_fine vs =
        pop_fine vs _ (λ v none.
        fine_some fields frames p (text_at s.heap v) _ (λ x e.
        goes_fine fields frames p (record s { output = s.output ++ printed (or_empty x) }) f fs
        (record {
          stored = record { things = n.stored.things; statics = n.stored.statics; literals = n.stored.literals };
          top = n.top;
          callers = n.callers;
        }) next rest hr))

    pub native_fine : (name : NativeName) (vs : List Value) → Fine fields frames p (native p s f fs next rest name vs)
    native_fine ObjectToString vs = object_to_string_fine vs
    native_fine EnumEquals vs = enum_equals_fine vs
    native_fine EnumToString vs = enum_to_string_fine vs
    native_fine ArrayLength vs = array_length_fine vs
    native_fine ArrayCopy vs = array_copy_fine vs
    native_fine StringLength vs = string_length_fine vs
    native_fine StringChars vs = string_chars_fine vs
    native_fine StringConcat vs = string_concat_fine vs
    native_fine StringSubstring vs = string_substring_fine vs
    native_fine StringEquals vs = string_equals_fine vs
    native_fine StringCompare vs = string_compare_fine vs
    native_fine StringFromChars vs = string_from_chars_fine vs
    native_fine StringFromChar vs = string_from_char_fine vs
    native_fine NumberSigned vs = number_signed_fine vs
    native_fine NumberUnsigned vs = number_unsigned_fine vs
    native_fine InitializeArray vs = initialize_array_fine vs
    native_fine DebugPrint vs = debug_print_fine vs
