-- Natives.
use Rattle.std.proofs.Common.{◌≡◌, ℕ, zero, suc, ◌+◌, ◌*◌, ◌≤◌, Bool, true, false, ◌||◌, List, [], ◌∷◌, ◌++◌, map, take, drop, length, Option, Some, None, refl, sym, ap, ◌∙◌, subst, arith, length-append, length-drop, length-take-le}
use Rattle.std.specs.Prelude.{ℤ, pos, unsigned_abs, if◌then◌else◌, slice_get, nat_lt, is_some, decimal}
use Rattle.std.specs.Int.{w64, cast_unsigned}
use Rattle.std.specs.Option.{option_map}
use Rattle.std.proofs.lemmas.Bool.{ltb-false}
use Rattle.cil_opcodes.specs.declared.shape.IntegerType.{IntegerType}
use Rattle.cil_opcodes.specs.declared.shape.IntegerType.TheVariants.{I1, U1, I2, U2, I4, U4, I8, U8}
use Rattle.board_types.specs.declared.board.Known.TheVariants.{NullReference, IndexOutOfRange, ArrayTypeMismatch, Argument, ArgumentNull, ArgumentOutOfRange}
use Rattle.plain_types.specs.declared.elem.Elem.{Elem}
use Rattle.plain_types.specs.declared.elem.Elem.TheVariants as elem
use Rattle.machine.specs.Data.{thing_at, Id, CliType, Basic, EnumOf, ClassOf, ValueOf, ArrayOf, PlaceType, Cell, Bits, Refers, cell_of, elem_cell, bytes_of, type_eq, put_thing, end_of, type_of, Value, Int, Long, Null, Object, Handle, Pointer, Text, Elements, Frame, State}
use Rattle.machine.specs.Program.{Program, Method, NativeName, ObjectToString, EnumEquals, EnumToString, ArrayLength, ArrayCopy, StringLength, StringChars, StringConcat, StringSubstring, StringEquals, StringCompare, StringFromChars, StringFromChar, NumberSigned, NumberUnsigned, InitializeArray, DebugPrint}
use Rattle.machine.specs.Numbers.{is_long, is_negative, of_bool, little_endian, number_in, as_int, as_long, as_handle}
use Rattle.machine.specs.Texts.{printed, units_of_name, with_brackets, decimal_text}
use Rattle.machine.specs.Throw.{on_some, goes, raise}
use Rattle.machine.specs.Rows.{on_top, on_thing, on_elements, length_value, index_of}
use Rattle.machine.specs.Natives.{on_array_or_null, name_of, units_of, text_at, or_empty, texts_equal, texts_compared, unit_of, new_text, is_range, piece, spliced, on_enum, is_box_of, equals_box, number_text, copy_elements, numbers_of, initialise, on_string, object_to_string, enum_equals, enum_to_string, array_length, array_copy, string_length, string_chars, string_concat, string_substring, string_equals, string_compare, string_from_chars, string_from_char, number_signed, number_unsigned, initialize_array, debug_print, native}
use Rattle.machine_typed.specs.Typing.{StackType, I, L, O, H, number, of_type, loaded, is_plain, ArrayWith, with_type}
use Rattle.machine_typed.specs.Accepted.{Typing, is_array, OnlyEnums, OnlyArrays, NativeFits, Leads, Accepted}
use Rattle.machine_typed.proofs.Heaps.{OfElements, grows, puts}
use Rattle.machine_typed.proofs.Types.{type_same, type_held, plain_cell, number_cell, elements_width}
use Rattle.machine_typed.proofs.Values.{Context, HasType, HaveAll, Every}
use Rattle.machine_typed.proofs.States.{over, There, there_at, Goes, some_goes, Now, leads_fine, now_grown, now_put}
use Rattle.machine_typed.proofs.Throws.{raise_fine}
use Rattle.machine_typed.proofs.Operators.{cut_has, int_here, long_here}
use Rattle.machine_typed.proofs.Steps.{if_goes, have_over, new_has, thing_goes, or_raise_fine}
use Rattle.machine_typed.proofs.Things.{cell_goes, every_append, every_take, every_drop, text_there, array_type, elements_there, enum_type, enum_there, Array, array_goes, any_array_goes}

number_meant : (p : Program) (cx : Context) (i : IntegerType) (v : Value) → HasType p cx v (number (is_long i)) → (z : ℤ) × (number_in i v ≡ Some z)
number_meant p cx I1 (Int n) h = (_, refl)
number_meant p cx U1 (Int n) h = (_, refl)
number_meant p cx I2 (Int n) h = (_, refl)
number_meant p cx U2 (Int n) h = (_, refl)
number_meant p cx I4 (Int n) h = (_, refl)
number_meant p cx U4 (Int n) h = (_, refl)
number_meant p cx I8 (Long n) h = (_, refl)
number_meant p cx U8 (Long n) h = (_, refl)
number_meant p cx I1 _ h = absurd h
number_meant p cx U1 _ h = absurd h
number_meant p cx I2 _ h = absurd h
number_meant p cx U2 _ h = absurd h
number_meant p cx I4 _ h = absurd h
number_meant p cx U4 _ h = absurd h
number_meant p cx I8 _ h = absurd h
number_meant p cx U8 _ h = absurd h

spliced_long : (ws ys : List Value) (j : ℕ) → j + length ys ≤ length ws → length (spliced ws j ys) ≡ length ws
spliced_long ws ys j h =
    let front = length-take-le j ws (omega (arith, h)) in
    let back = length-drop (j + length ys) ws in
    let rest = length-append ys (drop (j + length ys) ws) in
    let whole = length-append (take j ws) (ys ++ drop (j + length ys) ws) in
    omega (arith, h, front, back, rest, whole)

piece_long : (vs : List Value) (i n : ℕ) → i + n ≤ length vs → length (piece i n vs) ≡ n
piece_long vs i n h = let back = length-drop i vs in length-take-le n (drop i vs) (omega (arith, h, back))

or_left : (x y : Bool) → x || y ≡ false → x ≡ false
or_left true y e = absurd (cc e)
or_left false y e = refl

or_right : (x y : Bool) → x || y ≡ false → y ≡ false
or_right true y e = absurd (cc e)
or_right false y e = e

numbers_long : (i : IntegerType) (n : ℕ) (bytes : List ℕ) → length (numbers_of i n bytes) ≡ n
numbers_long i zero bytes = refl
numbers_long i (suc n) bytes = ap suc (numbers_long i n (drop (bytes_of i) bytes))

numbers_every : (p : Program) (cx : Context) (i : IntegerType) (n : ℕ) (bytes : List ℕ) → Every p cx (number (is_long i)) (numbers_of i n bytes)
numbers_every p cx i zero bytes = tt
numbers_every p cx i (suc n) bytes = (cut_has p cx i (little_endian (take (bytes_of i) bytes)), numbers_every p cx i n (drop (bytes_of i) bytes))

module _ (p : Program) (t : Typing) (a : Accepted p t) where
  basic_name : (e : Elem) → is_some (elem_cell e) ≡ true → (units : List ℕ) × (name_of p (Basic e) ≡ Some units)
  basic_name e h = let c = a.basics e h in (units_of_name (p.name c.0), ap (option_map (λ class. units_of_name (p.name class))) c.1)

  -- a plain type has a name
  plain_name : (x : CliType) → is_plain x ≡ true → (units : List ℕ) × (name_of p x ≡ Some units)
  plain_name (Basic e) h = basic_name e h
  plain_name (EnumOf e c) h = (units_of_name (p.name c), refl)
  plain_name (ClassOf c) h = (units_of_name (p.name c), refl)
  plain_name (ValueOf c) h = absurd (cc h)
  plain_name (ArrayOf x) h = let y = plain_name x h in (with_brackets y.0, ap (option_map with_brackets) y.1)

  made_name : (x : CliType) → t.made x ≡ true → (units : List ℕ) × (name_of p x ≡ Some units)
  made_name x h = plain_name x (a.objects x h)

module _ (p : Program) (t : Typing) (a : Accepted p t) (s : State) (f : Frame) (fs : List Frame) (m : Method) (n : Now p t s f fs m) (fr : s.frames ≡ f ∷ fs) (next : ℕ) (us : List StackType) (l : Leads p t f.method f.place us next) (rest : List Value) (types : List StackType) (hrest : HaveAll p (over s.heap (f ∷ fs)) rest types) where
  abbrev cx : Context
  cx = over s.heap (f ∷ fs)

  abbrev string : StackType
  string = O (Basic elem.String)

  -- ---- what natives do with their arguments, and what they give

  top_have : (vs : List Value) (u : StackType) (more : List StackType) (k : Value → List Value → Option State) → HaveAll p cx vs (u ∷ more) → ((v : Value) (ws : List Value) → HasType p cx v u → HaveAll p cx ws more → Goes p t (k v ws)) → Goes p t (on_top vs k)
  top_have [] u more k h g = absurd h
  top_have (v ∷ vs) u more k h g = g v vs h.0 h.1

  int_goes : (v : Value) → HasType p cx v I → (k : ℤ → Option State) → ((i : ℤ) → Goes p t (k i)) → Goes p t (on_some (as_int v) k)
  int_goes v h k g = let i = int_here p cx v h in some_goes p t (as_int v) i.0 k (ap as_int i.1) (g i.0)

  long_goes : (v : Value) → HasType p cx v L → (k : ℤ → Option State) → ((i : ℤ) → Goes p t (k i)) → Goes p t (on_some (as_long v) k)
  long_goes v h k g = let i = long_here p cx v h in some_goes p t (as_long v) i.0 k (ap as_long i.1) (g i.0)

  -- the text of a string, or null
  text_told : (v : Value) → HasType p cx v string → (x : Option (List ℕ)) × (text_at s.heap v ≡ Some x)
  text_told Null h = (None, refl)
  text_told (Object i) h =
      let y = there_at p t a s.heap n.stored.heap i h.own h.at in
      let z = text_there p t (over s.heap []) y.thing y.fits (y.type ∙ ap Some (a.texts h.own y.made h.below)) in
      (Some z.0, ap (λ o. on_some o (λ x. option_map Some (units_of x))) (y.at ∙ ap Some z.1))
  text_told (Int i) h = absurd h
  text_told (Long i) h = absurd h
  text_told (Handle i) h = absurd h
  text_told (Pointer i x) h = absurd h

  text_goes : (v : Value) → HasType p cx v string → (k : Option (List ℕ) → Option State) → ((x : Option (List ℕ)) → Goes p t (k x)) → Goes p t (on_some (text_at s.heap v) k)
  text_goes v h k g = let x = text_told v h in some_goes p t (text_at s.heap v) x.0 k x.1 (g x.0)

  string_goes : (v : Value) → HasType p cx v string → (go : List ℕ → Option State) → ((units : List ℕ) → Goes p t (go units)) → Goes p t (on_string p s v go)
  string_goes v h go g =
      thing_goes p t a s f fs m n NullReference fr v (Basic elem.String) h (λ object thing. on_some (units_of thing) go) (λ object own y below.
      let z = text_there p t (over s.heap []) y.thing y.fits (y.type ∙ ap Some (a.texts own y.made below)) in
      some_goes p t (units_of y.thing) z.0 go (ap units_of z.1) (g z.0))

  gives : (v : Value) (u : StackType) → Some (u ∷ types) ≡ Some us → HasType p cx v u → Goes p t (goes p s f fs next (v ∷ rest))
  gives v u e h = leads_fine p t a s f fs m n next (v ∷ rest) (u ∷ types) us l e (h, hrest)

  text_given : (units : List ℕ) → Some (string ∷ types) ≡ Some us → Goes p t (new_text p s f fs next rest units)
  unfolding new_text
  text_given units e =
      leads_fine p t a (record s { heap = s.heap ++ Text units ∷ [] }) f fs m (now_grown p t a s f fs m n (Text units) tt) next (Object (end_of s.heap) ∷ rest) (string ∷ types) us l e
      (new_has p t a s.heap (f ∷ fs) (Text units) (Basic elem.String) refl, have_over p t s.heap (s.heap ++ Text units ∷ []) (f ∷ fs) (grows s.heap (Text units)) rest types hrest)

  -- an array gets other values
  array_given : (object : ℕ) (b : CliType) (vs ws : List Value) → Array p t a s f fs m n fr object b vs → length ws ≡ length vs → Every p (over s.heap []) (of_type b) ws → Some types ≡ Some us → Goes p t (goes p (record s { heap = put_thing s.heap object (Elements b ws) }) f fs next rest)
  array_given object b vs ws y long every e =
      leads_fine p t a (record s { heap = put_thing s.heap object (Elements b ws) }) f fs m (now_put p t a s f fs m n object (Elements b vs) (Elements b ws) y.at (ap (OfElements b) long) (every, y.plain, y.made)) next rest types us l e
      (have_over p t s.heap (put_thing s.heap object (Elements b ws)) (f ∷ fs) (puts s.heap object (Elements b vs) (Elements b ws) y.at (ap (OfElements b) long)) rest types hrest)

  -- ---- objects and enums

  object_to_string_fine : (vs : List Value) → HaveAll p cx vs (O (Basic elem.Object) ∷ []) → Some (string ∷ types) ≡ Some us → Goes p t (object_to_string p s f fs next rest vs)
  unfolding object_to_string
  object_to_string_fine vs h e =
      top_have vs (O (Basic elem.Object)) [] _ h (λ v ws hv hw.
      thing_goes p t a s f fs m n NullReference fr v (Basic elem.Object) hv _ (λ object own y below.
      let name = made_name p t a own y.made in
      some_goes p t (type_of y.thing) own _ y.type (some_goes p t (name_of p own) name.0 _ name.1 (text_given name.0 e))))

  equals_told : (type : CliType) (value v : Value) → HasType p cx v (O (Basic elem.Object)) → (b : Bool) × (equals_box s.heap type value v ≡ Some b)
  equals_told type value Null h = (false, refl)
  equals_told type value (Object i) h =
      let y = there_at p t a s.heap n.stored.heap i h.own h.at in (is_box_of type value y.thing, ap (option_map (is_box_of type value)) y.at)
  equals_told type value (Int i) h = absurd h
  equals_told type value (Long i) h = absurd h
  equals_told type value (Handle i) h = absurd h
  equals_told type value (Pointer i x) h = absurd h

  enum_goes : (c : Id) → OnlyEnums p t c → (v : Value) → HasType p cx v (O (ClassOf c)) → (go : CliType → Value → Option State) → ((type : CliType) (i : IntegerType) (value : Value) → cell_of type ≡ Some (Bits i) → HasType p (over s.heap []) value (number (is_long i)) → Goes p t (go type value)) → Goes p t (on_thing p s v (λ object thing. on_enum thing go))
  enum_goes c only v h go g =
      thing_goes p t a s f fs m n NullReference fr v (ClassOf c) h (λ object thing. on_enum thing go) (λ object own y below.
      let d = enum_type p t own (only own y.made below) in
      let z = enum_there p t (over s.heap []) y.thing y.fits d.0 d.1 (y.type ∙ ap Some d.2) in
      let i = number_cell (cell_of (EnumOf d.0 d.1)) z.3 in
      subst (λ x. Goes p t (on_enum x go)) (sym z.1)
      (g (EnumOf d.0 d.1) i.0 z.0 i.1 (subst (HasType p (over s.heap []) z.0) (type_held (EnumOf d.0 d.1) (Bits i.0) i.1) z.2)))

  enum_equals_fine : (c : Id) → OnlyEnums p t c → (vs : List Value) → HaveAll p cx vs (O (ClassOf c) ∷ O (Basic elem.Object) ∷ []) → Some (I ∷ types) ≡ Some us → Goes p t (enum_equals p s f fs next rest vs)
  unfolding enum_equals
  enum_equals_fine c only vs h e =
      top_have vs (O (ClassOf c)) (O (Basic elem.Object) ∷ []) _ h (λ v ws hv hw.
      top_have ws (O (Basic elem.Object)) [] _ hw (λ other none hother hnone.
      enum_goes c only v hv _ (λ type i value is hvalue.
      let b = equals_told type value other hother in
      some_goes p t (equals_box s.heap type value other) b.0 _ b.1 (gives (of_bool b.0) I e tt))))

  enum_to_string_fine : (c : Id) → OnlyEnums p t c → (vs : List Value) → HaveAll p cx vs (O (ClassOf c) ∷ []) → Some (string ∷ types) ≡ Some us → Goes p t (enum_to_string p s f fs next rest vs)
  unfolding enum_to_string
  enum_to_string_fine c only vs h e =
      top_have vs (O (ClassOf c)) [] _ h (λ v ws hv hw.
      enum_goes c only v hv _ (λ type i value is hvalue.
      let z = number_meant p (over s.heap []) i value hvalue in
      some_goes p t (number_text (cell_of type) value) (decimal_text z.0) _ (ap (λ o. number_text o value) is ∙ ap (option_map decimal_text) z.1) (text_given (decimal_text z.0) e)))

  -- ---- arrays

  array_length_fine : (c : Id) → OnlyArrays p t c → (vs : List Value) → HaveAll p cx vs (O (ClassOf c) ∷ []) → Some (I ∷ types) ≡ Some us → Goes p t (array_length p s f fs next rest vs)
  unfolding array_length
  array_length_fine c only vs h e =
      top_have vs (O (ClassOf c)) [] _ h (λ v ws hv hw.
      any_array_goes p t a s f fs m n fr NullReference c only v hv _ (λ object b xs y. gives (length_value (length xs)) I e tt))

  copy_fine : (object from : ℕ) (b c : CliType) (vs ws : List Value) → Array p t a s f fs m n fr from b vs → Array p t a s f fs m n fr object c ws → Some types ≡ Some us → (i j k : ℤ) → Goes p t (copy_elements p s f fs next rest object b vs c ws i j k)
  unfolding copy_elements
  copy_fine object from b c vs ws x y e i j k = by (type_eq b c) refl
    where
      within : (q : Bool) → (nat_lt (length vs) (unsigned_abs i + unsigned_abs k) || nat_lt (length ws) (unsigned_abs j + unsigned_abs k)) ≡ q → b ≡ c → Goes p t (if q then raise p s Argument else goes p (record s { heap = put_thing s.heap object (Elements c (spliced ws (unsigned_abs j) (piece (unsigned_abs i) (unsigned_abs k) vs))) }) f fs next rest)
      within true eq same = raise_fine p t a s f fs m n fr Argument
      within false eq same =
          let lv : unsigned_abs i + unsigned_abs k ≤ length vs = ltb-false (length vs) (unsigned_abs i + unsigned_abs k) (or_left (nat_lt (length vs) (unsigned_abs i + unsigned_abs k)) (nat_lt (length ws) (unsigned_abs j + unsigned_abs k)) eq) in
          let lw : unsigned_abs j + unsigned_abs k ≤ length ws = ltb-false (length ws) (unsigned_abs j + unsigned_abs k) (or_right (nat_lt (length vs) (unsigned_abs i + unsigned_abs k)) (nat_lt (length ws) (unsigned_abs j + unsigned_abs k)) eq) in
          let ys : List Value = piece (unsigned_abs i) (unsigned_abs k) vs in
          let long : length ys ≡ unsigned_abs k = piece_long vs (unsigned_abs i) (unsigned_abs k) lv in
          let ev = subst (λ z. Every p (over s.heap []) (of_type z) vs) same x.every in
          array_given object c ws (spliced ws (unsigned_abs j) (piece (unsigned_abs i) (unsigned_abs k) vs)) y (spliced_long ws ys (unsigned_abs j) (omega (arith, long, lw)))
          (every_append p (over s.heap []) (of_type c) (take (unsigned_abs j) ws) (ys ++ drop (unsigned_abs j + length ys) ws) (every_take p (over s.heap []) (of_type c) (unsigned_abs j) ws y.every)
          (every_append p (over s.heap []) (of_type c) ys (drop (unsigned_abs j + length ys) ws)
          (every_take p (over s.heap []) (of_type c) (unsigned_abs k) (drop (unsigned_abs i) vs) (every_drop p (over s.heap []) (of_type c) (unsigned_abs i) vs ev))
          (every_drop p (over s.heap []) (of_type c) (unsigned_abs j + length ys) ws y.every))) e

      by : (q : Bool) → type_eq b c ≡ q → Goes p t (if q then (if is_negative i || (is_negative j || is_negative k) then raise p s ArgumentOutOfRange else if nat_lt (length vs) (unsigned_abs i + unsigned_abs k) || nat_lt (length ws) (unsigned_abs j + unsigned_abs k) then raise p s Argument else goes p (record s { heap = put_thing s.heap object (Elements c (spliced ws (unsigned_abs j) (piece (unsigned_abs i) (unsigned_abs k) vs))) }) f fs next rest) else raise p s ArrayTypeMismatch)
      by false eq = raise_fine p t a s f fs m n fr ArrayTypeMismatch
      by true eq =
          if_goes p t (is_negative i || (is_negative j || is_negative k)) (raise p s ArgumentOutOfRange) _ (raise_fine p t a s f fs m n fr ArgumentOutOfRange)
          (within (nat_lt (length vs) (unsigned_abs i + unsigned_abs k) || nat_lt (length ws) (unsigned_abs j + unsigned_abs k)) refl (type_same b c eq))

  array_copy_fine : (c : Id) → OnlyArrays p t c → (vs : List Value) → HaveAll p cx vs (O (ClassOf c) ∷ I ∷ O (ClassOf c) ∷ I ∷ I ∷ []) → Some types ≡ Some us → Goes p t (array_copy p s f fs next rest vs)
  unfolding array_copy
  array_copy_fine c only vs h e =
      top_have vs (O (ClassOf c)) (I ∷ O (ClassOf c) ∷ I ∷ I ∷ []) _ h (λ source v1 hsource h1.
      top_have v1 I (O (ClassOf c) ∷ I ∷ I ∷ []) _ h1 (λ i v2 hi h2.
      top_have v2 (O (ClassOf c)) (I ∷ I ∷ []) _ h2 (λ destination v3 hdestination h3.
      top_have v3 I (I ∷ []) _ h3 (λ j v4 hj h4.
      top_have v4 I [] _ h4 (λ k v5 hk h5.
      int_goes i hi _ (λ i.
      int_goes j hj _ (λ j.
      int_goes k hk _ (λ k.
      array_goes source hsource _ (array_goes destination hdestination _ (
      thing_goes p t a s f fs m n ArgumentNull fr source (ClassOf c) hsource _ (λ from own x below.
      thing_goes p t a s f fs m n ArgumentNull fr destination (ClassOf c) hdestination _ (λ object own' y below'.
      let xs = elements_of from own x (only own x.made below) in
      let ys = elements_of object own' y (only own' y.made below') in
      subst (λ z. Goes p t (on_elements z (λ b vs. on_elements y.thing (λ c ws. copy_elements p s f fs next rest object b vs c ws i j k)))) (sym xs.2)
      (subst (λ z. Goes p t (on_elements z (λ c ws. copy_elements p s f fs next rest object xs.0 xs.1 c ws i j k))) (sym ys.2)
      (copy_fine object from xs.0 ys.0 xs.1 ys.1 xs.3 ys.3 e i j k))))))))))))))
    where
      elements_of : (object : ℕ) (own : CliType) (x : There p t a s.heap object own) → is_array own ≡ true → (b : CliType) × (vs : List Value) × (x.thing ≡ Elements b vs) × Array p t a s f fs m n fr object b vs
      elements_of object own x h =
          let b = array_type p t own h in
          let y = elements_there p t (over s.heap []) x.thing x.fits b.0 (x.type ∙ ap Some b.1) in
          (b.0, y.0, y.1, record { at = x.at ∙ ap Some y.1; every = y.2; plain = y.3; made = y.4 })

      array_goes : (v : Value) → HasType p cx v (O (ClassOf c)) → (o : Option State) → Goes p t o → Goes p t (on_array_or_null s.heap v o)
      array_goes (Object i) h o g =
          let y = there_at p t a s.heap n.stored.heap i h.own h.at in
          let xs = elements_of i h.own y (only h.own y.made h.below) in
          some_goes p t (thing_at s.heap i) y.thing _ y.at (subst (λ z. Goes p t (on_elements z (λ element values. o))) (sym xs.2) g)
      array_goes Null h o g = g
      array_goes (Int i) h o g = absurd h
      array_goes (Long i) h o g = absurd h
      array_goes (Handle i) h o g = absurd h
      array_goes (Pointer i x) h o g = absurd h

  initialise_fine : (object : ℕ) (b : CliType) (vs : List Value) (bytes : List ℕ) → Array p t a s f fs m n fr object b vs → Some types ≡ Some us → (c : Cell) → cell_of b ≡ Some c → Goes p t (initialise p s f fs next rest object b vs bytes c)
  initialise_fine object b vs bytes y e Refers ec = raise_fine p t a s f fs m n fr Argument
  initialise_fine object b vs bytes y e (Bits i) ec =
      if_goes p t (nat_lt (length bytes) (length vs * bytes_of i)) (raise p s Argument) _ (raise_fine p t a s f fs m n fr Argument)
      (array_given object b vs (numbers_of i (length vs) bytes) y (numbers_long i (length vs) bytes)
      (subst (λ u. Every p (over s.heap []) u (numbers_of i (length vs) bytes)) (sym (type_held b (Bits i) ec)) (numbers_every p (over s.heap []) i (length vs) bytes)) e)

  handle_told : (v : Value) → HasType p cx v H → (field : Id) × (as_handle v ≡ Some field) × ((bytes : List ℕ) × (p.bytes field ≡ Some bytes))
  handle_told (Handle g) h = (g, refl, h)
  handle_told (Int i) h = absurd h
  handle_told (Long i) h = absurd h
  handle_told Null h = absurd h
  handle_told (Object i) h = absurd h
  handle_told (Pointer c x) h = absurd h

  initialize_array_fine : (c : Id) → OnlyArrays p t c → (vs : List Value) → HaveAll p cx vs (O (ClassOf c) ∷ H ∷ []) → Some types ≡ Some us → Goes p t (initialize_array p s f fs next rest vs)
  unfolding initialize_array
  initialize_array_fine c only vs h e =
      top_have vs (O (ClassOf c)) (H ∷ []) _ h (λ v v1 hv h1.
      top_have v1 H [] _ h1 (λ handle v2 hhandle h2.
      let g = handle_told handle hhandle in
      some_goes p t (as_handle handle) g.0 _ g.1
      (some_goes p t (p.bytes g.0) g.2.0 _ g.2.1
      (any_array_goes p t a s f fs m n fr NullReference c only v hv _ (λ object b xs y.
      let d = plain_cell b y.plain in
      some_goes p t (cell_of b) d.0 _ d.1 (initialise_fine object b xs g.2.0 y e d.0 d.1))))))

  -- ---- strings

  string_length_fine : (vs : List Value) → HaveAll p cx vs (string ∷ []) → Some (I ∷ types) ≡ Some us → Goes p t (string_length p s f fs next rest vs)
  unfolding string_length
  string_length_fine vs h e =
      top_have vs string [] _ h (λ v ws hv hw. string_goes v hv _ (λ units. gives (length_value (length units)) I e tt))

  string_chars_fine : (vs : List Value) → HaveAll p cx vs (string ∷ I ∷ []) → Some (I ∷ types) ≡ Some us → Goes p t (string_chars p s f fs next rest vs)
  unfolding string_chars
  string_chars_fine vs h e =
      top_have vs string (I ∷ []) _ h (λ v v1 hv h1.
      top_have v1 I [] _ h1 (λ index v2 hindex h2.
      int_goes index hindex _ (λ i.
      string_goes v hv _ (λ units.
      if_goes p t (is_negative i) (raise p s IndexOutOfRange) _ (raise_fine p t a s f fs m n fr IndexOutOfRange)
      (or_raise_fine p t a s f fs m n IndexOutOfRange (slice_get units (index_of i)) _ fr (λ u eu. gives (Int (pos u)) I e tt))))))

  string_concat_fine : (vs : List Value) → HaveAll p cx vs (string ∷ string ∷ []) → Some (string ∷ types) ≡ Some us → Goes p t (string_concat p s f fs next rest vs)
  unfolding string_concat
  string_concat_fine vs h e =
      top_have vs string (string ∷ []) _ h (λ v v1 hv h1.
      top_have v1 string [] _ h1 (λ w v2 hw h2.
      text_goes v hv _ (λ x. text_goes w hw _ (λ y. text_given (or_empty x ++ or_empty y) e))))

  string_substring_fine : (vs : List Value) → HaveAll p cx vs (string ∷ I ∷ I ∷ []) → Some (string ∷ types) ≡ Some us → Goes p t (string_substring p s f fs next rest vs)
  unfolding string_substring
  string_substring_fine vs h e =
      top_have vs string (I ∷ I ∷ []) _ h (λ v v1 hv h1.
      top_have v1 I (I ∷ []) _ h1 (λ start v2 hstart h2.
      top_have v2 I [] _ h2 (λ count v3 hcount h3.
      int_goes start hstart _ (λ i.
      int_goes count hcount _ (λ k.
      string_goes v hv _ (λ units.
      if_goes p t (is_range (length units) i k) (new_text p s f fs next rest (piece (unsigned_abs i) (unsigned_abs k) units)) (raise p s ArgumentOutOfRange) (text_given (piece (unsigned_abs i) (unsigned_abs k) units) e) (raise_fine p t a s f fs m n fr ArgumentOutOfRange)))))))

  string_equals_fine : (vs : List Value) → HaveAll p cx vs (string ∷ string ∷ []) → Some (I ∷ types) ≡ Some us → Goes p t (string_equals p s f fs next rest vs)
  unfolding string_equals
  string_equals_fine vs h e =
      top_have vs string (string ∷ []) _ h (λ v v1 hv h1.
      top_have v1 string [] _ h1 (λ w v2 hw h2.
      text_goes v hv _ (λ x. text_goes w hw _ (λ y. gives (of_bool (texts_equal x y)) I e tt))))

  string_compare_fine : (vs : List Value) → HaveAll p cx vs (string ∷ string ∷ []) → Some (I ∷ types) ≡ Some us → Goes p t (string_compare p s f fs next rest vs)
  unfolding string_compare
  string_compare_fine vs h e =
      top_have vs string (string ∷ []) _ h (λ v v1 hv h1.
      top_have v1 string [] _ h1 (λ w v2 hw h2.
      text_goes v hv _ (λ x. text_goes w hw _ (λ y. gives (Int (texts_compared x y)) I e tt))))

  string_from_chars_fine : (vs : List Value) → HaveAll p cx vs (O (ArrayOf (Basic elem.Char)) ∷ I ∷ I ∷ []) → Some (string ∷ types) ≡ Some us → Goes p t (string_from_chars p s f fs next rest vs)
  unfolding string_from_chars
  string_from_chars_fine vs h e =
      top_have vs (O (ArrayOf (Basic elem.Char))) (I ∷ I ∷ []) _ h (λ v v1 hv h1.
      top_have v1 I (I ∷ []) _ h1 (λ start v2 hstart h2.
      top_have v2 I [] _ h2 (λ count v3 hcount h3.
      int_goes start hstart _ (λ i.
      int_goes count hcount _ (λ k.
      array_goes p t a s f fs m n fr ArgumentNull v (O (ArrayOf (Basic elem.Char))) hv (ArrayWith (Basic elem.Char)) refl _ (λ object b xs y z.
      cell_goes p t b (Bits U2) (elements_width p b (Basic elem.Char) (Bits U2) z.0 refl) _ (λ c ec sc.
      if_goes p t (is_range (length xs) i k) (new_text p s f fs next rest (map unit_of (piece (unsigned_abs i) (unsigned_abs k) xs))) (raise p s ArgumentOutOfRange) (text_given (map unit_of (piece (unsigned_abs i) (unsigned_abs k) xs)) e) (raise_fine p t a s f fs m n fr ArgumentOutOfRange))))))))

  string_from_char_fine : (vs : List Value) → HaveAll p cx vs (I ∷ []) → Some (string ∷ types) ≡ Some us → Goes p t (string_from_char p s f fs next rest vs)
  unfolding string_from_char
  string_from_char_fine vs h e = top_have vs I [] _ h (λ v ws hv hw. int_goes v hv _ (λ i. text_given (unit_of (Int i) ∷ []) e))

  number_signed_fine : (vs : List Value) → HaveAll p cx vs (L ∷ []) → Some (string ∷ types) ≡ Some us → Goes p t (number_signed p s f fs next rest vs)
  unfolding number_signed
  number_signed_fine vs h e = top_have vs L [] _ h (λ v ws hv hw. long_goes v hv _ (λ i. text_given (decimal_text i) e))

  number_unsigned_fine : (vs : List Value) → HaveAll p cx vs (L ∷ []) → Some (string ∷ types) ≡ Some us → Goes p t (number_unsigned p s f fs next rest vs)
  unfolding number_unsigned
  number_unsigned_fine vs h e = top_have vs L [] _ h (λ v ws hv hw. long_goes v hv _ (λ i. text_given (decimal (cast_unsigned w64 i)) e))

  debug_print_fine : (vs : List Value) → HaveAll p cx vs (string ∷ []) → Some types ≡ Some us → Goes p t (debug_print p s f fs next rest vs)
  unfolding debug_print
  debug_print_fine vs h e =
      top_have vs string [] _ h (λ v ws hv hw.
      text_goes v hv _ (λ x.
      leads_fine p t a (record s { output = s.output ++ printed (or_empty x) }) f fs m
      (record {
        stored = record { heap = n.stored.heap; statics = n.stored.statics; literals = n.stored.literals; going = n.stored.going };
        base = n.base;
        slots = n.slots;
        callers = n.callers;
      }) next rest types us l e hrest))

  -- ---- each native, by its signature

  pub native_fine : (c : Method) → Some (with_type c.returns types) ≡ Some us → (name : NativeName) → NativeFits p t c name → (vs : List Value) → HaveAll p cx vs (map loaded c.arguments) → Goes p t (native p s f fs next rest name vs)
  native_fine c e name x vs h = by name x
    where
      takes : (ks : List PlaceType) → c.arguments ≡ ks → HaveAll p cx vs (map loaded ks)
      takes ks same = subst (λ z. HaveAll p cx vs (map loaded z)) same h

      makes : (r : Option PlaceType) → c.returns ≡ r → Some (with_type r types) ≡ Some us
      makes r same = subst (λ z. Some (with_type z types) ≡ Some us) same e

      by : (name : NativeName) → NativeFits p t c name → Goes p t (native p s f fs next rest name vs)
      by ObjectToString x = object_to_string_fine vs (takes _ x.0) (makes _ x.1)
      by EnumEquals x = enum_equals_fine x.0 x.1 vs (takes _ x.2.0) (makes _ x.2.1)
      by EnumToString x = enum_to_string_fine x.0 x.1 vs (takes _ x.2.0) (makes _ x.2.1)
      by ArrayLength x = array_length_fine x.0 x.1 vs (takes _ x.2.0) (makes _ x.2.1)
      by ArrayCopy x = array_copy_fine x.0 x.1 vs (takes _ x.2.0) (makes _ x.2.1)
      by StringLength x = string_length_fine vs (takes _ x.0) (makes _ x.1)
      by StringChars x = string_chars_fine vs (takes _ x.0) (makes _ x.1)
      by StringConcat x = string_concat_fine vs (takes _ x.0) (makes _ x.1)
      by StringSubstring x = string_substring_fine vs (takes _ x.0) (makes _ x.1)
      by StringEquals x = string_equals_fine vs (takes _ x.0) (makes _ x.1)
      by StringCompare x = string_compare_fine vs (takes _ x.0) (makes _ x.1)
      by StringFromChars x = string_from_chars_fine vs (takes _ x.0) (makes _ x.1)
      by StringFromChar x = string_from_char_fine vs (takes _ x.0) (makes _ x.1)
      by NumberSigned x = number_signed_fine vs (takes _ x.0) (makes _ x.1)
      by NumberUnsigned x = number_unsigned_fine vs (takes _ x.0) (makes _ x.1)
      by InitializeArray x = initialize_array_fine x.0 x.2 vs (takes _ x.3.0) (makes _ x.3.1)
      by DebugPrint x = debug_print_fine vs (takes _ x.0) (makes _ x.1)
