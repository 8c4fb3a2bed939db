-- What the machine's natives make of their arguments.
use Rattle.std.proofs.Common.{◌≡◌, ℕ, List, ◌∷◌, ◌++◌, length, Option, Some, None, refl, ap, ◌∙◌}
use Rattle.std.specs.Prelude.{ℤ, pos, slice_get, if◌then◌else◌}
use Rattle.board_types.specs.declared.board.Known.TheVariants.{NullReference, IndexOutOfRange}
use Rattle.machine.specs.Data.{thing_at, Value, Int, Null, Object, Thing, Text, Frame, State}
use Rattle.machine.specs.Program.{Program}
use Rattle.machine.specs.Numbers.{is_negative, of_bool, as_int}
use Rattle.machine.specs.Texts.{printed}
use Rattle.machine.specs.Throw.{on_some, goes, raise}
use Rattle.machine.specs.Rows.{on_thing, or_raise, length_value, index_of}
use Rattle.machine.specs.Natives.{units_of, text_at, or_empty, texts_equal, texts_compared, string_length, string_chars, string_equals, string_compare, debug_print}
use Rattle.tiny_native.specs.Copies.{Lacks}
use Rattle.tiny_native.proofs.ThingKinds.{string_lacks}

abbrev pub char_of : Program → State → Frame → List Frame → ℕ → List Value → ℤ → List ℕ → Option State
char_of p s f fs next rest i us = if is_negative i then raise p s IndexOutOfRange else or_raise p s IndexOutOfRange (slice_get us (index_of i)) (λ u. goes p s f fs next (Int (pos u) ∷ rest))

module _ (p : Program) (s : State) (f : Frame) (fs : List Frame) (next : ℕ) (rest more : List Value) where
  pub length_null : string_length p s f fs next rest (Null ∷ more) ≡ raise p s NullReference
  unfolding string_length
  length_null = refl

  pub length_text : (n : ℕ) (units : List ℕ) → thing_at s.heap n ≡ Some (Text units) → string_length p s f fs next rest (Object n ∷ more) ≡ goes p s f fs next (length_value (length units) ∷ rest)
  unfolding string_length
  length_text n units e = ap (λ (o : Option Thing). on_some o (λ x. on_some (units_of x) (λ us. goes p s f fs next (length_value (length us) ∷ rest)))) e

  pub length_lacks : (v : Value) → Lacks 2 s.heap v → string_length p s f fs next rest (v ∷ more) ≡ None
  unfolding string_length
  length_lacks v h = string_lacks p s v (λ us. goes p s f fs next (length_value (length us) ∷ rest)) h

  pub chars_null : (i : ℤ) → string_chars p s f fs next rest (Null ∷ Int i ∷ more) ≡ raise p s NullReference
  unfolding string_chars
  chars_null i = refl

  pub chars_text : (i : ℤ) (n : ℕ) (units : List ℕ) → thing_at s.heap n ≡ Some (Text units) → string_chars p s f fs next rest (Object n ∷ Int i ∷ more) ≡ char_of p s f fs next rest i units
  unfolding string_chars
  chars_text i n units e = ap (λ (o : Option Thing). on_some o (λ x. on_some (units_of x) (char_of p s f fs next rest i))) e

  pub chars_lacks : (i : ℤ) (v : Value) → Lacks 2 s.heap v → string_chars p s f fs next rest (v ∷ Int i ∷ more) ≡ None
  unfolding string_chars
  chars_lacks i v h = string_lacks p s v (char_of p s f fs next rest i) h

  pub chars_no_index : (v w : Value) → as_int w ≡ None → string_chars p s f fs next rest (v ∷ w ∷ more) ≡ None
  unfolding string_chars
  chars_no_index v w e = ap (λ (o : Option ℤ). on_some o (λ i. on_thing p s v (λ n x. on_some (units_of x) (char_of p s f fs next rest i)))) e

  pub equals_texts : (v w : Value) (x y : Option (List ℕ)) → text_at s.heap v ≡ Some x → text_at s.heap w ≡ Some y → string_equals p s f fs next rest (v ∷ w ∷ more) ≡ goes p s f fs next (of_bool (texts_equal x y) ∷ rest)
  unfolding string_equals
  equals_texts v w x y e g =
      ap (λ (o : Option (Option (List ℕ))). on_some o (λ a. on_some (text_at s.heap w) (λ b. goes p s f fs next (of_bool (texts_equal a b) ∷ rest)))) e
      ∙ ap (λ (o : Option (Option (List ℕ))). on_some o (λ b. goes p s f fs next (of_bool (texts_equal x b) ∷ rest))) g

  pub equals_first : (v w : Value) → text_at s.heap v ≡ None → string_equals p s f fs next rest (v ∷ w ∷ more) ≡ None
  unfolding string_equals
  equals_first v w e = ap (λ (o : Option (Option (List ℕ))). on_some o (λ a. on_some (text_at s.heap w) (λ b. goes p s f fs next (of_bool (texts_equal a b) ∷ rest)))) e

  pub equals_second : (v w : Value) (x : Option (List ℕ)) → text_at s.heap v ≡ Some x → text_at s.heap w ≡ None → string_equals p s f fs next rest (v ∷ w ∷ more) ≡ None
  unfolding string_equals
  equals_second v w x e g =
      ap (λ (o : Option (Option (List ℕ))). on_some o (λ a. on_some (text_at s.heap w) (λ b. goes p s f fs next (of_bool (texts_equal a b) ∷ rest)))) e
      ∙ ap (λ (o : Option (Option (List ℕ))). on_some o (λ b. goes p s f fs next (of_bool (texts_equal x b) ∷ rest))) g

  pub compare_texts : (v w : Value) (x y : Option (List ℕ)) → text_at s.heap v ≡ Some x → text_at s.heap w ≡ Some y → string_compare p s f fs next rest (v ∷ w ∷ more) ≡ goes p s f fs next (Int (texts_compared x y) ∷ rest)
  unfolding string_compare
  compare_texts v w x y e g =
      ap (λ (o : Option (Option (List ℕ))). on_some o (λ a. on_some (text_at s.heap w) (λ b. goes p s f fs next (Int (texts_compared a b) ∷ rest)))) e
      ∙ ap (λ (o : Option (Option (List ℕ))). on_some o (λ b. goes p s f fs next (Int (texts_compared x b) ∷ rest))) g

  pub compare_first : (v w : Value) → text_at s.heap v ≡ None → string_compare p s f fs next rest (v ∷ w ∷ more) ≡ None
  unfolding string_compare
  compare_first v w e = ap (λ (o : Option (Option (List ℕ))). on_some o (λ a. on_some (text_at s.heap w) (λ b. goes p s f fs next (Int (texts_compared a b) ∷ rest)))) e

  pub compare_second : (v w : Value) (x : Option (List ℕ)) → text_at s.heap v ≡ Some x → text_at s.heap w ≡ None → string_compare p s f fs next rest (v ∷ w ∷ more) ≡ None
  unfolding string_compare
  compare_second v w x e g =
      ap (λ (o : Option (Option (List ℕ))). on_some o (λ a. on_some (text_at s.heap w) (λ b. goes p s f fs next (Int (texts_compared a b) ∷ rest)))) e
      ∙ ap (λ (o : Option (Option (List ℕ))). on_some o (λ b. goes p s f fs next (Int (texts_compared x b) ∷ rest))) g

  pub print_text : (v : Value) (x : Option (List ℕ)) → text_at s.heap v ≡ Some x → debug_print p s f fs next rest (v ∷ more) ≡ goes p (record s { output = s.output ++ printed (or_empty x) }) f fs next rest
  unfolding debug_print
  print_text v x e = ap (λ (o : Option (Option (List ℕ))). on_some o (λ t. goes p (record s { output = s.output ++ printed (or_empty t) }) f fs next rest)) e

  pub print_none : (v : Value) → text_at s.heap v ≡ None → debug_print p s f fs next rest (v ∷ more) ≡ None
  unfolding debug_print
  print_none v e = ap (λ (o : Option (Option (List ℕ))). on_some o (λ t. goes p (record s { output = s.output ++ printed (or_empty t) }) f fs next rest)) e
