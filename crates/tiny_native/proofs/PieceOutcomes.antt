-- What the machine's natives that make strings make of their arguments.
use Rattle.std.proofs.Common.{◌≡◌, ℕ, Bool, true, false, List, ◌∷◌, ◌++◌, length, map, Option, Some, None, refl, ap, ◌∙◌}
use Rattle.std.specs.Prelude.{ℤ, unsigned_abs, if◌then◌else◌}
use Rattle.cil_opcodes.specs.declared.shape.IntegerType.TheVariants.{U2}
use Rattle.board_types.specs.declared.board.Known.TheVariants.{NullReference, ArgumentNull, ArgumentOutOfRange}
use Rattle.machine.specs.Data.{CliType, cell_of, Cell, Bits, thing_at, Value, Int, Null, Object, Thing, Text, Elements, Frame, State}
use Rattle.machine.specs.Program.{Program}
use Rattle.machine.specs.Numbers.{as_int, same_width}
use Rattle.machine.specs.Throw.{on_some, raise}
use Rattle.machine.specs.Rows.{on_thing_or, on_elements, on_cell}
use Rattle.machine.specs.Natives.{units_of, unit_of, text_at, or_empty, is_range, piece, on_string, new_text, string_concat, string_substring, string_from_chars}
use Rattle.tiny_native.specs.Copies.{Lacks, is_wide}
use Rattle.tiny_native.proofs.ThingKinds.{string_lacks, array_lacks}

module _ (p : Program) (s : State) (f : Frame) (fs : List Frame) (next : ℕ) (rest more : List Value) where
  pub concat_texts : (v w : Value) (x y : Option (List ℕ)) → text_at s.heap v ≡ Some x → text_at s.heap w ≡ Some y → string_concat p s f fs next rest (v ∷ w ∷ more) ≡ new_text p s f fs next rest (or_empty x ++ or_empty y)
  unfolding string_concat
  concat_texts v w x y e g =
      ap (λ (o : Option (Option (List ℕ))). on_some o (λ a. on_some (text_at s.heap w) (λ b. new_text p s f fs next rest (or_empty a ++ or_empty b)))) e
      ∙ ap (λ (o : Option (Option (List ℕ))). on_some o (λ b. new_text p s f fs next rest (or_empty x ++ or_empty b))) g

  pub concat_first : (v w : Value) → text_at s.heap v ≡ None → string_concat p s f fs next rest (v ∷ w ∷ more) ≡ None
  unfolding string_concat
  concat_first v w e = ap (λ (o : Option (Option (List ℕ))). on_some o (λ a. on_some (text_at s.heap w) (λ b. new_text p s f fs next rest (or_empty a ++ or_empty b)))) e

  pub concat_second : (v w : Value) (x : Option (List ℕ)) → text_at s.heap v ≡ Some x → text_at s.heap w ≡ None → string_concat p s f fs next rest (v ∷ w ∷ more) ≡ None
  unfolding string_concat
  concat_second v w x e g =
      ap (λ (o : Option (Option (List ℕ))). on_some o (λ a. on_some (text_at s.heap w) (λ b. new_text p s f fs next rest (or_empty a ++ or_empty b)))) e
      ∙ ap (λ (o : Option (Option (List ℕ))). on_some o (λ b. new_text p s f fs next rest (or_empty x ++ or_empty b))) g

  abbrev pub part_at : ℤ → ℤ → List ℕ → Option State
  part_at i n us = if is_range (length us) i n then new_text p s f fs next rest (piece (unsigned_abs i) (unsigned_abs n) us) else raise p s ArgumentOutOfRange

  pub substring_null : (i n : ℤ) → string_substring p s f fs next rest (Null ∷ Int i ∷ Int n ∷ more) ≡ raise p s NullReference
  unfolding string_substring
  substring_null i n = refl

  pub substring_text : (i n : ℤ) (k : ℕ) (units : List ℕ) → thing_at s.heap k ≡ Some (Text units) → string_substring p s f fs next rest (Object k ∷ Int i ∷ Int n ∷ more) ≡ part_at i n units
  unfolding string_substring
  substring_text i n k units e = ap (λ (o : Option Thing). on_some o (λ x. on_some (units_of x) (part_at i n))) e

  pub substring_lacks : (i n : ℤ) (v : Value) → Lacks 2 s.heap v → string_substring p s f fs next rest (v ∷ Int i ∷ Int n ∷ more) ≡ None
  unfolding string_substring
  substring_lacks i n v h = string_lacks p s v (part_at i n) h

  pub substring_no_start : (v a b : Value) → as_int a ≡ None → string_substring p s f fs next rest (v ∷ a ∷ b ∷ more) ≡ None
  unfolding string_substring
  substring_no_start v a b e = ap (λ (o : Option ℤ). on_some o (λ i. on_some (as_int b) (λ n. on_string p s v (part_at i n)))) e

  pub substring_no_count : (v : Value) (i : ℤ) (b : Value) → as_int b ≡ None → string_substring p s f fs next rest (v ∷ Int i ∷ b ∷ more) ≡ None
  unfolding string_substring
  substring_no_count v i b e = ap (λ (o : Option ℤ). on_some o (λ n. on_string p s v (part_at i n))) e

  abbrev pub chars_at : ℤ → ℤ → CliType → List Value → Option State
  chars_at i n element values = on_cell element (Bits U2) (λ cell. if is_range (length values) i n then new_text p s f fs next rest (map unit_of (piece (unsigned_abs i) (unsigned_abs n) values)) else raise p s ArgumentOutOfRange)

  pub from_chars_null : (i n : ℤ) → string_from_chars p s f fs next rest (Null ∷ Int i ∷ Int n ∷ more) ≡ raise p s ArgumentNull
  unfolding string_from_chars
  from_chars_null i n = refl

  pub from_chars_array : (i n : ℤ) (k : ℕ) (element : CliType) (values : List Value) → thing_at s.heap k ≡ Some (Elements element values) → string_from_chars p s f fs next rest (Object k ∷ Int i ∷ Int n ∷ more) ≡ chars_at i n element values
  unfolding string_from_chars
  from_chars_array i n k element values e = ap (λ (o : Option Thing). on_some o (λ x. on_elements x (chars_at i n))) e

  pub from_chars_lacks : (i n : ℤ) (v : Value) → Lacks 1 s.heap v → string_from_chars p s f fs next rest (v ∷ Int i ∷ Int n ∷ more) ≡ None
  unfolding string_from_chars
  from_chars_lacks i n v h = array_lacks p s ArgumentNull v (λ k. chars_at i n) h

  pub from_chars_no_start : (v a b : Value) → as_int a ≡ None → string_from_chars p s f fs next rest (v ∷ a ∷ b ∷ more) ≡ None
  unfolding string_from_chars
  from_chars_no_start v a b e = ap (λ (o : Option ℤ). on_some o (λ i. on_some (as_int b) (λ n. on_thing_or p s ArgumentNull v (λ k x. on_elements x (chars_at i n))))) e

  pub from_chars_no_count : (v : Value) (i : ℤ) (b : Value) → as_int b ≡ None → string_from_chars p s f fs next rest (v ∷ Int i ∷ b ∷ more) ≡ None
  unfolding string_from_chars
  from_chars_no_count v i b e = ap (λ (o : Option ℤ). on_some o (λ n. on_thing_or p s ArgumentNull v (λ k x. on_elements x (chars_at i n)))) e

-- elements as wide as chars, and others
pub wide_cell : (element : CliType) (cell : Cell) (go : Cell → Option State) → cell_of element ≡ Some cell → is_wide (Some cell) ≡ true → on_cell element (Bits U2) go ≡ go cell
wide_cell element cell go e w =
    ap (λ (o : Option Cell). on_some o (λ k. if same_width k (Bits U2) then go k else None)) e
    ∙ ap (λ (b : Bool). if b then go cell else None) w

pub other_cell : (element : CliType) (cell : Cell) (go : Cell → Option State) → cell_of element ≡ Some cell → is_wide (Some cell) ≡ false → on_cell element (Bits U2) go ≡ None
other_cell element cell go e w =
    ap (λ (o : Option Cell). on_some o (λ k. if same_width k (Bits U2) then go k else None)) e
    ∙ ap (λ (b : Bool). if b then go cell else None) w
