-- What the machine's copy of elements makes of its arguments.
use Rattle.std.proofs.Common.{◌≡◌, ℕ, ◌+◌, Bool, true, false, List, ◌∷◌, length, Option, Some, None, refl, ap, ◌∙◌}
use Rattle.std.specs.Prelude.{ℤ, unsigned_abs, nat_lt, if◌then◌else◌, ◌||◌}
use Rattle.board_types.specs.declared.board.Known.TheVariants.{Argument, ArgumentNull, ArgumentOutOfRange, ArrayTypeMismatch}
use Rattle.machine.specs.Data.{CliType, type_eq, thing_at, put_thing, Value, Int, Null, Object, Thing, Elements, Frame, State}
use Rattle.machine.specs.Program.{Program}
use Rattle.machine.specs.Numbers.{is_negative, as_int}
use Rattle.machine.specs.Throw.{on_some, goes, raise}
use Rattle.machine.specs.Rows.{on_thing_or, on_elements}
use Rattle.machine.specs.Natives.{piece, spliced, on_array_or_null, copy_elements, array_copy}
use Rattle.tiny_native.specs.Copies.{Lacks}
use Rattle.tiny_native.proofs.ThingKinds.{array_or_null_lacks}

module _ (p : Program) (s : State) (f : Frame) (fs : List Frame) (next : ℕ) (rest more : List Value) where
  -- what is done once the source is known
  abbrev pub onto : CliType → List Value → Value → ℤ → ℤ → ℤ → Option State
  onto from vs target i j n =
      on_array_or_null s.heap target (
      on_thing_or p s ArgumentNull target (λ b y.
      on_elements y (λ to ws. copy_elements p s f fs next rest b from vs to ws i j n)))

  abbrev whole : Value → Value → ℤ → ℤ → ℤ → Option State
  whole source target i j n =
      on_array_or_null s.heap source (on_array_or_null s.heap target (
      on_thing_or p s ArgumentNull source (λ a x.
      on_thing_or p s ArgumentNull target (λ b y.
      on_elements x (λ from vs.
      on_elements y (λ to ws. copy_elements p s f fs next rest b from vs to ws i j n))))))

  pub copy_array : (k : ℕ) (from : CliType) (vs : List Value) (target : Value) (i j n : ℤ) → thing_at s.heap k ≡ Some (Elements from vs) → array_copy p s f fs next rest (Object k ∷ Int i ∷ target ∷ Int j ∷ Int n ∷ more) ≡ onto from vs target i j n
  unfolding array_copy
  copy_array k from vs target i j n e =
      ap (λ (o : Option Thing). on_some o (λ x. on_elements x (λ element values. on_array_or_null s.heap target (
      on_thing_or p s ArgumentNull (Object k) (λ a x.
      on_thing_or p s ArgumentNull target (λ b y.
      on_elements x (λ from vs.
      on_elements y (λ to ws. copy_elements p s f fs next rest b from vs to ws i j n)))))))) e
      ∙ ap (λ (o : Option Thing). on_array_or_null s.heap target (on_some o (λ x.
      on_thing_or p s ArgumentNull target (λ b y.
      on_elements x (λ from vs.
      on_elements y (λ to ws. copy_elements p s f fs next rest b from vs to ws i j n)))))) e

  pub copy_null : (target : Value) (i j n : ℤ) → array_copy p s f fs next rest (Null ∷ Int i ∷ target ∷ Int j ∷ Int n ∷ more) ≡ on_array_or_null s.heap target (raise p s ArgumentNull)
  unfolding array_copy
  copy_null target i j n = refl

  pub copy_lacks : (source target : Value) (i j n : ℤ) → Lacks 1 s.heap source → array_copy p s f fs next rest (source ∷ Int i ∷ target ∷ Int j ∷ Int n ∷ more) ≡ None
  unfolding array_copy
  copy_lacks source target i j n h = array_or_null_lacks s.heap source _ h

  pub copy_no_from : (source a target b d : Value) → as_int a ≡ None → array_copy p s f fs next rest (source ∷ a ∷ target ∷ b ∷ d ∷ more) ≡ None
  unfolding array_copy
  copy_no_from source a target b d e = ap (λ (o : Option ℤ). on_some o (λ i. on_some (as_int b) (λ j. on_some (as_int d) (λ n. whole source target i j n)))) e

  pub copy_no_to : (source : Value) (i : ℤ) (target b d : Value) → as_int b ≡ None → array_copy p s f fs next rest (source ∷ Int i ∷ target ∷ b ∷ d ∷ more) ≡ None
  unfolding array_copy
  copy_no_to source i target b d e = ap (λ (o : Option ℤ). on_some o (λ j. on_some (as_int d) (λ n. whole source target i j n))) e

  pub copy_no_count : (source : Value) (i : ℤ) (target : Value) (j : ℤ) (d : Value) → as_int d ≡ None → array_copy p s f fs next rest (source ∷ Int i ∷ target ∷ Int j ∷ d ∷ more) ≡ None
  unfolding array_copy
  copy_no_count source i target j d e = ap (λ (o : Option ℤ). on_some o (λ n. whole source target i j n)) e

  -- ---- into what a value names

  pub onto_null : (from : CliType) (vs : List Value) (i j n : ℤ) → onto from vs Null i j n ≡ raise p s ArgumentNull
  onto_null from vs i j n = refl

  pub onto_array : (k : ℕ) (from to : CliType) (vs ws : List Value) (i j n : ℤ) → thing_at s.heap k ≡ Some (Elements to ws) → onto from vs (Object k) i j n ≡ copy_elements p s f fs next rest k from vs to ws i j n
  onto_array k from to vs ws i j n e =
      ap (λ (o : Option Thing). on_some o (λ x. on_elements x (λ element values. on_thing_or p s ArgumentNull (Object k) (λ b y. on_elements y (λ to ws. copy_elements p s f fs next rest b from vs to ws i j n))))) e
      ∙ ap (λ (o : Option Thing). on_some o (λ y. on_elements y (λ to ws. copy_elements p s f fs next rest k from vs to ws i j n))) e

  pub onto_lacks : (from : CliType) (vs : List Value) (target : Value) (i j n : ℤ) → Lacks 1 s.heap target → onto from vs target i j n ≡ None
  onto_lacks from vs target i j n h = array_or_null_lacks s.heap target _ h

  -- ---- elements

  abbrev pub within : ℕ → CliType → List Value → List Value → ℤ → ℤ → ℤ → Option State
  within object to vs ws i j n =
      if nat_lt (length vs) (unsigned_abs i + unsigned_abs n) || nat_lt (length ws) (unsigned_abs j + unsigned_abs n) then raise p s Argument
      else goes p (record s { heap = put_thing s.heap object (Elements to (spliced ws (unsigned_abs j) (piece (unsigned_abs i) (unsigned_abs n) vs))) }) f fs next rest

  pub copy_types : (object : ℕ) (from to : CliType) (vs ws : List Value) (i j n : ℤ) → type_eq from to ≡ false → copy_elements p s f fs next rest object from vs to ws i j n ≡ raise p s ArrayTypeMismatch
  unfolding copy_elements
  copy_types object from to vs ws i j n e = ap (λ (b : Bool). if b then (if is_negative i || (is_negative j || is_negative n) then raise p s ArgumentOutOfRange else within object to vs ws i j n) else raise p s ArrayTypeMismatch) e

  pub copy_negative : (object : ℕ) (from to : CliType) (vs ws : List Value) (i j n : ℤ) → type_eq from to ≡ true → (is_negative i || (is_negative j || is_negative n)) ≡ true → copy_elements p s f fs next rest object from vs to ws i j n ≡ raise p s ArgumentOutOfRange
  unfolding copy_elements
  copy_negative object from to vs ws i j n e g =
      ap (λ (b : Bool). if b then (if is_negative i || (is_negative j || is_negative n) then raise p s ArgumentOutOfRange else within object to vs ws i j n) else raise p s ArrayTypeMismatch) e
      ∙ ap (λ (b : Bool). if b then raise p s ArgumentOutOfRange else within object to vs ws i j n) g

  pub copy_within : (object : ℕ) (from to : CliType) (vs ws : List Value) (i j n : ℤ) → type_eq from to ≡ true → (is_negative i || (is_negative j || is_negative n)) ≡ false → copy_elements p s f fs next rest object from vs to ws i j n ≡ within object to vs ws i j n
  unfolding copy_elements
  copy_within object from to vs ws i j n e g =
      ap (λ (b : Bool). if b then (if is_negative i || (is_negative j || is_negative n) then raise p s ArgumentOutOfRange else within object to vs ws i j n) else raise p s ArrayTypeMismatch) e
      ∙ ap (λ (b : Bool). if b then raise p s ArgumentOutOfRange else within object to vs ws i j n) g
