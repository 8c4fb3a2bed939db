-- What the machine's natives of arrays and numbers make of their arguments.
use Rattle.std.proofs.Common.{◌≡◌, ℕ, List, [], ◌∷◌, length, Option, Some, None, refl, ap}
use Rattle.std.specs.Prelude.{ℤ, decimal}
use Rattle.std.specs.Int.{w64, cast_unsigned}
use Rattle.board_types.specs.declared.board.Known.TheVariants.{NullReference}
use Rattle.machine.specs.Data.{CliType, thing_at, Value, Int, Long, Null, Object, Thing, Elements, Frame, State}
use Rattle.machine.specs.Program.{Program}
use Rattle.machine.specs.Numbers.{as_int, as_long}
use Rattle.machine.specs.Texts.{decimal_text}
use Rattle.machine.specs.Throw.{on_some, goes, raise}
use Rattle.machine.specs.Rows.{on_elements, length_value}
use Rattle.machine.specs.Natives.{new_text, unit_of, array_length, number_signed, number_unsigned, string_from_char}
use Rattle.tiny_native.specs.Copies.{Lacks}
use Rattle.tiny_native.proofs.ThingKinds.{array_lacks}

module _ (p : Program) (s : State) (f : Frame) (fs : List Frame) (next : ℕ) (rest more : List Value) where
  pub array_length_null : array_length p s f fs next rest (Null ∷ more) ≡ raise p s NullReference
  unfolding array_length
  array_length_null = refl

  pub array_length_of : (n : ℕ) (element : CliType) (values : List Value) → thing_at s.heap n ≡ Some (Elements element values) → array_length p s f fs next rest (Object n ∷ more) ≡ goes p s f fs next (length_value (length values) ∷ rest)
  unfolding array_length
  array_length_of n element values e = ap (λ (o : Option Thing). on_some o (λ x. on_elements x (λ t vs. goes p s f fs next (length_value (length vs) ∷ rest)))) e

  pub array_length_lacks : (v : Value) → Lacks 1 s.heap v → array_length p s f fs next rest (v ∷ more) ≡ None
  unfolding array_length
  array_length_lacks v h = array_lacks p s NullReference v (λ n t vs. goes p s f fs next (length_value (length vs) ∷ rest)) h

  pub signed_long : (n : ℤ) → number_signed p s f fs next rest (Long n ∷ more) ≡ new_text p s f fs next rest (decimal_text n)
  unfolding number_signed
  signed_long n = refl

  pub signed_none : (v : Value) → as_long v ≡ None → number_signed p s f fs next rest (v ∷ more) ≡ None
  unfolding number_signed
  signed_none v e = ap (λ (o : Option ℤ). on_some o (λ n. new_text p s f fs next rest (decimal_text n))) e

  pub unsigned_long : (n : ℤ) → number_unsigned p s f fs next rest (Long n ∷ more) ≡ new_text p s f fs next rest (decimal (cast_unsigned w64 n))
  unfolding number_unsigned
  unsigned_long n = refl

  pub unsigned_none : (v : Value) → as_long v ≡ None → number_unsigned p s f fs next rest (v ∷ more) ≡ None
  unfolding number_unsigned
  unsigned_none v e = ap (λ (o : Option ℤ). on_some o (λ n. new_text p s f fs next rest (decimal (cast_unsigned w64 n)))) e

  pub from_char_int : (n : ℤ) → string_from_char p s f fs next rest (Int n ∷ more) ≡ new_text p s f fs next rest (unit_of (Int n) ∷ [])
  unfolding string_from_char
  from_char_int n = refl

  pub from_char_none : (v : Value) → as_int v ≡ None → string_from_char p s f fs next rest (v ∷ more) ≡ None
  unfolding string_from_char
  from_char_none v e = ap (λ (o : Option ℤ). on_some o (λ n. new_text p s f fs next rest (unit_of (Int n) ∷ []))) e
