-- The literals of a file, of which each is read as units of two bytes.
use Rattle.std.proofs.Common.{◌≡◌, ℕ, zero, suc, ◌+◌, ◌-◌, ◌*◌, ◌/◌, ◌%◌, ◌<◌, Bool, true, false, List, [], ◌∷◌, length, take, drop, Option, Some, None, refl, ◌∙◌, subst, arith}
use Rattle.std.specs.Prelude.{◌==◌, ◌||◌, nat_lt, nat_le, if◌then◌else◌}
use Rattle.std.specs.Option.{option_and_then}
use Rattle.std.proofs.lemmas.Bool.{eqb-true}
use Rattle.std.proofs.lemmas.List.{length-take-le}
use Rattle.file_tables.specs.Compressed.{second_byte, three_bytes, compressed_at}
use Rattle.file_tables.specs.Heaps.{counted, blob_at, units_of, user_string_at}
use Rattle.world_rows.specs.Lines.{units_from}
use Rattle.image_form.specs.Form.{units_onto}
use Rattle.code_shrink.specs.Lines.{AreBytes}

-- ---- parts of bytes are bytes

pub bytes_behind : (b : ℕ) (bytes : List ℕ) → AreBytes (b ∷ bytes) → AreBytes bytes
bytes_behind b bytes h k = h (suc k)

pub bytes_taken : (n : ℕ) (bytes : List ℕ) → AreBytes bytes → AreBytes (take n bytes)
bytes_taken zero bytes h k = omega arith
bytes_taken (suc n) [] h k = omega arith
bytes_taken (suc n) (b ∷ bytes) h zero = h 0
bytes_taken (suc n) (b ∷ bytes) h (suc k) = bytes_taken n bytes (bytes_behind b bytes h) k

pub bytes_dropped : (n : ℕ) (bytes : List ℕ) → AreBytes bytes → AreBytes (drop n bytes)
bytes_dropped zero bytes h k = h k
bytes_dropped (suc n) [] h k = h k
bytes_dropped (suc n) (b ∷ bytes) h k = bytes_dropped n bytes (bytes_behind b bytes h) k

-- of a number that was read and the bytes behind it
abbrev BehindBytes : Option (ℕ × List ℕ) → Type 0
BehindBytes None = Unit {0}
BehindBytes (Some x) = AreBytes x.1

compressed_bytes : (bytes : List ℕ) → AreBytes bytes → BehindBytes (compressed_at bytes)
unfolding compressed_at
compressed_bytes [] h = tt
compressed_bytes (a ∷ rest) h = by (nat_lt a 0x80) (nat_lt a 0xC0) (nat_lt a 0xE0)
  where
    two : (xs : List ℕ) → AreBytes xs → BehindBytes (second_byte a xs)
    two [] e = tt
    two (b ∷ xs) e = bytes_behind b xs e

    four : (xs : List ℕ) → AreBytes xs → BehindBytes (three_bytes a xs)
    four [] e = tt
    four (b ∷ []) e = tt
    four (b ∷ (c ∷ [])) e = tt
    four (b ∷ (c ∷ (d ∷ xs))) e = bytes_behind d xs (bytes_behind c (d ∷ xs) (bytes_behind b (c ∷ d ∷ xs) e))

    by : (x y z : Bool) → BehindBytes (if x then Some (a, rest) else if y then second_byte a rest else if z then three_bytes a rest else None)
    by true y z = bytes_behind a rest h
    by false true z = two rest (bytes_behind a rest h)
    by false false true = four rest (bytes_behind a rest h)
    by false false false = tt

-- ---- a literal

-- as many bytes as two for each unit
pub record IsText (text : List ℕ) : Type 0 where
  pub bytes : AreBytes text
  pub half : ℕ
  pub even : length text ≡ 2 * half

abbrev OfText : Option (List ℕ) → Type 0
OfText None = Unit {0}
OfText (Some text) = IsText text

abbrev OfEntry : Option (List ℕ) → Type 0
OfEntry None = Unit {0}
OfEntry (Some entry) = AreBytes entry

cut_one : (n half : ℕ) → n ≡ 2 * half + 1 → n - 1 ≡ 2 * half
cut_one n half e = omega (arith, e)

odd_length : (n : ℕ) → n % 2 ≡ 1 → n ≡ 2 * (n / 2) + 1
odd_length n e = omega (arith, e)

of_units : (entry : List ℕ) → AreBytes entry → OfText (units_of entry)
unfolding units_of
of_units entry h = by (length entry == 0) refl (length entry % 2 == 1) refl
  where
    taken : (half : ℕ) → length entry - 1 ≡ 2 * half → IsText (take (length entry - 1) entry)
    taken half e = record { bytes = bytes_taken (length entry - 1) entry h; half = half; even = length-take-le (length entry - 1) entry (omega arith) ∙ e }

    by : (a : Bool) → (length entry == 0) ≡ a → (b : Bool) → (length entry % 2 == 1) ≡ b → OfText (if a || b then Some (take (length entry - 1) entry) else None)
    by true e b x = let none = eqb-true (length entry) 0 e in taken 0 (omega (arith, none))
    by false e true x = taken (length entry / 2) (cut_one (length entry) (length entry / 2) (odd_length (length entry) (eqb-true (length entry % 2) 1 x)))
    by false e false x = tt

entry_bytes : (o : Option (ℕ × List ℕ)) → BehindBytes o → OfEntry (option_and_then counted o)
unfolding counted
entry_bytes None h = tt
entry_bytes (Some x) h = by (nat_le x.0 (length x.1))
  where
    by : (b : Bool) → OfEntry (if b then Some (take x.0 x.1) else None)
    by true = bytes_taken x.0 x.1 h
    by false = tt

blob_bytes : (heap : List ℕ) (at : ℕ) → AreBytes heap → OfEntry (blob_at heap at)
unfolding blob_at
blob_bytes heap at h = entry_bytes (compressed_at (drop at heap)) (compressed_bytes (drop at heap) (bytes_dropped at heap h))

entry_text : (o : Option (List ℕ)) → OfEntry o → OfText (option_and_then units_of o)
entry_text None h = tt
entry_text (Some entry) h = of_units entry h

texts : (heap : List ℕ) (at : ℕ) → AreBytes heap → OfText (user_string_at heap at)
unfolding user_string_at
texts heap at h = entry_text (blob_at heap at) (blob_bytes heap at h)

pub literal_text : (heap : List ℕ) (at : ℕ) (text : List ℕ) → AreBytes heap → user_string_at heap at ≡ Some text → IsText text
literal_text heap at text h e = subst OfText e (texts heap at h)

-- ---- its units, spelt again

low_again : (a b : ℕ) → a < 256 → (a + 256 * b) % 256 ≡ a
low_again a b small = omega (arith, small)

high_again : (a b : ℕ) → a < 256 → (a + 256 * b) / 256 ≡ b
high_again a b small = omega (arith, small)

units_again : (half : ℕ) (text : List ℕ) → AreBytes text → length text ≡ 2 * half → units_onto (units_from text) ≡ text
units_again half [] h e = refl
units_again zero (a ∷ text) h e = absurd (omega (arith, e))
units_again (suc half) (a ∷ []) h e = absurd (omega (arith, e))
units_again (suc half) (a ∷ (b ∷ text)) h e =
    let low = low_again a b (h 0) in
    let high = high_again a b (h 0) in
    let rest = units_again half text (bytes_behind b text (bytes_behind a (b ∷ text) h)) (omega (arith, e)) in
    λ i. low i ∷ (high i ∷ rest i)

pub spelt_again : (text : List ℕ) → IsText text → units_onto (units_from text) ≡ text
spelt_again text is = units_again is.half text is.bytes is.even
