-- An entry of `#Blob` or `#US` is read where it stands.
use Rattle.std.proofs.Common.{◌≡◌, ℕ, ◌+◌, ◌-◌, ◌*◌, ◌/◌, ◌%◌, ◌^◌, ◌<◌, ◌≤◌, cond, inl, inr, ◌⊎◌, List, [], ◌∷◌, ◌++◌, length, drop, Some, refl, sym, ap, ◌∙◌, subst, arith, length-append, append_assoc}
use Rattle.std.specs.List.{flat_map, list_any}
use Rattle.std.proofs.lemmas.List.{take_at}
use Rattle.std.proofs.lemmas.Bool.{lt-ltb, le-ltb, le-leb, ne_eqb, eq-eqb, cases_lt}
use Rattle.file_tables.specs.Compressed.{IsCompressed, compressed_at}
use Rattle.file_tables.specs.Heaps.{counted, blob_at, units_of, user_string_at}
use Rattle.file_tables.proofs.CompressedLaws.{compressed_again}
use Rattle.cil_layout.specs.Text.{is_special, compressed, blob_entry, text_bytes, unit_bytes}
use Rattle.cil_layout.proofs.Sizes.{length-text_bytes}

-- the three forms of a compressed number
one_byte : (n : ℕ) → n < 128 → compressed n ≡ n ∷ []
one_byte n small = rw (lt-ltb n 128 small) refl

-- from 128 on it takes two bytes
two_bytes : (n : ℕ) → 128 ≤ n → n < 16384 → compressed n ≡ (128 + n / 256) ∷ (n % 256) ∷ []
two_bytes n low high = rw (le-ltb n 128 low, lt-ltb n 16384 high) refl

-- and from 16384 on four
four_bytes : (n : ℕ) → 16384 ≤ n → compressed n ≡ (192 + n / 2 ^ 24) ∷ (n / 2 ^ 16 % 256) ∷ (n / 256 % 256) ∷ (n % 256) ∷ []
four_bytes n low = rw (le-ltb n 128 (omega arith), le-ltb n 16384 low) refl

-- a number behind its first byte
low_part : (n : ℕ) → n ≡ (128 + n / 256 - 128) * 2 ^ 8 + n % 256
low_part n = omega arith

-- and behind its first byte of four
high_part : (n : ℕ) → n < 2 ^ 29 → n ≡ (192 + n / 2 ^ 24 - 192) * 2 ^ 24 + n / 2 ^ 16 % 256 * 2 ^ 16 + n / 256 % 256 * 2 ^ 8 + n % 256
high_part n small = omega arith

-- what is written spells the number
is_compressed : (n : ℕ) → n < 2 ^ 29 → IsCompressed (compressed n) n
is_compressed n small = by_size (cases_lt n 128) (cases_lt n 16384) where
  with_form : (form : List ℕ) → compressed n ≡ form → IsCompressed form n → IsCompressed (compressed n) n
  with_form form is spells = subst (λ c. IsCompressed c n) (sym is) spells

  by_size : (n < 128) ⊎ (128 ≤ n) → (n < 16384) ⊎ (16384 ≤ n) → IsCompressed (compressed n) n
  by_size (inl low) _ = with_form (n ∷ []) (one_byte n low) (low, refl)
  by_size (inr low) (inl high) = with_form ((128 + n / 256) ∷ (n % 256) ∷ []) (two_bytes n low high) (omega arith, omega arith, low_part n)
  by_size (inr low) (inr high) = with_form ((192 + n / 2 ^ 24) ∷ (n / 2 ^ 16 % 256) ∷ (n / 256 % 256) ∷ (n % 256) ∷ []) (four_bytes n high) (omega arith, omega arith, high_part n small)

-- an entry of `#Blob`
pub blob_found : (heap bytes rest : List ℕ) (at : ℕ) → drop at heap ≡ blob_entry bytes ++ rest → length bytes < 2 ^ 29 → blob_at heap at ≡ Some bytes
unfolding blob_at counted
blob_found heap bytes rest at e small =
    let split : drop at heap ≡ compressed (length bytes) ++ (bytes ++ rest) = e ∙ append_assoc (compressed (length bytes)) bytes rest in
    let number : compressed_at (drop at heap) ≡ Some (length bytes, bytes ++ rest) = ap compressed_at split ∙ compressed_again (compressed (length bytes)) (bytes ++ rest) (length bytes) (is_compressed (length bytes) small) in
    rw (number, le-leb (length bytes) (length (bytes ++ rest)) (omega (arith, length-append bytes rest))) (ap Some (take_at bytes rest (length bytes) refl))

-- a literal's bytes without the last one
units_found : (front : List ℕ) (last k : ℕ) → length front ≡ 2 * k → units_of (front ++ last ∷ []) ≡ Some front
unfolding units_of
units_found front last k even =
    let long : length (front ++ last ∷ []) ≡ 2 * k + 1 = omega (arith, length-append front (last ∷ []), even) in
    rw (ne_eqb (length (front ++ last ∷ [])) 0 (λ e. omega (arith, long, e)), eq-eqb (length (front ++ last ∷ []) % 2) 1 (omega (arith, long))) (ap Some (take_at front (last ∷ []) (length (front ++ last ∷ []) - 1) (omega (arith, long, even))))

-- a literal's entry of `#US`
pub text_found : (heap units rest : List ℕ) (at : ℕ) → drop at heap ≡ (compressed (2 * length units + 1) ++ text_bytes units) ++ rest → length units < 2 ^ 28
    → user_string_at heap at ≡ Some (flat_map unit_bytes units)
unfolding user_string_at
text_found heap units rest at e small =
    let found : blob_at heap at ≡ Some (text_bytes units) = blob_found heap (text_bytes units) rest at (e ∙ ap (λ n. (compressed n ++ text_bytes units) ++ rest) (sym (length-text_bytes units))) (omega (arith, length-text_bytes units)) in
    let last : ℕ = cond (list_any is_special units) 1 0 in
    rw found (units_found (flat_map unit_bytes units) last (length units) (omega (arith, length-text_bytes units, length-append (flat_map unit_bytes units) (last ∷ []))))

-- the empty blob at the heap's first byte
pub empty_blob : (heap rest : List ℕ) → heap ≡ 0 ∷ rest → blob_at heap 0 ≡ Some []
empty_blob heap rest first = blob_found heap [] rest 0 first (omega arith)
