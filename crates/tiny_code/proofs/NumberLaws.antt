-- Numbers that aren't whole, and the distances of a switch.
use Rattle.std.proofs.Common.{◌≡◌, ℕ, zero, suc, ◌+◌, ◌*◌, ◌<◌, ◌≤◌, List, [], ◌∷◌, length, take, drop, Some, None, refl, sym, ap, ◌∙◌, arith}
use Rattle.std.specs.Prelude.{ℤ}
use Rattle.std.specs.Int.{Width, w16, w32, w64, cast_signed}
use Rattle.machine.specs.Throw.{on_some}
use Rattle.image_bytes.specs.Layout.{many}
use Rattle.image_form.specs.Codes.{behind_first, read_number, read_signed, Signed, Unsigned, Distances, SignedBy, UnsignedBy, Counted, short, read_plain}
use Rattle.tiny_code.specs.Numbers.{words_in}

number_short : (k : ℕ) (bytes : List ℕ) → length bytes ≤ k → read_number k bytes ≡ None
number_short k [] h = refl
number_short zero (b ∷ bytes) h = absurd (omega (arith, h))
number_short (suc k) (b ∷ bytes) h = ap (λ o. on_some o (λ (x : ℕ × List ℕ). Some (b + 256 * x.0, x.1))) (number_short k bytes (omega (arith, h)))

signed_short : (w : Width) (bytes : List ℕ) → length bytes ≤ behind_first w → read_plain short (SignedBy w) bytes ≡ None
signed_short w bytes h = ap (λ o. on_some (on_some o (λ (x : ℕ × List ℕ). Some (cast_signed w x.0, x.1))) (λ (x : ℤ × List ℕ). Some (Signed x.0, x.1))) (number_short (behind_first w) bytes h)

-- fewer bytes than the number has
pub int16_short : (bytes : List ℕ) → length bytes < 2 → None ≡ read_plain short (SignedBy w16) bytes
int16_short bytes h = sym (signed_short w16 bytes (omega (arith, h)))

pub int32_short : (bytes : List ℕ) → length bytes < 4 → None ≡ read_plain short (SignedBy w32) bytes
int32_short bytes h = sym (signed_short w32 bytes (omega (arith, h)))

pub int64_short : (bytes : List ℕ) → length bytes < 8 → None ≡ read_plain short (SignedBy w64) bytes
int64_short bytes h = sym (signed_short w64 bytes (omega (arith, h)))

pub uint16_short : (bytes : List ℕ) → length bytes < 2 → None ≡ read_plain short (UnsignedBy 1) bytes
uint16_short bytes h = sym (ap (λ o. on_some o (λ (x : ℕ × List ℕ). Some (Unsigned x.0, x.1))) (number_short 1 bytes (omega (arith, h))))

-- ---- distances

word_short : (bytes : List ℕ) → length bytes < 2 → read_signed w16 bytes ≡ None
word_short bytes h = ap (λ o. on_some o (λ (x : ℕ × List ℕ). Some (cast_signed w16 x.0, x.1))) (number_short 1 bytes (omega (arith, h)))

many_short : (n : ℕ) (bytes : List ℕ) → length bytes < 2 * n → many (read_signed w16) n bytes ≡ None
many_short zero bytes h = absurd (omega (arith, h))
many_short (suc n) [] h = refl
many_short (suc n) (a ∷ []) h = refl
many_short (suc n) (a ∷ b ∷ bytes) h =
    ap (λ o. on_some o (λ (xs : List ℤ × List ℕ). Some (cast_signed w16 (a + 256 * b) ∷ xs.0, xs.1))) (many_short n bytes (omega (arith, h)))

many_read : (n : ℕ) (bytes : List ℕ) → 2 * n ≤ length bytes → many (read_signed w16) n bytes ≡ Some (words_in (take (2 * n) bytes), drop (2 * n) bytes)
many_read zero bytes h = refl
many_read (suc n) [] h = absurd (omega (arith, h))
many_read (suc n) (a ∷ []) h = absurd (omega (arith, h))
many_read (suc n) (a ∷ b ∷ bytes) h =
    let more : suc (suc (2 * n)) ≡ 2 * suc n = omega arith in
    ap (λ o. on_some o (λ (xs : List ℤ × List ℕ). Some (cast_signed w16 (a + 256 * b) ∷ xs.0, xs.1))) (many_read n bytes (omega (arith, h)))
    ∙ ap (λ k. Some (words_in (take k (a ∷ b ∷ bytes)), drop k (a ∷ b ∷ bytes))) more

pub switch_short : (n : ℕ) (bytes : List ℕ) → length bytes < 2 * n → None ≡ read_plain short Counted (n ∷ bytes)
switch_short n bytes h = sym (ap (λ o. on_some o (λ (t : List ℤ × List ℕ). Some (Distances t.0, t.1))) (many_short n bytes h))

pub switch_read : (n : ℕ) (bytes : List ℕ) → 2 * n ≤ length bytes → Some (Distances (words_in (take (2 * n) bytes)), drop (2 * n) bytes) ≡ read_plain short Counted (n ∷ bytes)
switch_read n bytes h = sym (ap (λ o. on_some o (λ (t : List ℤ × List ℕ). Some (Distances t.0, t.1))) (many_read n bytes h))
