-- Texts of `#Strings`.
use Rattle.std.proofs.Common.{◌≡◌, ℕ, ◌<◌, ◌≤◌, true, false, List, length, get_or, take, drop, Some, None, cond, [], eq-eqb, ◌∙◌, refl, arith, nat_lt}
use Rattle.std.specs.List.{position_or_len}
use Rattle.std.specs.Str.{IsUtf8, is_utf8}
use Rattle.std.proofs.lemmas.List.Sums.{position_or_len_is}
use Rattle.std.proofs.lemmas.Str.{is_utf8-from_IsUtf8, IsUtf8-from_is_utf8}
use Rattle.std.proofs.lemmas.List.{length-take-le, drop_all}
use Rattle.std.proofs.lemmas.Bool.{le-ltb, lt-ltb}
use Rattle.file_tables.specs.Heaps.{string_at, before_zero}
use Rattle.cil_tables.specs.Texts.{is_zero, IsFirstZero}

pub first_zero : (bytes : List ℕ) (i : ℕ) → i < length bytes → ((k : ℕ) → k < i → is_zero (get_or bytes k 0) ≡ false) → get_or bytes i 0 ≡ 0 → IsFirstZero bytes i
first_zero bytes i below before here =
    record { place = position_or_len_is is_zero bytes i 0 (omega arith) before (λ _. eq-eqb (get_or bytes i 0) 0 here); within = below }

pub no_zero : (bytes : List ℕ) → ((k : ℕ) → k < length bytes → is_zero (get_or bytes k 0) ≡ false) → position_or_len is_zero bytes ≡ length bytes
no_zero bytes before = position_or_len_is is_zero bytes (length bytes) 0 (omega arith) before (λ h. absurd (omega arith))

-- no zero byte is reached
pub no_text : (heap : List ℕ) (at : ℕ) → position_or_len is_zero (drop at heap) ≡ length (drop at heap) → string_at heap at ≡ None
unfolding string_at before_zero
no_text heap at e =
    let whole : length (take (position_or_len is_zero (drop at heap)) (drop at heap)) ≡ length (drop at heap) = length-take-le _ (drop at heap) (omega arith) ∙ e in
    let test : nat_lt (length (take (position_or_len is_zero (drop at heap)) (drop at heap))) (length (drop at heap)) ≡ false = le-ltb _ _ (omega arith) in
    rw test refl

pub behind : (heap : List ℕ) (at : ℕ) → length heap ≤ at → string_at heap at ≡ None
behind heap at h =
    let e : drop at heap ≡ [] = drop_all at heap h in
    no_text heap at (rw e refl)

-- a zero byte is reached
pub text_is : (heap : List ℕ) (at n : ℕ) → IsFirstZero (drop at heap) n → string_at heap at ≡ cond (is_utf8 (take n (drop at heap))) (Some (take n (drop at heap))) None
unfolding string_at before_zero
text_is heap at n zero =
    let place : position_or_len is_zero (drop at heap) ≡ n = zero.place in
    let reached : nat_lt (length (take n (drop at heap))) (length (drop at heap)) ≡ true = rw (length-take-le n (drop at heap) (omega (arith, zero.within))) (lt-ltb n (length (drop at heap)) zero.within) in
    rw (place, reached) refl

pub whole_text : (heap : List ℕ) (at n : ℕ) → IsFirstZero (drop at heap) n → IsUtf8 (take n (drop at heap)) → string_at heap at ≡ Some (take n (drop at heap))
whole_text heap at n zero utf8 = text_is heap at n zero ∙ rw (is_utf8-from_IsUtf8 (take n (drop at heap)) utf8) refl

pub not_utf8 : (heap : List ℕ) (at n : ℕ) → IsFirstZero (drop at heap) n → ¬ (IsUtf8 (take n (drop at heap))) → string_at heap at ≡ None
not_utf8 heap at n zero bad =
    text_is heap at n zero
    ∙ elim (is_utf8 (take n (drop at heap))) as (λ b. is_utf8 (take n (drop at heap)) ≡ b → cond b (Some (take n (drop at heap))) None ≡ None) [
      | true ↦ λ e. absurd (bad (IsUtf8-from_is_utf8 (take n (drop at heap)) e))
      | false ↦ λ e. refl
    ] refl
