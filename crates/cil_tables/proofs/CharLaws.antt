-- One step over a text of `#Strings`.
use Rattle.std.proofs.Common.{◌≡◌, ℕ, zero, suc, ◌+◌, ◌-◌, ◌<◌, ◌≤◌, ◌≢◌, ⊎_elim, Bool, true, false, cond, List, [], ◌∷◌, ◌++◌, length, length-drop, length-take-le, length-append, get_or, get_or-drop, take, drop, Some, None, refl, ap, sym, ◌∙◌, subst, arith, eq-eqb}
use Rattle.std.specs.Prelude.{is_some, not}
use Rattle.std.specs.List.{position_or_len}
use Rattle.std.specs.Str.{IsUtf8, is_utf8}
use lib.Utf8.{encode, encodes, scalars, scalar}
use Rattle.std.proofs.lemmas.Bool.{cases_lt, eqb-true, ne_eqb}
use Rattle.std.proofs.lemmas.List.{append-nil, get_or-take, drop_more, take-append-drop, drop-drop, take_at, drop_at, take-take, drop-take}
use Rattle.std.proofs.lemmas.List.Folds.{prefix_len-append}
use Rattle.std.proofs.lemmas.List.Sums.{position_or_len_is, prefix_len-le-length, passes_at_first, fails_before_first}
use Rattle.std.proofs.lemmas.Str.{IsUtf8-append, IsUtf8-from_ascii, IsUtf8-drop, IsUtf8-nil, IsCharBoundary-from_take, is_utf8-from_IsUtf8, IsUtf8-from_is_utf8, length-encode, len_utf8_bounds}
use Rattle.cil_tables.specs.Texts.{is_zero, IsFirstZero, begins, EndsChar}
use Rattle.cil_tables.proofs.SchemaLaws.{and_both}
use Rattle.cil_tables.proofs.Texts.{text_is, no_text, no_zero, behind}

-- no text begins behind the heap
pub none_behind : (heap : List ℕ) (at : ℕ) → length heap ≤ at → begins heap at ≡ false
none_behind heap at h = ap is_some (behind heap at h)

-- whether a text begins is whether what stands before the zero byte is UTF-8
begins_is : (heap : List ℕ) (at n : ℕ) → IsFirstZero (drop at heap) n → begins heap at ≡ is_utf8 (take n (drop at heap))
begins_is heap at n stops =
    ap is_some (text_is heap at n stops)
    ∙ elim (is_utf8 (take n (drop at heap))) as (λ b. is_some (cond b (Some (take n (drop at heap))) None) ≡ b) [ true ↦ refl | false ↦ refl ]

-- the empty text begins at a zero byte
pub at_zero : (heap : List ℕ) (at : ℕ) → at < length heap → get_or heap at 0 ≡ 0 → begins heap at ≡ true
at_zero heap at below e =
    let same : at + 0 ≡ at = omega arith in
    let first : get_or (drop at heap) 0 0 ≡ 0 = get_or-drop at heap 0 0 ∙ subst (λ n. get_or heap n 0 ≡ 0) (sym same) e in
    let len : length (drop at heap) ≡ length heap - at = length-drop at heap in
    let within : 0 < length (drop at heap) = omega arith in
    begins_is heap at 0
    (record { place = position_or_len_is is_zero (drop at heap) 0 0 (omega arith) (λ k h. absurd (omega arith)) (λ _. eq-eqb (get_or (drop at heap) 0 0) 0 first); within = within })
    ∙ is_utf8-from_IsUtf8 [] IsUtf8-nil

same_bools : (a b : Bool) → (a ≡ true → b ≡ true) → (b ≡ true → a ≡ true) → a ≡ b
same_bools true b f g = sym (f refl)
same_bools false true f g = g refl
same_bools false false f g = refl

-- a text in front of a text
utf8_behind : (front rest : List ℕ) → IsUtf8 front → is_utf8 (front ++ rest) ≡ is_utf8 rest
utf8_behind front rest u =
    same_bools (is_utf8 (front ++ rest)) (is_utf8 rest)
    (λ h.
    let whole : IsUtf8 (front ++ rest) = IsUtf8-from_is_utf8 (front ++ rest) h in
    let head : IsUtf8 (take (length front) (front ++ rest)) = subst IsUtf8 (sym (take_at front rest (length front) refl)) u in
    let tail : IsUtf8 (drop (length front) (front ++ rest)) =
    IsUtf8-drop (front ++ rest) (length front) whole (IsCharBoundary-from_take (front ++ rest) (length front) whole (omega (arith, length-append front rest)) head) in
    is_utf8-from_IsUtf8 rest (subst IsUtf8 (drop_at front rest (length front) refl) tail))
    (λ h. is_utf8-from_IsUtf8 (front ++ rest) (IsUtf8-append front rest u (IsUtf8-from_is_utf8 rest h)))

-- where the first zero byte is, behind a front that has none
zero_behind : (front rest : List ℕ) → position_or_len is_zero front ≡ length front → position_or_len is_zero (front ++ rest) ≡ length front + position_or_len is_zero rest
zero_behind front rest none =
    prefix_len-append (λ b. not (is_zero b)) front rest ∙ rw (eq-eqb (position_or_len is_zero front) (length front) none) refl

-- over a front without a zero byte
pub over_char : (heap : List ℕ) (at end : ℕ) → at ≤ end → EndsChar heap at end → begins heap at ≡ begins heap end
over_char heap at end order char =
    let inside : end ≤ length heap = char.inside in
    let len : length (drop at heap) ≡ length heap - at = length-drop at heap in
    let rest_len : length (drop end heap) ≡ length heap - end = length-drop end heap in
    let front_len : length (take (end - at) (drop at heap)) ≡ end - at = length-take-le (end - at) (drop at heap) (omega arith) in
    let joined : at + (end - at) ≡ end = omega arith in
    let rest : drop (end - at) (drop at heap) ≡ drop end heap = drop-drop (end - at) at heap ∙ ap (λ k. drop k heap) joined in
    let whole : take (end - at) (drop at heap) ++ drop end heap ≡ drop at heap = ap (λ xs. take (end - at) (drop at heap) ++ xs) (sym rest) ∙ take-append-drop (end - at) (drop at heap) in
    let place : position_or_len is_zero (drop at heap) ≡ (end - at) + position_or_len is_zero (drop end heap) =
    ap (position_or_len is_zero) (sym whole) ∙ zero_behind (take (end - at) (drop at heap)) (drop end heap) char.no_zero ∙ ap (λ k. k + position_or_len is_zero (drop end heap)) front_len in
    ⊎_elim
    (λ (reached : position_or_len is_zero (drop end heap) < length (drop end heap)).
    let text : take ((end - at) + position_or_len is_zero (drop end heap)) (drop at heap) ≡ take (end - at) (drop at heap) ++ take (position_or_len is_zero (drop end heap)) (drop end heap) =
    sym (take-append-drop (end - at) (take ((end - at) + position_or_len is_zero (drop end heap)) (drop at heap)))
    ∙ ap (λ xs. xs ++ drop (end - at) (take ((end - at) + position_or_len is_zero (drop end heap)) (drop at heap))) (take-take (end - at) ((end - at) + position_or_len is_zero (drop end heap)) (drop at heap) (omega arith))
    ∙ ap (λ xs. take (end - at) (drop at heap) ++ xs) (drop-take (end - at) (position_or_len is_zero (drop end heap)) (drop at heap) ∙ ap (take (position_or_len is_zero (drop end heap))) rest) in
    begins_is heap at ((end - at) + position_or_len is_zero (drop end heap)) (record { place = place; within = omega arith })
    ∙ ap is_utf8 text
    ∙ utf8_behind (take (end - at) (drop at heap)) (take (position_or_len is_zero (drop end heap)) (drop end heap)) char.text
    ∙ sym (begins_is heap end (position_or_len is_zero (drop end heap)) (record { place = refl; within = reached })))
    (λ (none : length (drop end heap) ≤ position_or_len is_zero (drop end heap)).
    let at_most : position_or_len is_zero (drop end heap) ≤ length (drop end heap) = prefix_len-le-length (λ b. not (is_zero b)) (drop end heap) in
    let here : position_or_len is_zero (drop end heap) ≡ length (drop end heap) = omega arith in
    let there : position_or_len is_zero (drop at heap) ≡ length (drop at heap) = omega arith in
    ap is_some (no_text heap at there) ∙ sym (ap is_some (no_text heap end here)))
    (cases_lt (position_or_len is_zero (drop end heap)) (length (drop end heap)))

-- a text that isn't empty begins with a character, which ends before the zero byte
first_char : (heap : List ℕ) (at m : ℕ) → IsFirstZero (drop at heap) m → get_or heap at 0 ≢ 0 → (cs : List ℕ) → scalars cs ≡ true → encodes cs ≡ take m (drop at heap) → ((n : ℕ) → 1 ≤ n → n ≤ 4 → EndsChar heap at (at + n) → ⊥) → ⊥
first_char heap at m stops start [] sc e none =
    let empty : length (take m (drop at heap)) ≡ 0 = sym (ap length e) in
    let len : length (take m (drop at heap)) ≡ m = length-take-le m (drop at heap) (omega (arith, stops.within)) in
    let same : at + 0 ≡ at = omega arith in
    let place : position_or_len is_zero (drop at heap) ≡ 0 = stops.place ∙ sym len ∙ empty in
    let here : is_zero (get_or (drop at heap) (position_or_len is_zero (drop at heap)) 0) ≡ true = passes_at_first is_zero (drop at heap) 0 (rw stops.place stops.within) in
    let first : is_zero (get_or (drop at heap) 0 0) ≡ true = subst (λ k. is_zero (get_or (drop at heap) k 0) ≡ true) place here in
    start (subst (λ k. get_or heap k 0 ≡ 0) same (sym (get_or-drop at heap 0 0) ∙ eqb-true (get_or (drop at heap) 0 0) 0 first))
first_char heap at m stops start (c ∷ cs) sc e none =
    let rest_len : length (drop at heap) ≡ length heap - at = length-drop at heap in
    let within : m < length (drop at heap) = stops.within in
    let len : length (take m (drop at heap)) ≡ m = length-take-le m (drop at heap) (omega arith) in
    let parts : length (encode c) + length (encodes cs) ≡ m = sym (length-append (encode c) (encodes cs)) ∙ ap length e ∙ len in
    let bounds = len_utf8_bounds c in
    let least : 1 ≤ length (encode c) = omega (arith, bounds.0, length-encode c) in
    let most : length (encode c) ≤ 4 = omega (arith, bounds.1, length-encode c) in
    let fits : length (encode c) ≤ m = omega arith in
    let front : take (length (encode c)) (drop at heap) ≡ encode c =
    sym (take-take (length (encode c)) m (drop at heap) fits) ∙ ap (take (length (encode c))) (sym e) ∙ take_at (encode c) (encodes cs) (length (encode c)) refl in
    let joined : at + length (encode c) - at ≡ length (encode c) = omega arith in
    let one : scalars (c ∷ []) ≡ true = rw (and_both (scalar c) (scalars cs) sc).0 refl in
    let text : IsUtf8 (encode c) = (c ∷ [], (one, append-nil (encode c))) in
    let no_zeros : position_or_len is_zero (take (length (encode c)) (drop at heap)) ≡ length (take (length (encode c)) (drop at heap)) =
    no_zero (take (length (encode c)) (drop at heap))
    (λ k below.
    let front_len : length (take (length (encode c)) (drop at heap)) ≡ length (encode c) = length-take-le (length (encode c)) (drop at heap) (omega arith) in
    let early : k < length (encode c) = omega arith in
    let before : k < position_or_len is_zero (drop at heap) = rw stops.place (omega arith) in
    rw (get_or-take (length (encode c)) (drop at heap) k 0 early) (fails_before_first is_zero (drop at heap) k 0 before)) in
    none (length (encode c)) least most
    (record {
      inside = omega arith;
      text = subst (λ n. IsUtf8 (take n (drop at heap))) (sym joined) (subst IsUtf8 (sym front) text);
      no_zero = subst (λ n. position_or_len is_zero (take n (drop at heap)) ≡ length (take n (drop at heap))) (sym joined) no_zeros;
    })

-- no front of at most four bytes is a character
pub no_char : (heap : List ℕ) (at : ℕ) → get_or heap at 0 ≢ 0 → ((n : ℕ) → 1 ≤ n → n ≤ 4 → EndsChar heap at (at + n) → ⊥) → begins heap at ≡ false
no_char heap at start none =
    ⊎_elim
    (λ (reached : position_or_len is_zero (drop at heap) < length (drop at heap)).
    let stops : IsFirstZero (drop at heap) (position_or_len is_zero (drop at heap)) = record { place = refl; within = reached } in
    begins_is heap at (position_or_len is_zero (drop at heap)) stops
    ∙ elim (is_utf8 (take (position_or_len is_zero (drop at heap)) (drop at heap))) as (λ b. is_utf8 (take (position_or_len is_zero (drop at heap)) (drop at heap)) ≡ b → b ≡ false) [
      | true ↦ λ h.
          let u = IsUtf8-from_is_utf8 (take (position_or_len is_zero (drop at heap)) (drop at heap)) h in
          absurd (first_char heap at (position_or_len is_zero (drop at heap)) stops start u.0 u.1.0 u.1.1 none)
      | false ↦ λ h. refl
    ] refl)
    (λ (past : length (drop at heap) ≤ position_or_len is_zero (drop at heap)).
    let at_most : position_or_len is_zero (drop at heap) ≤ length (drop at heap) = prefix_len-le-length (λ b. not (is_zero b)) (drop at heap) in
    let all : position_or_len is_zero (drop at heap) ≡ length (drop at heap) = omega arith in
    ap is_some (no_text heap at all))
    (cases_lt (position_or_len is_zero (drop at heap)) (length (drop at heap)))

each_ascii : (b : ℕ) → b < 128 → (i : ℕ) → get_or (b ∷ []) i 0 < 128
each_ascii b small zero = small
each_ascii b small (suc i) = omega arith

one_ascii : (b : ℕ) → b < 128 → IsUtf8 (b ∷ [])
one_ascii b small = IsUtf8-from_ascii (b ∷ []) (each_ascii b small)

-- over a byte of ASCII
pub over_ascii : (heap : List ℕ) (at : ℕ) → at < length heap → get_or heap at 0 ≢ 0 → get_or heap at 0 < 128 → begins heap at ≡ begins heap (at + 1)
over_ascii heap at below start small =
    let joined : at + 1 - at ≡ 1 = omega arith in
    let one : take (at + 1 - at) (drop at heap) ≡ get_or heap at 0 ∷ [] = rw (joined, drop_more heap at 0 below) refl in
    let other : is_zero (get_or heap at 0) ≡ false = ne_eqb (get_or heap at 0) 0 start in
    over_char heap at (at + 1) (omega arith)
    (record {
      inside = omega arith;
      text = subst IsUtf8 (sym one) (one_ascii (get_or heap at 0) small);
      no_zero = rw (one, other) refl;
    })
