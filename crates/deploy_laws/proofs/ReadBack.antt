-- A set that is written is read back.
use Rattle.std.proofs.Common.{◌≡◌, ◌⊎◌, ℕ, zero, suc, ◌+◌, ◌-◌, ◌≤◌, Bool, true, false, List, [], ◌∷◌, ◌++◌, length, take, drop, Option, Some, refl, sym, ap, ◌∙◌, inl, inr, arith}
use Rattle.std.specs.Prelude.{if◌then◌else◌, ◌==◌}
use Rattle.std.proofs.lemmas.Bool.{or_right, or_from, ne_eqb, or_parts}
use Rattle.std.proofs.lemmas.List.{append_assoc, take_at, drop_at, length-append, get_or_append_left, take_all}
use Rattle.deploy_model.specs.Banks.{Format, IsFormat, Walks, Stuck, WholeSet, BadSet, walk, ends, holds, with_image, on_image, judge, entries, set_in, erased, joined, images_at, AreImages, base, BODY, ROOM, MOST_IMAGES}
use Rattle.deploy_laws.proofs.Markers.{holds_same}

ends_erased : (k : ℕ) → (k ≡ 0) ⊎ (4 ≤ k) → ends (erased k) ≡ true
ends_erased zero some = refl
ends_erased (suc zero) (inl e) = absurd (omega arith)
ends_erased (suc zero) (inr e) = absurd (omega arith)
ends_erased (suc (suc zero)) (inl e) = absurd (omega arith)
ends_erased (suc (suc zero)) (inr e) = absurd (omega arith)
ends_erased (suc (suc (suc zero))) (inl e) = absurd (omega arith)
ends_erased (suc (suc (suc zero))) (inr e) = absurd (omega arith)
ends_erased (suc (suc (suc (suc k)))) some = or_right (length (erased (suc (suc (suc (suc k))))) == 0) (holds (0xFF ∷ 0xFF ∷ 0xFF ∷ 0xFF ∷ []) 0 (erased (suc (suc (suc (suc k)))))) refl

ends_front : (x rest : List ℕ) → 4 ≤ length x → ends x ≡ false → ends (x ++ rest) ≡ false
ends_front x rest four begins =
    let l : length (x ++ rest) ≡ length x + length rest = length-append x rest in
    or_from (length (x ++ rest) == 0) (holds (0xFF ∷ 0xFF ∷ 0xFF ∷ 0xFF ∷ []) 0 (x ++ rest)) (ne_eqb (length (x ++ rest)) 0 (λ h. omega arith))
    (holds_same (0xFF ∷ 0xFF ∷ 0xFF ∷ 0xFF ∷ []) 0 x (x ++ rest) (λ i low. get_or_append_left x rest 0 (0 + i) (omega arith))
    ∙ (or_parts (length x == 0) (holds (0xFF ∷ 0xFF ∷ 0xFF ∷ 0xFF ∷ []) 0 x) begins).1)

walk_reads : (f : Format) → IsFormat f → (xs : List (List ℕ)) (n at : ℕ) (tail : List ℕ) → AreImages f xs → length xs ≤ n → ends tail ≡ true → walk f n at (joined xs ++ tail) ≡ Walks (images_at at xs)
walk_reads f format [] zero at tail all few end = ap (λ (b : Bool). if b then Walks [] else Stuck at) end
walk_reads f format [] (suc n) at tail all few end = ap (λ (b : Bool). if b then Walks [] else on_image (f.image tail) at tail (λ size. walk f n (at + size) (drop size tail))) end
walk_reads f format (x ∷ xs) zero at tail all few end = absurd (omega arith)
walk_reads f format (x ∷ xs) (suc n) at tail all few end =
    let bytes = x ++ joined xs ++ tail in
    let e : bytes ≡ x ++ (joined xs ++ tail) = append_assoc x (joined xs) tail in
    let starts : ends bytes ≡ false = ap ends e ∙ ends_front x (joined xs ++ tail) all.0.four all.0.begins in
    let front : take (length x) bytes ≡ x = ap (take (length x)) e ∙ take_at x (joined xs ++ tail) (length x) refl in
    let rest : drop (length x) bytes ≡ joined xs ++ tail = ap (drop (length x)) e ∙ drop_at x (joined xs ++ tail) (length x) refl in
    let stands : f.image bytes ≡ Some (length x) = format.own x bytes (length x) all.0.size (front ∙ sym (take_all (length x) x (omega arith))) in
    ap (λ (b : Bool). if b then Walks [] else on_image (f.image bytes) at bytes (λ size. walk f n (at + size) (drop size bytes))) starts
    ∙ ap (λ (o : Option ℕ). on_image o at bytes (λ size. walk f n (at + size) (drop size bytes))) stands
    ∙ ap (λ (ys : List ℕ). with_image (record { at = at; bytes = ys }) (walk f n (at + length x) (drop (length x) bytes))) front
    ∙ ap (λ (ys : List ℕ). with_image (record { at = at; bytes = x }) (walk f n (at + length x) ys)) rest
    ∙ ap (with_image (record { at = at; bytes = x })) (walk_reads f format xs n (at + length x) tail all.1 (omega arith) end)

pub set_reads : (f : Format) → IsFormat f → (xs : List (List ℕ)) (bank : ℕ) → AreImages f xs → length xs ≤ MOST_IMAGES → (ROOM - length (joined xs) ≡ 0) ⊎ (4 ≤ ROOM - length (joined xs)) → entries f (images_at (base bank + BODY) xs) ≡ 1
    → set_in f bank (joined xs) ≡ WholeSet (images_at (base bank + BODY) xs)
set_reads f format xs bank all few room one =
    ap (judge f (base bank)) (walk_reads f format xs MOST_IMAGES (base bank + BODY) (erased (ROOM - length (joined xs))) all few (ends_erased (ROOM - length (joined xs)) room))
    ∙ ap (λ (n : ℕ). if n == 1 then WholeSet (images_at (base bank + BODY) xs) else BadSet (base bank)) one
