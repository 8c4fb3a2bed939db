-- Bytes that agree with others as far as both go.
use Rattle.std.proofs.Common.{◌≡◌, ℕ, ◌≤◌, Bool, true, List, [], ◌∷◌, ◌++◌, length, take, refl, ap, arith}
use Rattle.std.specs.Prelude.{◌==◌}
use Rattle.std.specs.List.{list_all, zip}
use Rattle.std.proofs.lemmas.Bool.{and_parts, and_from, eqb-true, eq-eqb}

abbrev pub same : ℕ × ℕ → Bool
same pair = pair.0 == pair.1

-- where the second is no shorter it begins with the first
pub take-zip : (xs ys : List ℕ) → list_all same (zip xs ys) ≡ true → length xs ≤ length ys → take (length xs) ys ≡ xs
take-zip [] ys agree long = refl
take-zip (x ∷ xs) [] agree long = absurd (omega arith)
take-zip (x ∷ xs) (y ∷ ys) agree long =
    let parts = and_parts (x == y) (list_all same (zip xs ys)) agree in
    let first : x ≡ y = eqb-true x y parts.0 in
    let rest = take-zip xs ys parts.1 (omega arith) in
    cc

-- what begins with the first agrees with it
pub zip-append : (xs ys : List ℕ) → list_all same (zip xs (xs ++ ys)) ≡ true
zip-append [] ys = refl
zip-append (x ∷ xs) ys = and_from (x == x) (list_all same (zip xs (xs ++ ys))) (eq-eqb x x refl) (zip-append xs ys)

-- what stands behind doesn't matter
pub zip-front : (xs ys zs : List ℕ) → length xs ≤ length ys → zip xs (ys ++ zs) ≡ zip xs ys
zip-front [] ys zs long = refl
zip-front (x ∷ xs) [] zs long = absurd (omega arith)
zip-front (x ∷ xs) (y ∷ ys) zs long = ap (λ (rest : List (ℕ × ℕ)). (x, y) ∷ rest) (zip-front xs ys zs (omega arith))

-- what agrees, agrees in front
pub zip-less : (xs ys zs : List ℕ) → list_all same (zip xs (ys ++ zs)) ≡ true → list_all same (zip xs ys) ≡ true
zip-less [] ys zs agree = refl
zip-less (x ∷ xs) [] zs agree = refl
zip-less (x ∷ xs) (y ∷ ys) zs agree =
    let parts = and_parts (x == y) (list_all same (zip xs (ys ++ zs))) agree in
    and_from (x == y) (list_all same (zip xs ys)) parts.0 (zip-less xs ys zs parts.1)
