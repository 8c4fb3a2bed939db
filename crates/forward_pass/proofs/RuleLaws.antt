-- The lowest of rules that are broken at one offset.
use Rattle.std.proofs.Common.{◌≡◌, ℕ, ◌≤◌, min, List, [], ◌∷◌, ◌++◌, Some, None, refl, sym, ap, ◌∙◌, arith, append_assoc}
use Rattle.std.proofs.lemmas.List.{append-nil}
use Rattle.verdict_rules.specs.Code.{lowest}
use Rattle.forward_pass.specs.Told.{lowest_of, lower_of}

lowest_bound : (xs : List ℕ) → lowest xs ≤ 54
lowest_bound [] = omega arith
lowest_bound (x ∷ xs) = omega (arith, lowest_bound xs)

pub lowest_append : (xs ys : List ℕ) → lowest (xs ++ ys) ≡ min (lowest xs) (lowest ys)
lowest_append [] ys = omega (arith, lowest_bound ys)
lowest_append (x ∷ xs) ys = omega (arith, lowest_append xs ys)

pub lowest_of_append : (xs ys : List ℕ) → lowest_of (xs ++ ys) ≡ lower_of (lowest_of xs) (lowest_of ys)
lowest_of_append [] ys = refl
lowest_of_append (x ∷ xs) [] = ap lowest_of (append-nil (x ∷ xs))
lowest_of_append (x ∷ xs) (y ∷ ys) = ap (λ n. Some n) (lowest_append (x ∷ xs) (y ∷ ys))

-- of three
pub lowest_of_three : (xs ys zs : List ℕ) → lowest_of (xs ++ (ys ++ zs)) ≡ lower_of (lower_of (lowest_of xs) (lowest_of ys)) (lowest_of zs)
lowest_of_three xs ys zs =
    ap lowest_of (sym (append_assoc xs ys zs))
    ∙ lowest_of_append (xs ++ ys) zs
    ∙ ap (λ o. lower_of o (lowest_of zs)) (lowest_of_append xs ys)

pub none_lowest : (xs : List ℕ) → lowest_of xs ≡ None → xs ≡ []
none_lowest [] e = refl
none_lowest (x ∷ xs) e = cc e

-- a rule counts that is not above the others
pub first_counts : (rule : ℕ) (xs : List ℕ) → rule ≤ lowest xs → lower_of (Some rule) (lowest_of xs) ≡ Some rule
first_counts rule [] h = refl
first_counts rule (x ∷ xs) h = ap (λ n. Some n) (omega (arith, h))
