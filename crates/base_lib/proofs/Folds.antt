-- What a walk over the items keeps, and how far it comes.
use Rattle.std.proofs.Common.{◌≡◌, ℕ, ◌+◌, ◌*◌, ◌≤◌, List, [], ◌∷◌, length, fold, count_by, cond, Bool, true, arith}
use Rattle.std.specs.List.{list_all}
use Rattle.std.proofs.lemmas.Bool.{and_parts}
use Rattle.std.proofs.lemmas.List.Sums.{sum_by-cons}
use Rattle.base_tables.specs.Shape.{Item}

-- what each item that passes the test keeps
pub fold_keeps : {A : Type 0} (P : A → Type 0) (f : A → Item → A) (test : Item → Bool) → ((a : A) (i : Item) → test i ≡ true → P a → P (f a i))
    → (a : A) (items : List Item) → list_all test items ≡ true → P a → P (fold f a items)
fold_keeps P f test step a [] all is = is
fold_keeps P f test step a (i ∷ items) all is =
    let parts : (test i ≡ true) × (list_all test items ≡ true) = and_parts (test i) (list_all test items) all in
    fold_keeps P f test step (f a i) items parts.1 (step a i parts.0 is)

-- each item adds at most so much
pub fold_le : {A : Type 0} (size : A → ℕ) (most : ℕ) (f : A → Item → A) (test : Item → Bool) → ((a : A) (i : Item) → test i ≡ true → size (f a i) ≤ size a + most)
    → (a : A) (items : List Item) → list_all test items ≡ true → size (fold f a items) ≤ size a + most * length items
fold_le size most f test step a [] all = omega arith
fold_le size most f test step a (i ∷ items) all =
    let parts : (test i ≡ true) × (list_all test items ≡ true) = and_parts (test i) (list_all test items) all in
    omega (arith, step a i parts.0, fold_le size most f test step (f a i) items parts.1)

-- and each that passes the other one at least 1
pub fold_ge : {A : Type 0} (size : A → ℕ) (f : A → Item → A) (test : Item → Bool) → ((a : A) (i : Item) → size a + cond (test i) 1 0 ≤ size (f a i))
    → (a : A) (items : List Item) → size a + count_by test items ≤ size (fold f a items)
fold_ge size f test step a [] = omega arith
fold_ge size f test step a (i ∷ items) = omega (arith, sum_by-cons (λ x. cond (test x) 1 0) i items, step a i, fold_ge size f test step (f a i) items)
