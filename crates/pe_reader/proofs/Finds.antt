-- The first element of a list made from a function of the index.
use Rattle.std.proofs.Common.{◌≡◌, ℕ, zero, suc, ◌+◌, ◌<◌, Bool, true, false, map, Some, None, refl, sym, subst, arith}
use Rattle.std.specs.List.{find, range_with_len}

-- no index below n passes
pub find_none : {X : Type 0} (p : X → Bool) (f : ℕ → X) (a n : ℕ) → ((k : ℕ) → k < n → p (f (a + k)) ≡ false) → find p (map f (range_with_len a n)) ≡ None
find_none p f a zero fails = refl
find_none p f a (suc n) fails =
    let here : p (f a) ≡ false = subst (λ m. p (f m) ≡ false) (omega arith) (fails 0 (omega arith)) in
    rw here (find_none p f (a + 1) n (λ k below. subst (λ m. p (f m) ≡ false) (omega arith) (fails (suc k) (omega arith))))

-- index i is the first that passes
pub find_at : {X : Type 0} (p : X → Bool) (f : ℕ → X) (a n i : ℕ) → i < n → ((k : ℕ) → k < i → p (f (a + k)) ≡ false) → p (f (a + i)) ≡ true → find p (map f (range_with_len a n)) ≡ Some (f (a + i))
find_at p f a zero i below fails passes = absurd (omega arith)
find_at p f a (suc n) zero below fails passes =
    let same : a + 0 ≡ a = omega arith in
    let here : p (f a) ≡ true = subst (λ m. p (f m) ≡ true) same passes in
    rw (here, same) refl
find_at p f a (suc n) (suc i) below fails passes =
    let same : a + 1 + i ≡ a + suc i = omega arith in
    let here : p (f a) ≡ false = subst (λ m. p (f m) ≡ false) (omega arith) (fails 0 (omega arith)) in
    rw here
    (subst (λ m. find p (map f (range_with_len (a + 1) n)) ≡ Some (f m)) same
    (find_at p f (a + 1) n i (omega arith)
    (λ k lower. subst (λ m. p (f m) ≡ false) (omega arith) (fails (suc k) (omega arith)))
    (subst (λ m. p (f m) ≡ true) (sym same) passes)))

-- the same from index 0
pub find_none_from_0 : {X : Type 0} (p : X → Bool) (f : ℕ → X) (n : ℕ) → ((k : ℕ) → k < n → p (f k) ≡ false) → find p (map f (range_with_len 0 n)) ≡ None
find_none_from_0 p f n fails = find_none p f 0 n (λ k below. subst (λ m. p (f m) ≡ false) (omega arith) (fails k below))

pub find_at_from_0 : {X : Type 0} (p : X → Bool) (f : ℕ → X) (n i : ℕ) → i < n → ((k : ℕ) → k < i → p (f k) ≡ false) → p (f i) ≡ true → find p (map f (range_with_len 0 n)) ≡ Some (f i)
find_at_from_0 p f n i below fails passes =
    let same : i ≡ 0 + i = omega arith in
    let back : 0 + i ≡ i = omega arith in
    subst (λ m. find p (map f (range_with_len 0 n)) ≡ Some (f m)) back
    (find_at p f 0 n i below (λ k lower. subst (λ m. p (f m) ≡ false) (omega arith) (fails k lower)) (subst (λ m. p (f m) ≡ true) same passes))
