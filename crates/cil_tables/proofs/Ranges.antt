-- Lists over the numbers from 0 on.
use Rattle.std.proofs.Common.{◌≡◌, ℕ, zero, suc, ◌+◌, ◌*◌, ◌<◌, ◌≤◌, ◌≢◌, ⊎_elim, get_or-set_other, get_or-set_same, Bool, true, false, cond, ◌&&◌, List, [], ◌∷◌, ◌++◌, length, get_or, set, add-one, refl, ap, sym, subst, arith}
use Rattle.std.specs.List.{range_with_len, sum_by, list_all}
use Rattle.std.proofs.lemmas.List.Sums.{sum_by_push}
use Rattle.std.proofs.lemmas.Bool.{cases_lt}
use Rattle.std.proofs.lemmas.List.Edits.{fill_by_more}
use Rattle.file_tables.specs.Bytes.{has_bit}
use Rattle.file_tables.specs.Tables as tables
use Rattle.file_tables.specs.Metadata.{present_before}

range_more : (a n : ℕ) → range_with_len a (suc n) ≡ range_with_len a n ++ (a + n) ∷ []
range_more a zero = let e : a + 0 ≡ a = omega arith in rw e refl
range_more a (suc n) = let e : a + 1 + n ≡ a + suc n = omega arith in ap (λ xs. a ∷ xs) (subst (λ m. range_with_len (a + 1) (suc n) ≡ range_with_len (a + 1) n ++ m ∷ []) e (range_more (a + 1) n))

sum_more : (f : ℕ → ℕ) (n : ℕ) → sum_by f (range_with_len 0 (n + 1)) ≡ sum_by f (range_with_len 0 n) + f n
sum_more f n = let e : 0 + n ≡ n = omega arith in rw (add-one n, range_more 0 n, e) (sum_by_push f (range_with_len 0 n) n)

-- the counts of one more table stand before
pub present_more : (valid n : ℕ) → present_before valid (n + 1) ≡ present_before valid n + cond (has_bit valid n) 1 0
unfolding present_before
present_more valid n = sum_more (λ t. cond (has_bit valid t) 1 0) n

pub present_none : (valid : ℕ) → present_before valid 0 ≡ 0
unfolding present_before
present_none valid = refl

pub sizes_more : (shape : tables.Shape) (n : ℕ) → tables.sizes_before shape (n + 1) ≡ tables.sizes_before shape n + tables.count_of shape n * tables.row_width shape n
unfolding tables.sizes_before tables.table_size
sizes_more shape n = sum_more (tables.table_size shape) n

pub sizes_none : (shape : tables.Shape) → tables.sizes_before shape 0 ≡ 0
unfolding tables.sizes_before
sizes_none shape = refl

-- a test of each number below n
all_from : (p : ℕ → Bool) (a n : ℕ) → ((k : ℕ) → k < n → p (a + k) ≡ true) → list_all p (range_with_len a n) ≡ true
all_from p a zero h = refl
all_from p a (suc n) h =
    let here : p a ≡ true = subst (λ m. p m ≡ true) (omega arith) (h 0 (omega arith)) in
    rw here (all_from p (a + 1) n (λ k below. subst (λ m. p m ≡ true) (omega arith) (h (suc k) (omega arith))))

pub all_below : (p : ℕ → Bool) (n : ℕ) → ((k : ℕ) → k < n → p k ≡ true) → list_all p (range_with_len 0 n) ≡ true
all_below p n h = all_from p 0 n (λ k below. subst (λ m. p m ≡ true) (omega arith) (h k below))

fails_from : (p : ℕ → Bool) (a n k : ℕ) → k < n → p (a + k) ≡ false → list_all p (range_with_len a n) ≡ false
fails_from p a zero k below h = absurd (omega arith)
fails_from p a (suc n) zero below h = let here : p a ≡ false = subst (λ m. p m ≡ false) (omega arith) h in rw here refl
fails_from p a (suc n) (suc k) below h =
    let rest : list_all p (range_with_len (a + 1) n) ≡ false = fails_from p (a + 1) n k (omega arith) (subst (λ m. p m ≡ false) (omega arith) h) in
    rw rest (elim (p a) as (λ b. (b && false) ≡ false) [ true ↦ refl | false ↦ refl ])

pub fails_below : (p : ℕ → Bool) (n k : ℕ) → k < n → p k ≡ false → list_all p (range_with_len 0 n) ≡ false
fails_below p n k below h = fails_from p 0 n k below (subst (λ m. p m ≡ false) (omega arith) h)

-- a list filled up to one more place
pub filled_more : {X : Type 0} (f : ℕ → X) (xs : List X) (i : ℕ) (v d : X) → i < length xs → v ≡ f i → ((k : ℕ) → k < i → get_or xs k d ≡ f k) → (k : ℕ) → k < i + 1 → get_or (set xs i v) k d ≡ f k
filled_more f xs i v d below e before k h = rw e (fill_by_more f xs i d below before k h)

-- a fact of each place filled so far
pub holds_more : {X : Type 0} (P : ℕ → X → Type 0) (xs : List X) (i : ℕ) (v d : X) → i < length xs → P i v → ((k : ℕ) → k < i → P k (get_or xs k d)) → (k : ℕ) → k < i + 1 → P k (get_or (set xs i v) k d)
holds_more P xs i v d below here before k h =
    ⊎_elim
    (λ (lower : k < i). let other : k ≢ i = omega arith in subst (P k) (sym (get_or-set_other xs i k v d other)) (before k lower))
    (λ (at : i ≤ k).
    let same : k ≡ i = omega arith in
    subst (λ m. P m (get_or (set xs i v) m d)) (sym same) (subst (P i) (sym (get_or-set_same xs i v d below)) here))
    (cases_lt k i)
