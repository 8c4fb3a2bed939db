-- Objects by their numbers: found, replaced, and made behind the last one.
use Rattle.std.proofs.Common.{◌≡◌, ◌⊎◌, inl, inr, ⊎_elim, ℕ, ◌+◌, ◌-◌, ◌*◌, ◌<◌, ◌≤◌, Bool, true, false, ◌==◌, List, [], ◌∷◌, ◌++◌, Some, None, refl, sym, ap, ◌∙◌, subst, arith}
use Rattle.std.specs.Prelude.{if◌then◌else◌, nat_lt}
use Rattle.std.proofs.lemmas.Bool.{eqb-true, eqb-false, eq-eqb, ne_eqb, ltb-false, le-ltb, cases_lt}
use Rattle.ram_words.specs.Region.{SameBut}
use Rattle.tiny_ram.specs.Things.{Entry, entry_cells}
use Rattle.tiny_ram.specs.Memory.{heap_cells, entry_at, put_entry}
use Rattle.tiny_ram.specs.Region.{Lies, Laid}
use Rattle.tiny_ram.proofs.Elsewhere.{outside, lies-same, laid-same}

-- the object at a number of a list that begins with x
pub first_or_later : (x : Entry) (xs : List Entry) (n : ℕ) (y : Entry) → entry_at (x ∷ xs) n ≡ Some y → ((n ≡ 0) × (x ≡ y)) ⊎ ((0 < n) × (entry_cells x ≤ n) × (entry_at xs (n - entry_cells x) ≡ Some y))
first_or_later x xs n y e = at (n == 0) refl (nat_lt n (entry_cells x)) refl e
  where
    at : (b : Bool) → (n == 0) ≡ b → (q : Bool) → nat_lt n (entry_cells x) ≡ q → (if b then Some x else (if q then None else entry_at xs (n - entry_cells x))) ≡ Some y → ((n ≡ 0) × (x ≡ y)) ⊎ ((0 < n) × (entry_cells x ≤ n) × (entry_at xs (n - entry_cells x) ≡ Some y))
    at true z q k h = let same : x ≡ y = cc h in inl (eqb-true n 0 z, same)
    at false z true k h = absurd (cc h)
    at false z false k h =
        let some : 0 < n = ⊎_elim (λ lt. lt) (λ le. let m : n ≡ 0 = omega arith in absurd (eqb-false n 0 z m)) (cases_lt 0 n) in
        inr (some, ltb-false n (entry_cells x) k, h)

-- an object lies at three times its number
pub laid-at : (ws : List ℕ) (at n : ℕ) (xs : List Entry) (y : Entry) → Laid ws at xs → entry_at xs n ≡ Some y → Lies ws (at + 3 * n) y
laid-at ws at n [] y h e = absurd (cc e)
laid-at ws at n (x ∷ xs) y h e =
    ⊎_elim
    (λ (z : (n ≡ 0) × (x ≡ y)). let i : at ≡ at + 3 * n = omega (arith, z.0) in subst (λ j. Lies ws j y) i (subst (λ w. Lies ws at w) z.1 h.0))
    (λ (z : (0 < n) × (entry_cells x ≤ n) × (entry_at xs (n - entry_cells x) ≡ Some y)).
    let i : at + 3 * entry_cells x + 3 * (n - entry_cells x) ≡ at + 3 * n = omega (arith, z.1) in
    subst (λ j. Lies ws j y) i (laid-at ws (at + 3 * entry_cells x) (n - entry_cells x) xs y h.1 z.2))
    (first_or_later x xs n y e)

pub put_first : (x : Entry) (xs : List Entry) (n : ℕ) (y : Entry) → n ≡ 0 → put_entry (x ∷ xs) n y ≡ y ∷ xs
put_first x xs n y e = ap (λ (b : Bool). if b then y ∷ xs else (if nat_lt n (entry_cells x) then x ∷ xs else x ∷ put_entry xs (n - entry_cells x) y)) (eq-eqb n 0 e)

pub put_later : (x : Entry) (xs : List Entry) (n : ℕ) (y : Entry) → 0 < n → entry_cells x ≤ n → put_entry (x ∷ xs) n y ≡ x ∷ put_entry xs (n - entry_cells x) y
put_later x xs n y h k =
    ap (λ (b : Bool). if b then y ∷ xs else (if nat_lt n (entry_cells x) then x ∷ xs else x ∷ put_entry xs (n - entry_cells x) y)) (ne_eqb n 0 (λ e. omega arith))
    ∙ ap (λ (b : Bool). if b then x ∷ xs else x ∷ put_entry xs (n - entry_cells x) y) (le-ltb n (entry_cells x) k)

-- one object gives way to another of its size, by a write inside it
pub laid-put : (ws us : List ℕ) (at n a b : ℕ) (xs : List Entry) (x y : Entry) → Laid ws at xs → entry_at xs n ≡ Some x → entry_cells y ≡ entry_cells x → SameBut a b ws us → at + 3 * n ≤ a → b ≤ at + 3 * n + 3 * entry_cells x → Lies us (at + 3 * n) y → Laid us at (put_entry xs n y)
laid-put ws us at n a b [] x y h e z s l u i = absurd (cc e)
laid-put ws us at n a b (w ∷ ws') x y h e z s l u i =
    ⊎_elim
    (λ (q : (n ≡ 0) × (w ≡ x)).
    let here : at + 3 * n ≡ at = omega (arith, q.0) in
    let size : entry_cells w ≡ entry_cells x = ap entry_cells q.1 in
    let rest : Laid us (at + 3 * entry_cells y) ws' = subst (λ k. Laid us (at + 3 * k) ws') (size ∙ sym z) (laid-same ws us (at + 3 * entry_cells w) a b ws' s (inr (omega (arith, here, size))) h.1) in
    subst (λ ts. Laid us at ts) (sym (put_first w ws' n y q.0)) (subst (λ j. Lies us j y) here i, rest))
    (λ (q : (0 < n) × (entry_cells w ≤ n) × (entry_at ws' (n - entry_cells w) ≡ Some x)).
    let there : at + 3 * entry_cells w + 3 * (n - entry_cells w) ≡ at + 3 * n = omega (arith, q.1) in
    let first : Lies us at w = lies-same ws us at w (outside at (at + 3 * entry_cells w) a b ws us s (inl (omega (arith, q.1)))) h.0 in
    let rest : Laid us (at + 3 * entry_cells w) (put_entry ws' (n - entry_cells w) y) =
    laid-put ws us (at + 3 * entry_cells w) (n - entry_cells w) a b ws' x y h.1 q.2 z s (omega (arith, there)) (omega (arith, there)) (subst (λ j. Lies us j y) (sym there) i) in
    subst (λ ts. Laid us at ts) (sym (put_later w ws' n y q.0 q.1)) (first, rest))
    (first_or_later w ws' n x e)

-- the cells stay
pub cells-put : (n : ℕ) (xs : List Entry) (x y : Entry) → entry_at xs n ≡ Some x → entry_cells y ≡ entry_cells x → heap_cells (put_entry xs n y) ≡ heap_cells xs
cells-put n [] x y e z = absurd (cc e)
cells-put n (w ∷ ws) x y e z =
    ⊎_elim
    (λ (q : (n ≡ 0) × (w ≡ x)). ap heap_cells (put_first w ws n y q.0) ∙ ap (λ k. k + heap_cells ws) (z ∙ sym (ap entry_cells q.1)))
    (λ (q : (0 < n) × (entry_cells w ≤ n) × (entry_at ws (n - entry_cells w) ≡ Some x)).
    ap heap_cells (put_later w ws n y q.0 q.1) ∙ ap (λ k. entry_cells w + k) (cells-put (n - entry_cells w) ws x y q.2 z))
    (first_or_later w ws n x e)

-- an object is made behind the last one
pub laid-made : (ws : List ℕ) (at : ℕ) (xs : List Entry) (y : Entry) → Laid ws at xs → Lies ws (at + 3 * heap_cells xs) y → Laid ws at (xs ++ y ∷ [])
laid-made ws at [] y h i = (subst (λ j. Lies ws j y) (omega arith) i, tt)
laid-made ws at (x ∷ xs) y h i =
    let there : at + 3 * (entry_cells x + heap_cells xs) ≡ at + 3 * entry_cells x + 3 * heap_cells xs = omega arith in
    (h.0, laid-made ws (at + 3 * entry_cells x) xs y h.1 (subst (λ j. Lies ws j y) there i))

pub cells-made : (xs : List Entry) (y : Entry) → heap_cells (xs ++ y ∷ []) ≡ heap_cells xs + entry_cells y
cells-made [] y = omega arith
cells-made (x ∷ xs) y = let e = cells-made xs y in omega (arith, e)

-- an object lies inside
pub inside : (xs : List Entry) (n : ℕ) (y : Entry) → entry_at xs n ≡ Some y → n + entry_cells y ≤ heap_cells xs
inside [] n y e = absurd (cc e)
inside (x ∷ xs) n y e =
    ⊎_elim
    (λ (z : (n ≡ 0) × (x ≡ y)). let s : entry_cells x ≡ entry_cells y = ap entry_cells z.1 in omega (arith, z.0, s))
    (λ (z : (0 < n) × (entry_cells x ≤ n) × (entry_at xs (n - entry_cells x) ≡ Some y)). let s : n - entry_cells x + entry_cells y ≤ heap_cells xs = inside xs (n - entry_cells x) y z.2 in omega (arith, z.1, s))
    (first_or_later x xs n y e)
