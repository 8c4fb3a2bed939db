-- The kept methods of a file one after the other, by their numbers and as a list.
use Rattle.std.proofs.Common.{◌≡◌, ℕ, zero, suc, ◌+◌, ◌-◌, ◌<◌, ◌≤◌, Bool, true, false, List, [], ◌∷◌, ◌++◌, length, Option, Some, None, refl, sym, ap, ◌∙◌, subst, append_assoc, arith}
use Rattle.std.specs.Prelude.{if◌then◌else◌, slice_get, slice_index_or}
use Rattle.std.proofs.lemmas.List.{append-nil}
use Rattle.kept_rows.specs.Select.{select, below}
use Rattle.assemblies.proofs.Numbered.{below_next}
use Rattle.kept_bodies.specs.Walk.{parts_from}

-- ---- one method more

module _ {A : Type 0} (keep : ℕ → Bool) (parts : ℕ → ℕ → List A) (range : ℕ → ℕ) (count n first : ℕ) (now whole : List A) (inside : n < count) (before : now ++ parts_from keep parts range (count - n) n first ≡ whole) where
  abbrev rest : ℕ → ℕ → List A
  rest left from = parts_from keep parts range left n from

  opened : now ++ (if keep n then parts first n ++ parts_from keep parts range (count - (n + 1)) (n + 1) (first + range n) else parts_from keep parts range (count - (n + 1)) (n + 1) first) ≡ whole
  opened =
      let more : count - n ≡ suc (count - (n + 1)) = omega (arith, inside) in
      sym (ap (λ k. now ++ parts_from keep parts range k n first) more) ∙ before

  pub kept_on : (next : List A) → keep n ≡ true → next ≡ now ++ parts first n → next ++ parts_from keep parts range (count - (n + 1)) (n + 1) (first + range n) ≡ whole
  kept_on next e pushed =
      let behind : List A = parts_from keep parts range (count - (n + 1)) (n + 1) (first + range n) in
      ap (λ out. out ++ behind) pushed
      ∙ append_assoc now (parts first n) behind
      ∙ sym (ap (λ b. now ++ (if b then parts first n ++ behind else parts_from keep parts range (count - (n + 1)) (n + 1) first)) e)
      ∙ opened

  pub passed_on : keep n ≡ false → now ++ parts_from keep parts range (count - (n + 1)) (n + 1) first ≡ whole
  passed_on e =
      sym (ap (λ b. now ++ (if b then parts first n ++ parts_from keep parts range (count - (n + 1)) (n + 1) (first + range n) else parts_from keep parts range (count - (n + 1)) (n + 1) first)) e)
      ∙ opened

pub all_on : {A : Type 0} (keep : ℕ → Bool) (parts : ℕ → ℕ → List A) (range : ℕ → ℕ) (count n first : ℕ) (now whole : List A) → count ≤ n → now ++ parts_from keep parts range (count - n) n first ≡ whole → now ≡ whole
all_on keep parts range count n first now whole past before =
    let none : count - n ≡ 0 = omega (arith, past) in
    sym (append-nil now) ∙ sym (ap (λ k. now ++ parts_from keep parts range k n first) none) ∙ before

-- ---- by the rows themselves

pub row_there : (xs : List (List ℕ)) (n : ℕ) (x : List ℕ) → slice_get xs n ≡ Some x → slice_index_or xs n [] ≡ x
row_there [] n x e = absurd (let none : Path (Option (List ℕ)) None (Some x) = e in cc)
row_there (y ∷ ys) zero x e = let here : Path (Option (List ℕ)) (Some y) (Some x) = e in cc
row_there (y ∷ ys) (suc n) x e = row_there ys n x e

abbrev pub walked : {A X : Type 0} → (ℕ → X → List A) → (X → ℕ) → ℕ → List X → List A
walked parts range first [] = []
walked parts range first (x ∷ xs) = parts first x ++ walked parts range (first + range x) xs

-- a list behind a number, seen from its own first
abbrev pub Seen : (ℕ → Bool) → (ℕ → Bool) → ℕ → Type 0
Seen keep own n = (i : ℕ) → keep (n + i) ≡ own i

seen_next : (keep own : ℕ → Bool) (n : ℕ) → Seen keep own n → Seen keep (λ i. own (suc i)) (n + 1)
seen_next keep own n h = λ i. let same : n + 1 + i ≡ n + suc i = omega arith in ap keep same ∙ h (suc i)

module _ {A X : Type 0} (keep : ℕ → Bool) (parts : ℕ → ℕ → List A) (range : ℕ → ℕ) (parts' : ℕ → X → List A) (range' : X → ℕ) where
  abbrev Agree : ℕ → X → Type 0
  Agree n x = (range n ≡ range' x) × ((at : ℕ) → parts at n ≡ parts' at x)

  pub by_rows : (own : ℕ → Bool) (n first : ℕ) (xs : List X) → Seen keep own n → ((i : ℕ) (x : X) → slice_get xs i ≡ Some x → Agree (n + i) x) → parts_from keep parts range (length xs) n first ≡ walked parts' range' first (select own xs)
  by_rows own n first [] seen agree = refl
  by_rows own n first (x ∷ xs) seen agree =
      let same : n + 0 ≡ n = omega arith in
      let here : Agree n x = subst (λ k. Agree k x) same (agree 0 x refl) in
      let first_is : keep n ≡ own 0 = sym (ap keep same) ∙ seen 0 in
      ap (λ b. if b then parts first n ++ parts_from keep parts range (length xs) (n + 1) (first + range n) else parts_from keep parts range (length xs) (n + 1) first) first_is
      ∙ go (own 0) here (by_rows (λ i. own (suc i)) (n + 1) (first + range n) xs (seen_next keep own n seen) behind) (by_rows (λ i. own (suc i)) (n + 1) first xs (seen_next keep own n seen) behind)
    where
      behind : (i : ℕ) (y : X) → slice_get xs i ≡ Some y → Agree (n + 1 + i) y
      behind i y e = let next : n + suc i ≡ n + 1 + i = omega arith in subst (λ k. Agree k y) next (agree (suc i) y e)

      go : (b : Bool) → Agree n x → parts_from keep parts range (length xs) (n + 1) (first + range n) ≡ walked parts' range' (first + range n) (select (λ i. own (suc i)) xs) → parts_from keep parts range (length xs) (n + 1) first ≡ walked parts' range' first (select (λ i. own (suc i)) xs)
          → (if b then parts first n ++ parts_from keep parts range (length xs) (n + 1) (first + range n) else parts_from keep parts range (length xs) (n + 1) first) ≡ walked parts' range' first (if b then x ∷ select (λ i. own (suc i)) xs else select (λ i. own (suc i)) xs)
      go true here kept left =
          ap (λ ps. ps ++ parts_from keep parts range (length xs) (n + 1) (first + range n)) (here.1 first)
          ∙ ap (λ ps. parts' first x ++ ps) (kept ∙ ap (λ k. walked parts' range' (first + k) (select (λ i. own (suc i)) xs)) here.0)
      go false here kept left = left

-- where each kept one has its number among them
module _ {A X : Type 0} (keep : ℕ → Bool) (parts : ℕ → ℕ → List A) (parts' : ℕ → X → List A) where
  pub by_places : (own : ℕ → Bool) (n first : ℕ) (xs : List X) → Seen keep own n → ((i : ℕ) (x : X) → slice_get xs i ≡ Some x → (at : ℕ) → parts at (n + i) ≡ parts' (below keep (n + i)) x) → parts_from keep parts (λ k. 0) (length xs) n first ≡ walked parts' (λ x. 1) (below keep n) (select own xs)
  by_places own n first [] seen agree = refl
  by_places own n first (x ∷ xs) seen agree =
      let same : n + 0 ≡ n = omega arith in
      let here : (at : ℕ) → parts at n ≡ parts' (below keep n) x = subst (λ k. (at : ℕ) → parts at k ≡ parts' (below keep k) x) same (agree 0 x refl) in
      let first_is : keep n ≡ own 0 = sym (ap keep same) ∙ seen 0 in
      ap (λ b. if b then parts first n ++ parts_from keep parts (λ k. 0) (length xs) (n + 1) (first + 0) else parts_from keep parts (λ k. 0) (length xs) (n + 1) first) first_is
      ∙ go (own 0) (first_is) here (by_places (λ i. own (suc i)) (n + 1) (first + 0) xs (seen_next keep own n seen) behind) (by_places (λ i. own (suc i)) (n + 1) first xs (seen_next keep own n seen) behind)
    where
      behind : (i : ℕ) (y : X) → slice_get xs i ≡ Some y → (at : ℕ) → parts at (n + 1 + i) ≡ parts' (below keep (n + 1 + i)) y
      behind i y e = let next : n + suc i ≡ n + 1 + i = omega arith in subst (λ k. (at : ℕ) → parts at k ≡ parts' (below keep k) y) next (agree (suc i) y e)

      number : (b : Bool) → keep n ≡ b → below keep (n + 1) ≡ (if b then suc (below keep n) else below keep n)
      number b e = let next : n + 1 ≡ suc n = omega arith in ap (below keep) next ∙ below_next keep n ∙ ap (λ c. if c then suc (below keep n) else below keep n) e

      go : (b : Bool) → keep n ≡ b → ((at : ℕ) → parts at n ≡ parts' (below keep n) x) → parts_from keep parts (λ k. 0) (length xs) (n + 1) (first + 0) ≡ walked parts' (λ x. 1) (below keep (n + 1)) (select (λ i. own (suc i)) xs) → parts_from keep parts (λ k. 0) (length xs) (n + 1) first ≡ walked parts' (λ x. 1) (below keep (n + 1)) (select (λ i. own (suc i)) xs)
          → (if b then parts first n ++ parts_from keep parts (λ k. 0) (length xs) (n + 1) (first + 0) else parts_from keep parts (λ k. 0) (length xs) (n + 1) first) ≡ walked parts' (λ x. 1) (below keep n) (if b then x ∷ select (λ i. own (suc i)) xs else select (λ i. own (suc i)) xs)
      go true e here kept left =
          let next : below keep (n + 1) ≡ below keep n + 1 = omega (arith, number true e) in
          ap (λ ps. ps ++ parts_from keep parts (λ k. 0) (length xs) (n + 1) (first + 0)) (here first)
          ∙ ap (λ ps. parts' (below keep n) x ++ ps) (kept ∙ ap (λ k. walked parts' (λ x. 1) k (select (λ i. own (suc i)) xs)) next)
      go false e here kept left = left ∙ ap (λ k. walked parts' (λ x. 1) k (select (λ i. own (suc i)) xs)) (number false e)
