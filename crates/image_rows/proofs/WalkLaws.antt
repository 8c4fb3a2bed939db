-- The kept rows of a table, one after the other, by their numbers and as a list.
use Rattle.std.proofs.Common.{◌≡◌, ℕ, zero, suc, ◌+◌, Bool, true, false, List, [], ◌∷◌, ◌++◌, map, length, Some, refl, sym, ap, ◌∙◌, append_assoc, add_assoc, zero-add, arith}
use Rattle.std.specs.Prelude.{if◌then◌else◌, slice_get}
use Rattle.std.proofs.lemmas.List.{append-nil, map-append}
use Rattle.kept_rows.specs.Select.{select, rows}
use Rattle.msspot_write.specs.declared.parts.PartRow.{PartRow}
use Rattle.image_rows.specs.Walk.{parts_from}

-- the numbers of the kept rows, with one more
rows_more : (keep : ℕ → Bool) (n : ℕ) → rows keep (suc n) ≡ rows keep n ++ (if keep n then n ∷ [] else [])
rows_more keep zero = refl
rows_more keep (suc n) = go (keep 0) (rows_more (λ k. keep (suc k)) n)
  where
    cased : (b : Bool) → map suc (if b then n ∷ [] else []) ≡ (if b then suc n ∷ [] else [])
    cased true = refl
    cased false = refl

    behind : rows (λ k. keep (suc k)) (suc n) ≡ rows (λ k. keep (suc k)) n ++ (if keep (suc n) then n ∷ [] else []) → map suc (rows (λ k. keep (suc k)) (suc n)) ≡ map suc (rows (λ k. keep (suc k)) n) ++ (if keep (suc n) then suc n ∷ [] else [])
    behind e = ap (map suc) e ∙ map-append suc (rows (λ k. keep (suc k)) n) (if keep (suc n) then n ∷ [] else []) ∙ ap (λ ns. map suc (rows (λ k. keep (suc k)) n) ++ ns) (cased (keep (suc n)))

    go : (b : Bool) → rows (λ k. keep (suc k)) (suc n) ≡ rows (λ k. keep (suc k)) n ++ (if keep (suc n) then n ∷ [] else []) → (if b then 0 ∷ map suc (rows (λ k. keep (suc k)) (suc n)) else map suc (rows (λ k. keep (suc k)) (suc n))) ≡ (if b then 0 ∷ map suc (rows (λ k. keep (suc k)) n) else map suc (rows (λ k. keep (suc k)) n)) ++ (if keep (suc n) then suc n ∷ [] else [])
    go true e = ap (λ ns. 0 ∷ ns) (behind e)
    go false e = behind e

-- all ranges together
abbrev pub total : (ℕ → ℕ) → List ℕ → ℕ
total range [] = 0
total range (n ∷ ns) = range n + total range ns

total_push : (range : ℕ → ℕ) (ns : List ℕ) (n : ℕ) → total range (ns ++ n ∷ []) ≡ total range ns + range n
total_push range [] n = omega arith
total_push range (m ∷ ns) n = ap (λ k. range m + k) (total_push range ns n) ∙ sym (add_assoc (range m) (total range ns) (range n))

module _ (parts : ℕ → ℕ → List PartRow) (range : ℕ → ℕ) where
  parts_push : (first : ℕ) (ns : List ℕ) (n : ℕ) → parts_from parts range first (ns ++ n ∷ []) ≡ parts_from parts range first ns ++ parts (first + total range ns) n
  parts_push first [] n =
      let same : first ≡ first + 0 = omega arith in
      append-nil (parts first n) ∙ ap (λ k. parts k n) same
  parts_push first (m ∷ ns) n =
      ap (λ ps. parts first m ++ ps) (parts_push (first + range m) ns n)
      ∙ sym (append_assoc (parts first m) (parts_from parts range (first + range m) ns) (parts (first + range m + total range ns) n))
      ∙ ap (λ k. (parts first m ++ parts_from parts range (first + range m) ns) ++ parts k n) (add_assoc first (range m) (total range ns))

  module _ (keep : ℕ → Bool) (n : ℕ) where
    numbers_more : (b : Bool) → keep n ≡ b → rows keep (n + 1) ≡ rows keep n ++ (if b then n ∷ [] else [])
    numbers_more b e =
        let next : n + 1 ≡ suc n = omega arith in
        ap (rows keep) next ∙ rows_more keep n ∙ ap (λ c. rows keep n ++ (if c then n ∷ [] else [])) e

    -- what is made and how far the ranges go, with the next row
    pub made_more : (now next : List PartRow) (first : ℕ) → now ≡ parts_from parts range 0 (rows keep n) → first ≡ total range (rows keep n) → next ≡ now ++ (if keep n then parts first n else []) → next ≡ parts_from parts range 0 (rows keep (n + 1))
    made_more now next first before counted pushed = go (keep n) refl
      where
        go : (b : Bool) → keep n ≡ b → next ≡ parts_from parts range 0 (rows keep (n + 1))
        go true e =
            pushed
            ∙ ap (λ b. now ++ (if b then parts first n else [])) e
            ∙ ap (λ ps. ps ++ parts first n) before
            ∙ ap (λ k. parts_from parts range 0 (rows keep n) ++ parts k n) (counted ∙ sym (zero-add (total range (rows keep n))))
            ∙ sym (parts_push 0 (rows keep n) n)
            ∙ ap (parts_from parts range 0) (sym (numbers_more true e))
        go false e =
            pushed
            ∙ ap (λ b. now ++ (if b then parts first n else [])) e
            ∙ append-nil now
            ∙ before
            ∙ ap (parts_from parts range 0) (sym (append-nil (rows keep n)) ∙ sym (numbers_more false e))

    pub counted_more : (first next : ℕ) → first ≡ total range (rows keep n) → next ≡ (if keep n then first + range n else first) → next ≡ total range (rows keep (n + 1))
    counted_more first next counted moved = go (keep n) refl
      where
        go : (b : Bool) → keep n ≡ b → next ≡ total range (rows keep (n + 1))
        go true e =
            moved
            ∙ ap (λ b. if b then first + range n else first) e
            ∙ ap (λ k. k + range n) counted
            ∙ sym (total_push range (rows keep n) n)
            ∙ ap (total range) (sym (numbers_more true e))
        go false e =
            moved
            ∙ ap (λ b. if b then first + range n else first) e
            ∙ counted
            ∙ ap (total range) (sym (append-nil (rows keep n)) ∙ sym (numbers_more false e))

-- ---- by the rows themselves

abbrev pub walked : {A : Type 0} → (ℕ → A → List PartRow) → (A → ℕ) → ℕ → List A → List PartRow
walked parts range first [] = []
walked parts range first (x ∷ xs) = parts first x ++ walked parts range (first + range x) xs

shifted : (parts : ℕ → ℕ → List PartRow) (range : ℕ → ℕ) (first : ℕ) (ns : List ℕ) → parts_from parts range first (map suc ns) ≡ parts_from (λ at n. parts at (suc n)) (λ n. range (suc n)) first ns
shifted parts range first [] = refl
shifted parts range first (n ∷ ns) = ap (λ ps. parts first (suc n) ++ ps) (shifted parts range (first + range (suc n)) ns)

pub by_number : {A : Type 0} (parts : ℕ → ℕ → List PartRow) (range : ℕ → ℕ) (parts' : ℕ → A → List PartRow) (range' : A → ℕ) (keep : ℕ → Bool) (first : ℕ) (xs : List A) → ((n : ℕ) (x : A) → slice_get xs n ≡ Some x → (range n ≡ range' x) × ((at : ℕ) → parts at n ≡ parts' at x)) → parts_from parts range first (rows keep (length xs)) ≡ walked parts' range' first (select keep xs)
by_number parts range parts' range' keep first [] agree = refl
by_number parts range parts' range' keep first (x ∷ xs) agree =
    go (keep 0)
    (by_number (λ k n. parts k (suc n)) (λ n. range (suc n)) parts' range' (λ k. keep (suc k)) (first + range 0) xs (λ n y h. agree (suc n) y h))
    (by_number (λ k n. parts k (suc n)) (λ n. range (suc n)) parts' range' (λ k. keep (suc k)) first xs (λ n y h. agree (suc n) y h))
  where
    go : (b : Bool) → parts_from (λ k n. parts k (suc n)) (λ n. range (suc n)) (first + range 0) (rows (λ k. keep (suc k)) (length xs)) ≡ walked parts' range' (first + range 0) (select (λ k. keep (suc k)) xs) → parts_from (λ k n. parts k (suc n)) (λ n. range (suc n)) first (rows (λ k. keep (suc k)) (length xs)) ≡ walked parts' range' first (select (λ k. keep (suc k)) xs) → parts_from parts range first (if b then 0 ∷ map suc (rows (λ k. keep (suc k)) (length xs)) else map suc (rows (λ k. keep (suc k)) (length xs))) ≡ walked parts' range' first (if b then x ∷ select (λ k. keep (suc k)) xs else select (λ k. keep (suc k)) xs)
    go true behind here =
        ap (λ ps. ps ++ parts_from parts range (first + range 0) (map suc (rows (λ k. keep (suc k)) (length xs)))) ((agree 0 x refl).1 first)
        ∙ ap (λ ps. parts' first x ++ ps)
        (shifted parts range (first + range 0) (rows (λ k. keep (suc k)) (length xs))
        ∙ behind
        ∙ ap (λ j. walked parts' range' (first + j) (select (λ k. keep (suc k)) xs)) (agree 0 x refl).0)
    go false behind here = shifted parts range first (rows (λ k. keep (suc k)) (length xs)) ∙ here
