-- Rows.
use Rattle.std.proofs.Common.{◌≡◌, ℕ, suc, ◌+◌, ◌-◌, ◌<◌, ◌≤◌, List, length, get_or, drop, refl, ◌∙◌, subst, arith}
use Rattle.std.proofs.lemmas.List.{drop_more, drop_all}
use Rattle.file_tables.specs.Tables as tables

-- the numbers from place k on begin at the offset at
abbrev pub RestAt : List ℕ → List ℕ → ℕ → ℕ → ℕ → Type 0
RestAt region widths start k at = (n : ℕ) → get_or (tables.numbers_at region start widths) (k + n) 0 ≡ get_or (tables.numbers_at region at (drop k widths)) n 0

pub rest_none : (region widths : List ℕ) (start : ℕ) → RestAt region widths start 0 start
rest_none region widths start n = let e : 0 + n ≡ n = omega arith in rw e refl

pub rest_more : (region widths : List ℕ) (start k at w : ℕ) → RestAt region widths start k at → k < length widths → w ≡ get_or widths k 0 → RestAt region widths start (k + 1) (at + w)
unfolding tables.numbers_at
rest_more region widths start k at w rest below e n =
    let same : k + 1 + n ≡ k + suc n = omega arith in
    rw same (rest (suc n) ∙ rw (drop_more widths k 0 below, e) refl)

pub here : (region widths : List ℕ) (start k at : ℕ) → RestAt region widths start k at → k < length widths → get_or (tables.numbers_at region start widths) k 0 ≡ tables.number_at region at (get_or widths k 0)
unfolding tables.numbers_at
here region widths start k at rest below =
    let same : k ≡ k + 0 = omega arith in
    rw same (rest 0 ∙ rw (drop_more widths k 0 below) (subst (λ m. tables.number_at region at (get_or widths k 0) ≡ tables.number_at region at (get_or widths m 0)) same refl))

pub behind : (region widths : List ℕ) (start k at j : ℕ) → RestAt region widths start k at → length widths ≤ k → k ≤ j → get_or (tables.numbers_at region start widths) j 0 ≡ 0
unfolding tables.numbers_at
behind region widths start k at j rest all le =
    let same : j ≡ k + (j - k) = omega arith in
    rw same (rest (j - k) ∙ rw (drop_all k widths all) refl)
