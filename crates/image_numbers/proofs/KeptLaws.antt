-- Rows that are kept are rows of their tables, and no row has a number past that of the kept ones.
use Rattle.std.proofs.Common.{◌≡◌, ⊎_elim, ℕ, zero, suc, ◌<◌, ◌≤◌, Bool, true, false, List, [], ◌∷◌, length, Some, None, refl, ap, ◌∙◌, arith}
use Rattle.std.specs.Prelude.{nat_lt, if◌then◌else◌, slice_get}
use Rattle.std.specs.Option.{option_map_or}
use Rattle.std.proofs.lemmas.Bool.{cases_lt, le-ltb}
use Rattle.machine.specs.Throw.{on_some}
use Rattle.kept_rows.specs.Select.{select, below}
use Rattle.assemblies.specs.Rows.{Assembly}
use Rattle.row_closure.specs.Closure.{holds}
use Rattle.kept_numbers.specs.Numbers.{number_of}
use Rattle.row_numbers.specs.declared.table.Table.{Table}
use Rattle.row_numbers.specs.Tables.{row_in, table_length}
use Rattle.kept_marks.specs.Kept.{is_kept}

module _ (ps : List Assembly) (marks : List Bool) (t : Table) (f : ℕ) (p : Assembly) (at : slice_get ps f ≡ Some p) where
  abbrev made : ℕ → Bool → Bool
  made n b = option_map_or (λ k. holds marks k) (if b then Some (number_of ps (row_in t f n)) else None) false

  kept_by : (n : ℕ) → is_kept ps marks t f n ≡ made n (nat_lt n (table_length p t))
  kept_by n = ap (λ o. option_map_or (λ k. holds marks k) (on_some o (λ (q : Assembly). if nat_lt n (table_length q t) then Some (number_of ps (row_in t f n)) else None)) false) at

  pub kept_past : (n : ℕ) → table_length p t ≤ n → is_kept ps marks t f n ≡ false
  kept_past n le = kept_by n ∙ ap (made n) (le-ltb n (table_length p t) le)

  pub kept_there : (n : ℕ) → is_kept ps marks t f n ≡ true → n < table_length p t
  kept_there n k = ⊎_elim (λ lt. lt) (λ le. let none = kept_past n le in absurd (cc (k, none))) (cases_lt n (table_length p t))

none_below : (keep : ℕ → Bool) → ((n : ℕ) → keep n ≡ false) → (n : ℕ) → below keep n ≡ 0
none_below keep none zero = refl
none_below keep none (suc n) =
    ap (λ (b : Bool). if b then suc (below (λ k. keep (suc k)) n) else below (λ k. keep (suc k)) n) (none 0) ∙ none_below (λ k. keep (suc k)) (λ k. none (suc k)) n

-- where no row behind the last is kept
pub below_all : {A : Type 0} (keep : ℕ → Bool) (xs : List A) → ((n : ℕ) → length xs ≤ n → keep n ≡ false) → (n : ℕ) → below keep n ≤ length (select keep xs)
below_all keep [] none n = let h = none_below keep (λ k. none k (omega arith)) n in omega (arith, h)
below_all keep (x ∷ xs) none zero = omega arith
below_all keep (x ∷ xs) none (suc n) = go (keep 0) (below_all (λ k. keep (suc k)) xs (λ k le. none (suc k) (omega (arith, le))) n)
  where
    go : (b : Bool) → below (λ k. keep (suc k)) n ≤ length (select (λ k. keep (suc k)) xs) → (if b then suc (below (λ k. keep (suc k)) n) else below (λ k. keep (suc k)) n) ≤ length (if b then x ∷ select (λ k. keep (suc k)) xs else select (λ k. keep (suc k)) xs)
    go true h = omega (arith, h)
    go false h = h
