-- What is asked of rows, of a choice of rows: tokens of kept rows name rows, and ranges lie in their tables.
use Rattle.std.proofs.Common.{◌≡◌, ℕ, zero, suc, ◌+◌, ◌-◌, ◌<◌, ◌≤◌, Bool, true, false, List, [], ◌∷◌, length, refl, sym, ap, ◌∙◌, subst, arith}
use Rattle.std.specs.Prelude.{if◌then◌else◌}
use Rattle.std.proofs.lemmas.List.{length-map}
use Rattle.image_bytes.specs.Layout.{is_range}
use Rattle.kept_rows.specs.Select.{select, below, behind}
use Rattle.assemblies.specs.Rows.{TypeToken, TypeDef, TypeRef, TypeSpec, Assembly}
use Rattle.assemblies.specs.Chosen.{Choice, first_of, token_to, raw_to, ref_to, type_row_to, chosen}
use Rattle.assemblies.proofs.Numbered.{below_next}
use Rattle.assemblies.proofs.Owners.{below_add}
use Rattle.image_form.specs.Limits.{TokenIn}
use Rattle.image_form.proofs.RowLaws.{in_range}

pub selected_count : {A : Type 0} (keep : ℕ → Bool) (xs : List A) → length (select keep xs) ≡ below keep (length xs)
selected_count keep [] = refl
selected_count keep (x ∷ xs) = go (keep 0) (selected_count (λ k. keep (suc k)) xs)
  where
    go : (b : Bool) → length (select (λ k. keep (suc k)) xs) ≡ below (λ k. keep (suc k)) (length xs) → length (if b then x ∷ select (λ k. keep (suc k)) xs else select (λ k. keep (suc k)) xs) ≡ (if b then suc (below (λ k. keep (suc k)) (length xs)) else below (λ k. keep (suc k)) (length xs))
    go true e = ap suc e
    go false e = e

grows : (keep : ℕ → Bool) (m n : ℕ) → m ≤ n → below keep m ≤ below keep n
grows keep m n h = let all : m + (n - m) ≡ n = omega (arith, h) in let sum = below_add keep m (n - m) ∙ ap (below keep) all in omega (arith, sum)

pub kept_below : {A : Type 0} (keep : ℕ → Bool) (xs : List A) (n : ℕ) → n < length xs → keep n ≡ true → below keep n < length (select keep xs)
kept_below keep xs n h k =
    let step = below_next keep n ∙ ap (λ (b : Bool). if b then suc (below keep n) else below keep n) k in
    omega (arith, selected_count keep xs, step, grows keep (suc n) (length xs) h)

range_of : (rows from count : ℕ) → from + count ≤ rows → is_range rows (first_of from count) count ≡ true
range_of rows from zero h = refl
range_of rows from (suc n) h = in_range rows from n h

-- a kept range of a table
pub own_range : {A : Type 0} (keep : ℕ → Bool) (xs : List A) (first count : ℕ) → first + count ≤ length xs → is_range (length (select keep xs)) (first_of (below keep first) (below (behind first keep) count)) (below (behind first keep) count) ≡ true
own_range keep xs first count h =
    range_of (length (select keep xs)) (below keep first) (below (behind first keep) count) (omega (arith, selected_count keep xs, below_add keep first count, grows keep (first + count) (length xs) h))

abbrev pub IsKept : Choice → TypeToken → Type 0
IsKept k (TypeDef n) = k.types n ≡ true
IsKept k (TypeRef n) = k.refs n ≡ true
IsKept k (TypeSpec n) = k.specs n ≡ true

pub token_kept : (k : Choice) (p : Assembly) (t : TypeToken) → TokenIn p t → IsKept k t → TokenIn (chosen k p) (token_to k t)
token_kept k p (TypeDef n) h e = subst (λ m. below k.types n < m) (sym (length-map (select k.types p.types) (type_row_to k))) (kept_below k.types p.types n h e)
token_kept k p (TypeRef n) h e = subst (λ m. below k.refs n < m) (sym (length-map (select k.refs p.refs) (ref_to k))) (kept_below k.refs p.refs n h e)
token_kept k p (TypeSpec n) h e = subst (λ m. below k.specs n < m) (sym (length-map (select k.specs p.specs) (raw_to k))) (kept_below k.specs p.specs n h e)
