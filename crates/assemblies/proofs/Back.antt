-- The numbers of kept rows, and back.
use Rattle.std.proofs.Common.{◌≡◌, ◌⊎◌, inl, inr, ⊎_elim, ℕ, zero, suc, ◌+◌, ◌<◌, ◌≤◌, Bool, true, false, ◌==◌, ◌&&◌, List, [], ◌∷◌, map, length, Some, None, refl, sym, ap, ◌∙◌, arith}
use Rattle.std.specs.Prelude.{if◌then◌else◌, nat_eq, nat_lt, slice_get, slice_index, unwrap_or}
use Rattle.std.specs.Option.{option_map}
use Rattle.std.proofs.lemmas.Bool.{eqb-true, lt-ltb, le-ltb, cases_lt}
use Rattle.std.proofs.lemmas.List.{length-map}
use Rattle.machine.specs.Data.{Id, id_eq}
use Rattle.machine_rename.proofs.PlaceLaws.{if_true, if_false}
use Rattle.machine_rename.proofs.KeptLaws.{row_law}
use Rattle.kept_rows.specs.Select.{select, below, rows}
use Rattle.kept_rows.proofs.SelectLaws.{back, within_rows}
use Rattle.assemblies.specs.Rows.{Assembly}
use Rattle.assemblies.specs.Binding.{id_at}
use Rattle.assemblies.specs.Chosen.{back_to, count_of}

pub get_within : {A : Type 0} (xs : List A) (n : ℕ) (x : A) → slice_get xs n ≡ Some x → n < length xs
get_within [] n x e = absurd (cc e)
get_within (y ∷ ys) zero x e = omega arith
get_within (y ∷ ys) (suc n) x e = let h = get_within ys n x e in omega (arith, h)

pub get_past : {A : Type 0} (xs : List A) (n : ℕ) → length xs ≤ n → slice_get xs n ≡ None
get_past [] n h = refl
get_past (y ∷ ys) zero h = absurd (omega (arith, h))
get_past (y ∷ ys) (suc n) h = get_past ys n (omega (arith, h))

pub get_there : {A : Type 0} (xs : List A) (n : ℕ) → n < length xs → (x : A) × (slice_get xs n ≡ Some x)
get_there [] n h = absurd (omega (arith, h))
get_there (y ∷ ys) zero h = (y, refl)
get_there (y ∷ ys) (suc n) h = get_there ys n (omega (arith, h))

pub count_law : {A : Type 0} (part : Assembly → List A) (ps : List Assembly) (f : ℕ) (p : Assembly) → slice_get ps f ≡ Some p → count_of part ps f ≡ length (part p)
count_law part ps f p e = ap (λ o. unwrap_or (option_map (λ q. length (part q)) o) 0) e

select_length : {A : Type 0} (keep : ℕ → Bool) (xs : List A) → length (select keep xs) ≡ length (rows keep (length xs))
select_length keep [] = refl
select_length keep (x ∷ xs) = go (keep 0) (select_length (λ k. keep (suc k)) xs)
  where
    go : (b : Bool) → length (select (λ k. keep (suc k)) xs) ≡ length (rows (λ k. keep (suc k)) (length xs)) → length (if b then x ∷ select (λ k. keep (suc k)) xs else select (λ k. keep (suc k)) xs) ≡ length (if b then 0 ∷ map suc (rows (λ k. keep (suc k)) (length xs)) else map suc (rows (λ k. keep (suc k)) (length xs)))
    go true e = ap suc (e ∙ sym (length-map (rows (λ k. keep (suc k)) (length xs)) suc))
    go false e = e ∙ sym (length-map (rows (λ k. keep (suc k)) (length xs)) suc)

pub row_back : (keep : ℕ → Bool) (count n : ℕ) → n < count → keep n ≡ true → back_to keep count (below keep n) ≡ n
row_back keep count n h k =
    let w = within_rows keep count n h k in
    if_true (nat_lt (below keep n) (length (rows keep count))) (slice_index (rows keep count) (below keep n)) (count + below keep n) (lt-ltb (below keep n) (length (rows keep count)) w.0) ∙ w.1

pub row_apart : (keep : ℕ → Bool) (count a b : ℕ) → nat_eq (back_to keep count a) (back_to keep count b) ≡ nat_eq a b
row_apart keep count a b =
    row_law (rows keep count) count (λ i h. (back keep count i h).1)
    (λ i j l h e. let p = (back keep count i (omega (arith, l, h))).2 in let q = (back keep count j h).2 in let same : i ≡ j = sym p ∙ ap (below keep) e ∙ q in absurd (omega (arith, same, l)))
    a b

-- a number is that of a kept row, or past them all
pub record IsRow (keep : ℕ → Bool) (count j : ℕ) : Type 0 where
  pub row : ℕ
  pub kept : keep row ≡ true
  pub within : row < count
  pub number : below keep row ≡ j
  pub back : back_to keep count j ≡ row

pub number_view : (keep : ℕ → Bool) (count j : ℕ) → IsRow keep count j ⊎ ((length (rows keep count) ≤ j) × (count ≤ back_to keep count j))
number_view keep count j =
    ⊎_elim
    (λ lt.
    let w = back keep count j lt in
    inl (record { row = slice_index (rows keep count) j; kept = w.0; within = w.1; number = w.2; back = if_true (nat_lt j (length (rows keep count))) (slice_index (rows keep count) j) (count + j) (lt-ltb j (length (rows keep count)) lt) }))
    (λ le.
    let e = if_false (nat_lt j (length (rows keep count))) (slice_index (rows keep count) j) (count + j) (le-ltb j (length (rows keep count)) le) in
    inr (le, omega (arith, e)))
    (cases_lt j (length (rows keep count)))

pub past_selected : {A : Type 0} (keep : ℕ → Bool) (xs : List A) (j : ℕ) → length (rows keep (length xs)) ≤ j → slice_get (select keep xs) j ≡ None
past_selected keep xs j h = get_past (select keep xs) j (omega (arith, h, select_length keep xs))

pub ids_apart : (keep : ℕ → ℕ → Bool) (count : ℕ → ℕ) (a b : Id) → id_eq (id_at a.file (back_to (keep a.file) (count a.file) a.row)) (id_at b.file (back_to (keep b.file) (count b.file) b.row)) ≡ id_eq a b
ids_apart keep count a b = go (nat_eq a.file b.file) refl
  where
    go : (t : Bool) → nat_eq a.file b.file ≡ t → ((a.file == b.file) && (back_to (keep a.file) (count a.file) a.row == back_to (keep b.file) (count b.file) b.row)) ≡ ((a.file == b.file) && (a.row == b.row))
    go true e =
        let same = eqb-true a.file b.file e in
        ap (λ f. (a.file == b.file) && (back_to (keep a.file) (count a.file) a.row == back_to (keep f) (count f) b.row)) (sym same)
        ∙ ap (λ t. (a.file == b.file) && t) (row_apart (keep a.file) (count a.file) a.row b.row)
    go false e =
        ap (λ t. t && (back_to (keep a.file) (count a.file) a.row == back_to (keep b.file) (count b.file) b.row)) e ∙ sym (ap (λ t. t && (a.row == b.row)) e)

-- a number that leads to a row is that of a kept one
pub real_row : (keep : ℕ → Bool) (count j : ℕ) → back_to keep count j < count → keep (back_to keep count j) ≡ true
real_row keep count j h =
    ⊎_elim
    (λ (w : IsRow keep count j). ap keep w.back ∙ w.kept)
    (λ p. let le = p.1 in absurd (omega (arith, h, le)))
    (number_view keep count j)
