-- The first rows with a number in a column.
use Rattle.std.proofs.Common.{◌≡◌, ℕ, suc, ◌+◌, ◌<◌, ◌≤◌, Bool, true, false, cond, List, [], ◌∷◌, ◌++◌, take, map, Option, Some, None, refl, sym, ap, ◌∙◌, add-one}
use Rattle.std.specs.Prelude.{slice_index, slice_get, ◌==◌}
use Rattle.std.specs.List.{position, find}
use Rattle.std.specs.Option.{option_map}
use Rattle.std.specs.Ordering.{nat_cmp, eq_by_cmp}
use Rattle.std.specs.Cmp.{unsigned_tied, nat_eq_equiv}
use Rattle.std.specs.BTreeMap.{BTreeMap, get}
use Rattle.std.proofs.lemmas.List.{map-append, take_more}
use Rattle.std.proofs.lemmas.Option.{slice_get_past, slice_get-get_or}
use Rattle.machine.specs.Throw.{on_some}
use Rattle.file_tables.specs.Metadata.{MetadataPart, rows_of, row_of, row_count}
use Rattle.kept_rows.proofs.SelectLaws.{position_step}
use Rattle.alike.proofs.Lists.{position_map}
use Rattle.world_rows.specs.Rows.{row_with}
use Rattle.first_places.specs.Places.{FindsFirst}
use Rattle.member_reading.specs.Columns.{column_numbers, FindsRows}

-- the column of the next row
pub column_more : {B : Type 0} (m : MetadataPart) (table n : ℕ) (make : List ℕ → B) (xs : List B) (x : B) → n < row_count m table → xs ≡ map make (take n (rows_of m table)) → x ≡ make (row_of m table (n + 1)) → xs ++ x ∷ [] ≡ map make (take (n + 1) (rows_of m table))
column_more m table n make xs x within e k =
    ap (λ ys. ys ++ x ∷ []) e
    ∙ ap (λ y. map make (take n (rows_of m table)) ++ y ∷ []) (k ∙ ap (λ i. make (row_of m table i)) (add-one n))
    ∙ sym (ap (map make) (take_more (rows_of m table) n [] within) ∙ map-append make (take n (rows_of m table)) (row_of m table (suc n) ∷ []))

pub find_at : {A : Type 0} (test : A → Bool) (xs : List A) → find test xs ≡ on_some (position test xs) (slice_get xs)
find_at test [] = refl
find_at {A} test (x ∷ xs) = go (test x) (find_at test xs) ∙ ap (λ o. on_some o (slice_get (x ∷ xs))) (sym (position_step test x xs))
  where
    shift : (o : Option ℕ) → on_some o (slice_get xs) ≡ on_some (option_map suc o) (slice_get (x ∷ xs))
    shift None = refl
    shift (Some n) = refl

    go : (b : Bool) → find test xs ≡ on_some (position test xs) (slice_get xs) → cond b (Some x) (find test xs) ≡ on_some (cond b (Some 0) (option_map suc (position test xs))) (slice_get (x ∷ xs))
    go true ih = refl
    go false ih = ih ∙ shift (position test xs)

pub rows_found : (m : MetadataPart) (table column : ℕ) (places : BTreeMap ℕ ℕ) → FindsFirst nat_cmp (column_numbers m table column) places → FindsRows m table column places
rows_found m table column places finds n =
    sym (find_at (λ row. slice_index row column == n) rows ∙ ap (λ o. on_some o (slice_get rows)) place)
  where
    rows : List (List ℕ)
    rows = rows_of m table

    same : (row : List ℕ) → eq_by_cmp nat_cmp n (slice_index row column) ≡ (slice_index row column == n)
    same row = unsigned_tied n (slice_index row column) ∙ nat_eq_equiv.symm n (slice_index row column)

    place : position (λ row. slice_index row column == n) rows ≡ get nat_cmp places n
    place = sym (finds n ∙ position_map (λ row. slice_index row column) (eq_by_cmp nat_cmp n) (λ row. slice_index row column == n) rows same)

module _ (m : MetadataPart) (table column n : ℕ) (places : BTreeMap ℕ ℕ) (finds : FindsRows m table column places) where
  pub no_place : get nat_cmp places n ≡ None → row_with column n (rows_of m table) ≡ None
  no_place e = sym (finds n) ∙ ap (λ o. on_some o (slice_get (rows_of m table))) e

  pub place_past : (p : ℕ) → get nat_cmp places n ≡ Some p → row_count m table ≤ p → row_with column n (rows_of m table) ≡ None
  place_past p e past = sym (finds n) ∙ ap (λ o. on_some o (slice_get (rows_of m table))) e ∙ slice_get_past (rows_of m table) p past

  pub place_within : (p : ℕ) → get nat_cmp places n ≡ Some p → p < row_count m table → row_with column n (rows_of m table) ≡ Some (row_of m table (p + 1))
  place_within p e within =
      sym (finds n) ∙ ap (λ o. on_some o (slice_get (rows_of m table))) e ∙ slice_get-get_or (rows_of m table) p [] within ∙ ap (λ k. Some (row_of m table k)) (sym (add-one p))
