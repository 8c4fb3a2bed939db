-- The first row that tells what a type is nested in.
use Rattle.std.proofs.Common.{◌≡◌, ℕ, suc, ◌+◌, ◌-◌, ◌<◌, ◌≤◌, Bool, true, false, cond, List, [], ◌∷◌, length, Option, Some, None, refl, sym, ap, ◌∙◌, arith, add-one}
use Rattle.std.specs.Prelude.{slice_index, slice_get, ◌==◌}
use Rattle.std.specs.List.{position, find}
use Rattle.std.specs.Option.{option_map}
use Rattle.std.specs.Ordering.{nat_cmp, eq_by_cmp}
use Rattle.std.specs.Cmp.{unsigned_tied, nat_eq_equiv}
use Rattle.std.specs.BTreeMap.{BTreeMap, get}
use Rattle.std.proofs.lemmas.Option.{slice_get_past, slice_get-get_or}
use Rattle.std.proofs.lemmas.Bool.Decides.{nat_tests}
use Rattle.machine.specs.Throw.{on_some}
use Rattle.file_tables.specs.Metadata.{MetadataPart, rows_of, row_of, column_of, is_row_in}
use Rattle.kept_rows.proofs.SelectLaws.{position_step}
use Rattle.alike.proofs.Lists.{position_map}
use Rattle.world_rows.specs.Tokens.{nested_classes}
use Rattle.world_rows.specs.Rows.{enclosing_of}
use Rattle.first_places.specs.Places.{FindsFirst}
use Rattle.type_names.specs.Names.{nested_types}

pub find_at : {A : Type 0} (test : A → Bool) (xs : List A) → find test xs ≡ on_some (position test xs) (slice_get xs)
find_at test [] = refl
find_at {A} test (x ∷ xs) = go (test x) (find_at test xs) ∙ ap (λ o. on_some o (slice_get (x ∷ xs))) (sym (position_step test x xs))
  where
    shift : (o : Option ℕ) → on_some o (slice_get xs) ≡ on_some (option_map suc o) (slice_get (x ∷ xs))
    shift None = refl
    shift (Some n) = refl

    go : (b : Bool) → find test xs ≡ on_some (position test xs) (slice_get xs) → cond b (Some x) (find test xs) ≡ on_some (cond b (Some 0) (option_map suc (position test xs))) (slice_get (x ∷ xs))
    go true ih = refl
    go false ih = ih ∙ shift (position test xs)

module _ (m : MetadataPart) (places : BTreeMap ℕ ℕ) (n : ℕ) (finds : FindsFirst nat_cmp (nested_types m) places) where
  abbrev rows : List (List ℕ)
  rows = rows_of m nested_classes

  place : position (λ row. slice_index row 0 == suc n) rows ≡ get nat_cmp places (n + 1)
  place = sym (finds (n + 1) ∙ position_map (λ row. slice_index row 0) (eq_by_cmp nat_cmp (n + 1)) (λ row. slice_index row 0 == suc n) rows same)
    where
      same : (row : List ℕ) → eq_by_cmp nat_cmp (n + 1) (slice_index row 0) ≡ (slice_index row 0 == suc n)
      same row = unsigned_tied (n + 1) (slice_index row 0) ∙ nat_eq_equiv.symm (n + 1) (slice_index row 0) ∙ ap (λ k. slice_index row 0 == k) (add-one n)

  enclosing_at : enclosing_of m n ≡ option_map (λ row. slice_index row 1 - 1) (on_some (get nat_cmp places (n + 1)) (slice_get rows))
  enclosing_at = ap (option_map (λ row. slice_index row 1 - 1)) (find_at (λ row. slice_index row 0 == suc n) rows ∙ ap (λ o. on_some o (slice_get rows)) place)

  pub not_nested : get nat_cmp places (n + 1) ≡ None → enclosing_of m n ≡ None
  not_nested e = enclosing_at ∙ ap (λ o. option_map (λ row. slice_index row 1 - 1) (on_some o (slice_get rows))) e

  pub nested_past : (p : ℕ) → get nat_cmp places (n + 1) ≡ Some p → is_row_in m nested_classes (p + 1) ≡ false → enclosing_of m n ≡ None
  nested_past p e past =
      enclosing_at
      ∙ ap (λ o. option_map (λ row. slice_index row 1 - 1) (on_some o (slice_get rows))) e
      ∙ ap (option_map (λ row. slice_index row 1 - 1)) (slice_get_past rows p (few past))
    where
      few : is_row_in m nested_classes (p + 1) ≡ false → length rows ≤ p
      few h = grind (arith, nat_tests)

  pub nested_in : (p : ℕ) → get nat_cmp places (n + 1) ≡ Some p → is_row_in m nested_classes (p + 1) ≡ true → enclosing_of m n ≡ Some (column_of m nested_classes (p + 1) 1 - 1)
  nested_in p e inside =
      enclosing_at
      ∙ ap (λ o. option_map (λ row. slice_index row 1 - 1) (on_some o (slice_get rows))) e
      ∙ ap (option_map (λ row. slice_index row 1 - 1)) (slice_get-get_or rows p [] (many inside))
      ∙ ap (λ r. Some (slice_index (row_of m nested_classes r) 1 - 1)) (sym (add-one p))
    where
      many : is_row_in m nested_classes (p + 1) ≡ true → p < length rows
      many h = grind (arith, nat_tests)
