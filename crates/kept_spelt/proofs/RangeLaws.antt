-- The fields and methods of a type lie in the tables (rule 12).
use Rattle.std.proofs.Common.{◌≡◌, ℕ, zero, suc, ◌+◌, ◌≤◌, Bool, true, List, [], ◌∷◌, Option, Some, None, refl, sym, ap, subst, arith}
use Rattle.std.specs.Prelude.{◌&&◌, max, nat_le, slice_get, slice_index}
use Rattle.std.specs.List.{enumerate_from, list_all}
use Rattle.std.specs.Option.{option_map_or}
use Rattle.std.proofs.lemmas.Bool.{and_parts, leb-true}
use Rattle.std.proofs.lemmas.Option.{get_or_from_slice_get}
use Rattle.file_tables.specs.declared.schema.Column.TheVariants.{ListOf}
use Rattle.file_tables.specs.Schema.{columns_of}
use Rattle.file_tables.specs.Metadata.{MetadataPart, rows_of, row_count, column_of, is_column, is_row}
use Rattle.assemblies.proofs.Back.{get_within}
use Rattle.world_rows.specs.Tokens.{type_defs, fields, methods}
use Rattle.world_rows.specs.Rows.{list_first, list_end, list_count}

all_at : {A : Type 0} (test : A → Bool) (xs : List A) (n : ℕ) (x : A) → list_all test xs ≡ true → slice_get xs n ≡ Some x → test x ≡ true
all_at test [] n x h e = absurd (cc e)
all_at test (y ∷ ys) zero x h e = let same : y ≡ x = cc e in subst (λ z. test z ≡ true) same (and_parts (test y) (list_all test ys) h).0
all_at test (y ∷ ys) (suc n) x h e = all_at test ys n x (and_parts (test y) (list_all test ys) h).1 e

-- what rule 12 says of a column of lists
abbrev IsListColumn : MetadataPart → ℕ → ℕ → Type 0
IsListColumn m table c =
    (k : ℕ) → is_row m type_defs (suc k) ≡ true → (nat_le (max 1 (column_of m type_defs k c)) (column_of m type_defs (suc k) c) && nat_le (column_of m type_defs (suc k) c) (row_count m table + 1)) ≡ true

field_column : (m : MetadataPart) → IsListColumn m fields 4
unfolding is_row columns_of is_column
field_column m k e = all_at (λ c. is_column m c.1 (column_of m type_defs k c.0) (column_of m type_defs (suc k) c.0)) (enumerate_from 0 (columns_of type_defs)) 4 (4, ListOf fields) e refl

method_column : (m : MetadataPart) → IsListColumn m methods 5
unfolding is_row columns_of is_column
method_column m k e = all_at (λ c. is_column m c.1 (column_of m type_defs k c.0) (column_of m type_defs (suc k) c.0)) (enumerate_from 0 (columns_of type_defs)) 5 (5, ListOf methods) e refl

module _ (m : MetadataPart) (kept : (row : ℕ) → row ≤ row_count m type_defs → is_row m type_defs row ≡ true) where
  first_within : (table c : ℕ) → IsListColumn m table c → (j : ℕ) (row : List ℕ) → slice_get (rows_of m type_defs) j ≡ Some row → list_first c row ≤ row_count m table
  first_within table c column j row at =
      let below = get_within (rows_of m type_defs) j row at in
      let own : slice_index row c ≡ column_of m type_defs (suc j) c = sym (ap (λ r. slice_index r c) (get_or_from_slice_get (rows_of m type_defs) j row [] at)) in
      let b = and_parts (nat_le (max 1 (column_of m type_defs j c)) (column_of m type_defs (suc j) c)) (nat_le (column_of m type_defs (suc j) c) (row_count m table + 1)) (column j (kept (suc j) (omega (arith, below)))) in
      let high = leb-true (column_of m type_defs (suc j) c) (row_count m table + 1) b.1 in
      omega (arith, own, high)

  end_within : (table c : ℕ) → IsListColumn m table c → (j : ℕ) → list_end m table c j ≤ row_count m table
  end_within table c column j = by (slice_get (rows_of m type_defs) (suc j)) refl
    where
      by : (o : Option (List ℕ)) → slice_get (rows_of m type_defs) (suc j) ≡ o → option_map_or (list_first c) o (row_count m table) ≤ row_count m table
      by None e = omega arith
      by (Some row) e = first_within table c column (suc j) row e

  list_within : (table c : ℕ) → IsListColumn m table c → (j : ℕ) (row : List ℕ) → slice_get (rows_of m type_defs) j ≡ Some row → list_first c row + list_count m table c j row ≤ row_count m table
  list_within table c column j row at = omega (arith, first_within table c column j row at, end_within table c column j)

  pub fields_within : (j : ℕ) (row : List ℕ) → slice_get (rows_of m type_defs) j ≡ Some row → list_first 4 row + list_count m fields 4 j row ≤ row_count m fields
  fields_within = list_within fields 4 (field_column m)

  pub methods_within : (j : ℕ) (row : List ℕ) → slice_get (rows_of m type_defs) j ≡ Some row → list_first 5 row + list_count m methods 5 j row ≤ row_count m methods
  methods_within = list_within methods 5 (method_column m)
