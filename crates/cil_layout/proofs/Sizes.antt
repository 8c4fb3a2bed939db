-- The bytes of a file are no more than its weight.
use Rattle.std.proofs.Common.{◌≡◌, ℕ, ◌+◌, ◌-◌, ◌*◌, ◌≤◌, List, [], ◌∷◌, ◌++◌, length, sum_by, take, replicate, refl, arith, length-append, Bool, true, false, cond, eqb, if◌then◌else◌, ap, ◌∙◌}
use Rattle.std.specs.List.{flat_map, list_any}
use Rattle.std.proofs.lemmas.List.{length-replicate, length-take}
use Rattle.std.proofs.lemmas.List.Sums.{sum_by-cons}
use Rattle.std.proofs.lemmas.Bool.Decides.{nat_tests}
use Rattle.cil_layout.specs.declared.rows.Row.{Row}
use Rattle.cil_layout.specs.declared.rows.Row.TheVariants.{TypeDef, Field, MethodDef, AssemblyRef, TypeRef, MemberRef, TypeSpec, Locals, InterfaceImpl, NestedClass, ClassLayout, Literal}
use Rattle.cil_layout.specs.declared.places.Places.{Places}
use Rattle.cil_layout.specs.Asked.{padded_length, row_weight, count_in, if_filled, table_of, data_rows, one_if}
use Rattle.cil_layout.specs.Text.{is_special, compressed, blob_entry, text_bytes, unit_bytes}
use Rattle.cil_layout.specs.Heaps.{padded, name_entry, strings_of, blobs_of, texts_of, content_of}
use Rattle.cil_layout.specs.Numbers.{reach, after, is_field, is_method, rows_in, rows_from, data_row, data_row_of, numbers_of}
use Rattle.cil_layout.specs.Layout.{spelled, four}

pub name_le : (name : List ℕ) → length (name_entry name) ≤ length name + 1
name_le [] = omega arith
name_le (c ∷ cs) = omega (arith, length-append (c ∷ cs) (0 ∷ []))

compressed_le : (n : ℕ) → length (compressed n) ≤ 4
compressed_le n = grind (arith, nat_tests)

pub blob_le : (bytes : List ℕ) → length (blob_entry bytes) ≤ length bytes + 4
blob_le bytes = omega (arith, length-append (compressed (length bytes)) bytes, compressed_le (length bytes))

pub length-padded : (bytes : List ℕ) → length (padded bytes) ≡ padded_length (length bytes)
length-padded bytes = omega (arith, length-append bytes (replicate (padded_length (length bytes) - length bytes) 0), length-replicate {A = ℕ} (padded_length (length bytes) - length bytes) 0)

units_length : (units : List ℕ) → length (flat_map unit_bytes units) ≡ 2 * length units
units_length [] = refl
units_length (u ∷ us) = omega (arith, units_length us)

pub length-text_bytes : (units : List ℕ) → length (text_bytes units) ≡ 2 * length units + 1
length-text_bytes units = omega (arith, length-append (flat_map unit_bytes units) ((if list_any is_special units then 1 else 0) ∷ []), units_length units)

text_le : (units : List ℕ) → length (compressed (2 * length units + 1) ++ text_bytes units) ≤ 2 * length units + 5
text_le units = omega (arith, compressed_le (2 * length units + 1), length-append (compressed (2 * length units + 1)) (text_bytes units), length-text_bytes units)

-- how many rows of tables a row makes
abbrev pub tables_of : Row → ℕ
tables_of row =
    count_in 1 row + count_in 2 row + count_in 4 row + count_in 6 row + count_in 9 row + count_in 10 row + count_in 15 row
    + count_in 17 row + count_in 27 row + count_in 29 row + count_in 35 row + count_in 41 row

-- what a row adds to the heaps, the data and the tables
abbrev added : Row → ℕ
added row = length (strings_of row) + length (blobs_of row) + length (texts_of row) + length (content_of row) + 32 * tables_of row

added_le : (row : Row) → added row ≤ row_weight row
added_le (TypeDef t) = omega (arith, name_le t.namespace, name_le t.name, length-append (name_entry t.namespace) (name_entry t.name))
added_le (Field f) = omega (arith, name_le f.name, blob_le f.signature, length-padded f.bytes)
added_le (MethodDef m) = omega (arith, name_le m.name, blob_le m.signature, length-padded m.body)
added_le (AssemblyRef a) = omega (arith, name_le a.name)
added_le (TypeRef t) = omega (arith, name_le t.namespace, name_le t.name, length-append (name_entry t.namespace) (name_entry t.name))
added_le (MemberRef m) = omega (arith, name_le m.name, blob_le m.signature)
added_le (TypeSpec signature) = omega (arith, blob_le signature)
added_le (Locals signature) = omega (arith, blob_le signature)
added_le (InterfaceImpl i) = omega arith
added_le (NestedClass n) = omega arith
added_le (ClassLayout l) = omega arith
added_le (Literal units) = omega (arith, text_le units)

one_kind : (row : Row) → is_field row + is_method row ≤ 32 * tables_of row
one_kind (Field f) = omega arith
one_kind (MethodDef m) = omega arith
one_kind _ = omega arith

-- the places go no further than the weight
pub reach_after : (p : Places) (row : Row) → reach (after p row) ≤ reach p + row_weight row
reach_after p row = omega (arith, added_le row, one_kind row)

-- what all rows add
pub record Sums (rows : List Row) : Type 0 where
  pub fits : length (flat_map strings_of rows) + length (flat_map blobs_of rows) + length (flat_map texts_of rows) + length (flat_map content_of rows) + 32 * sum_by tables_of rows ≤ sum_by row_weight rows

pub sums : (rows : List Row) → Sums rows
sums [] = record { fits = omega arith }
sums (row ∷ rows) = record {
  fits = omega (
    arith,
    (sums rows).fits,
    added_le row,
    sum_by-cons tables_of row rows,
    sum_by-cons row_weight row rows,
    length-append (strings_of row) (flat_map strings_of rows),
    length-append (blobs_of row) (flat_map blobs_of rows),
    length-append (texts_of row) (flat_map texts_of rows),
    length-append (content_of row) (flat_map content_of rows),
  );
}

-- the rows of tables, table by table
pub tables_sum : (rows : List Row) → sum_by tables_of rows ≡
    sum_by (count_in 1) rows + sum_by (count_in 2) rows + sum_by (count_in 4) rows + sum_by (count_in 6) rows + sum_by (count_in 9) rows + sum_by (count_in 10) rows + sum_by (count_in 15) rows
    + sum_by (count_in 17) rows + sum_by (count_in 27) rows + sum_by (count_in 29) rows + sum_by (count_in 35) rows + sum_by (count_in 41) rows
tables_sum [] = refl
tables_sum (row ∷ rows) = omega (
  arith,
  tables_sum rows,
  sum_by-cons tables_of row rows,
  sum_by-cons (count_in 1) row rows,
  sum_by-cons (count_in 2) row rows,
  sum_by-cons (count_in 4) row rows,
  sum_by-cons (count_in 6) row rows,
  sum_by-cons (count_in 9) row rows,
  sum_by-cons (count_in 10) row rows,
  sum_by-cons (count_in 15) row rows,
  sum_by-cons (count_in 17) row rows,
  sum_by-cons (count_in 27) row rows,
  sum_by-cons (count_in 29) row rows,
  sum_by-cons (count_in 35) row rows,
  sum_by-cons (count_in 41) row rows,
)

-- numbers take no more bytes than their widths say
spelled_le : (widths numbers : List ℕ) → length (spelled widths numbers) ≤ sum_by (λ w. w) widths
spelled_le [] numbers = omega arith
spelled_le (w ∷ ws) [] = omega arith
spelled_le (w ∷ ws) (n ∷ ns) = omega (arith, spelled_le ws ns, length-append (take w (four n)) (spelled ws ns), length-take w (four n), sum_by-cons (λ w. w) w ws)

pub rows_le : (widths : List ℕ) (rows : List (List ℕ)) → sum_by (λ w. w) widths ≤ 32 → length (flat_map (spelled widths) rows) ≤ 32 * length rows
rows_le widths [] fits = omega arith
rows_le widths (row ∷ rows) fits = omega (arith, rows_le widths rows fits, spelled_le widths row, length-append (spelled widths row) (flat_map (spelled widths) rows))

data_rows_of : (p : Places) (row : Row) → length (data_row_of p row) ≡ data_rows row
data_rows_of p (Field f) = filled f.bytes where
  filled : (bytes : List ℕ) → length (data_row p bytes) ≡ if_filled bytes
  filled [] = refl
  filled (b ∷ bs) = refl
data_rows_of p _ = refl

length_if : {A : Type 0} (b : Bool) (x : A) → length (cond b (x ∷ []) []) ≡ one_if b
length_if true x = refl
length_if false x = refl

length_rows_if : (b : Bool) (xs : List (List ℕ)) → length (cond b xs []) ≡ cond b (length xs) 0
length_rows_if true xs = refl
length_rows_if false xs = refl

rows_in_length : (table : ℕ) (p : Places) (row : Row) → length (rows_in table p row) ≡ count_in table row
rows_in_length table p row =
    length-append (cond (eqb (table_of row) table) (numbers_of p row ∷ []) []) (cond (eqb table 29) (data_row_of p row) [])
    ∙ ap (λ n. n + length (cond (eqb table 29) (data_row_of p row) [])) (length_if (eqb (table_of row) table) (numbers_of p row))
    ∙ ap (λ n. one_if (eqb (table_of row) table) + n) (length_rows_if (eqb table 29) (data_row_of p row) ∙ ap (λ n. cond (eqb table 29) n 0) (data_rows_of p row))

pub length-rows_from : (table : ℕ) (p : Places) (rows : List Row) → length (rows_from table p rows) ≡ sum_by (count_in table) rows
unfolding rows_from
length-rows_from table p [] = refl
length-rows_from table p (row ∷ rows) = omega (arith, length-rows_from table (after p row) rows, rows_in_length table p row, length-append (rows_in table p row) (rows_from table (after p row) rows), sum_by-cons (count_in table) row rows)

-- no row of these tables is asked for
pub no_fixed : (rows : List Row) → (sum_by (count_in 0) rows ≡ 0) × (sum_by (count_in 32) rows ≡ 0)
no_fixed [] = (refl, refl)
no_fixed (row ∷ rows) = (omega (arith, sum_by-cons (count_in 0) row rows, (no_fixed rows).0, (none row).0), omega (arith, sum_by-cons (count_in 32) row rows, (no_fixed rows).1, (none row).1)) where
  none : (x : Row) → (count_in 0 x ≡ 0) × (count_in 32 x ≡ 0)
  none (TypeDef t) = (refl, refl)
  none _ = (refl, refl)
