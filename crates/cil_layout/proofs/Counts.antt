-- What the builder counts goes along with what is asked for.
use Rattle.std.proofs.Common.{◌≡◌, ℕ, Bool, replicate, ◌+◌, ◌*◌, ◌<◌, ◌≤◌, min, List, [], ◌∷◌, ◌++◌, length, get_or, sum_by, eqb, eqb-true, cond, true, false, subst, sym, ap, refl, arith}
use Rattle.std.proofs.lemmas.List.Sums.{sum_by-append, sum_by-cons}
use Rattle.std.proofs.lemmas.Bool.Decides.{nat_tests}
use Rattle.cil_layout.proofs.Below.{all_below, all_below_at}
use Rattle.cil_layout.specs.declared.rows.Row.{Row}
use Rattle.cil_layout.specs.declared.rows.Row.TheVariants.{Field, Literal}
use Rattle.cil_layout.specs.Asked.{Asked, name_weight, if_filled, one_if, table_of, data_rows, asked_first, with_row, with_entry, rows_of, fixed_count, count_in, row_weight, weight_of}
use Rattle.cil_layout.specs.Text.{text_end, text_size, literal_size}
use Rattle.cil_layout.specs.Counted.{IsCounted}

pub rows_of-with_row : (r : Asked) (row : Row) (table : ℕ) → rows_of (with_row r row) table ≡ rows_of r table + count_in table row
unfolding rows_of
rows_of-with_row r row table = omega (arith, sum_by-append (count_in table) r.rows (row ∷ []))

pub weight_of-with_row : (r : Asked) (row : Row) → weight_of (with_row r row) ≡ weight_of r + row_weight row
unfolding weight_of
weight_of-with_row r row = omega (arith, sum_by-append row_weight r.rows (row ∷ []))

pub text_end-with_row : (r : Asked) (row : Row) → text_end (r.rows ++ row ∷ []) ≡ text_end r.rows + literal_size row
unfolding text_end
text_end-with_row r row = omega (arith, sum_by-append literal_size r.rows (row ∷ []))

-- a row has at most one row of FieldRVA, and only a field has one
if_filled_le : (bytes : List ℕ) → if_filled bytes ≤ 1
if_filled_le [] = omega arith
if_filled_le (b ∷ bs) = omega arith

rva_le_field : (row : Row) → count_in 29 row ≤ count_in 4 row
rva_le_field (Field f) = omega (arith, if_filled_le f.bytes)
rva_le_field _ = omega arith

rvas_le_fields : (rows : List Row) → sum_by (count_in 29) rows ≤ sum_by (count_in 4) rows
rvas_le_fields [] = omega arith
rvas_le_fields (row ∷ rows) = omega (arith, rva_le_field row, rvas_le_fields rows, sum_by-append (count_in 29) (row ∷ []) rows, sum_by-append (count_in 4) (row ∷ []) rows)

rvas_of_le : (r : Asked) → rows_of r 29 ≤ rows_of r 4
unfolding rows_of
rvas_of_le r = omega (arith, rvas_le_fields r.rows)

-- room in the row's own table is room in each
own_room : (count : ℕ → ℕ) (own table : ℕ) → table < 64 → count table ≤ 65534 → (own < 64 → count own < 65534) → count table + one_if (eqb own table) ≤ 65534
own_room count own table below old room = elim (eqb own table) as (λ b. eqb own table ≡ b → count table + one_if b ≤ 65534) [
  | true ↦ λ same. let e : own ≡ table = eqb-true own table same in
      let r : count own < 65534 = room (omega arith) in
      let f : count own ≡ count table = ap count e in omega (arith, r, f)
  | false ↦ λ other. omega arith
] refl

within_row : (r : Asked) (row : Row) → ((table : ℕ) → table < 64 → rows_of r table ≤ 65534) → (table_of row < 64 → rows_of r (table_of row) < 65534) → (table : ℕ) → table < 64 → rows_of (with_row r row) table ≤ 65534
within_row r row old room table below =
    let fields : rows_of r 4 + one_if (eqb (table_of row) 4) ≤ 65534 = own_room (rows_of r) (table_of row) 4 (omega arith) (old 4 (omega arith)) room in
    let own : rows_of r table + one_if (eqb (table_of row) table) ≤ 65534 = own_room (rows_of r) (table_of row) table below (old table below) room in
    let rvas : rows_of (with_row r row) 29 ≤ 65534 = omega (arith, rows_of-with_row r row 4, rvas_of_le (with_row r row)) in
    let more : rows_of (with_row r row) table ≡ rows_of r table + count_in table row = rows_of-with_row r row table in
    elim (eqb table 29) as (λ b. eqb table 29 ≡ b → rows_of (with_row r row) table ≡ rows_of r table + (one_if (eqb (table_of row) table) + cond b (data_rows row) 0) → rows_of (with_row r row) table ≤ 65534) [
      | true ↦ λ same _. subst (λ t. rows_of (with_row r row) t ≤ 65534) (sym (eqb-true table 29 same)) rvas
      | false ↦ λ _ e. omega (arith, e, own)
    ] refl more

fixed_le : (table : ℕ) → fixed_count table ≤ 3
fixed_le table = grind (arith, nat_tests)

-- only literals stand in #US
plain_size : (row : Row) → table_of row < 64 → literal_size row ≡ 0
plain_size (Literal units) below = absurd (omega arith)
plain_size _ below = refl

-- a further row
pub counted_row : (r : Asked) (row : Row) (counts counts' : List ℕ) (weight weight' place : ℕ)
    → IsCounted r counts weight place
    → ((table : ℕ) → table < 64 → get_or counts' table 0 ≡ get_or counts table 0 + count_in table row)
    → table_of row < 64
    → rows_of r (table_of row) < 65534
    → weight' ≡ min (weight + row_weight row) 4194305
    → IsCounted (with_row r row) counts' weight' place
counted_row r row counts counts' weight weight' place old counted below room heavier = record {
  counts_are = λ table in_range. omega (arith, counted table in_range, old.counts_are table in_range, rows_of-with_row r row table);
  within = within_row r row old.within (λ _. room);
  weight_is = omega (arith, heavier, old.weight_is, weight_of-with_row r row);
  text_is = omega (arith, old.text_is, text_end-with_row r row, plain_size row below);
  text_fits = old.text_fits;
}

-- nothing but the entry is another
pub counted_entry : (r : Asked) (counts : List ℕ) (weight place token : ℕ) → IsCounted r counts weight place → IsCounted (with_entry r token) counts weight place
unfolding rows_of weight_of
counted_entry r counts weight place token old = record {
  counts_are = old.counts_are;
  within = old.within;
  weight_is = old.weight_is;
  text_is = old.text_is;
  text_fits = old.text_fits;
}

-- the counts before anything is asked for
first_counts : List ℕ
first_counts = 1 ∷ 0 ∷ 1 ∷ replicate 29 0 ++ 1 ∷ replicate 31 0

first_test : ℕ → Bool
first_test table = eqb (get_or first_counts table 0) (fixed_count table)

first_tests : all_below first_test 64 ≡ true
unfolding first_test first_counts all_below
first_tests = refl

pub counts_first : (table : ℕ) → table < 64 → get_or (1 ∷ 0 ∷ 1 ∷ replicate 29 0 ++ 1 ∷ replicate 31 0) table 0 ≡ fixed_count table
unfolding first_test first_counts
counts_first table below = eqb-true _ _ (all_below_at first_test 64 table first_tests below)

pub counted_first : (name version : List ℕ) (counts : List ℕ) (weight : ℕ) → counts ≡ 1 ∷ 0 ∷ 1 ∷ replicate 29 0 ++ 1 ∷ replicate 31 0 → weight ≡ min (4192 + name_weight name) 4194305 → IsCounted (asked_first name version) counts weight 1
unfolding rows_of weight_of text_end
counted_first name version counts weight e w = record {
  counts_are = λ table below. omega (arith, ap (λ cs. get_or cs table 0) e, counts_first table below);
  within = λ table below. omega (arith, fixed_le table);
  weight_is = omega (arith, w);
  text_is = refl;
  text_fits = omega arith;
}

-- a further literal is too heavy where its weight stops behind the largest one
pub literal_weight : (r : Asked) (units : List ℕ) (counts : List ℕ) (weight weight' place : ℕ)
    → IsCounted r counts weight place
    → weight' ≡ min (min (min (weight + length units) 4194305 + length units) 4194305 + 5) 4194305
    → weight' ≡ min (weight_of (with_row r (Literal units))) 4194305
literal_weight r units counts weight weight' place old heavier = omega (arith, heavier, old.weight_is, weight_of-with_row r (Literal units))

pub text_size_le : (units : ℕ) → text_size units ≤ 2 * units + 5
text_size_le units = grind (arith, nat_tests)

-- a literal is no row of a table
literal_in : (units : List ℕ) (table : ℕ) → table < 64 → count_in table (Literal units) ≡ 0
literal_in units table below = grind (arith, nat_tests)

size_le : (row : Row) → literal_size row ≤ row_weight row
size_le (Literal units) = grind (arith, nat_tests)
size_le _ = omega arith

sizes_le : (rows : List Row) → sum_by literal_size rows ≤ sum_by row_weight rows
sizes_le [] = omega arith
sizes_le (row ∷ rows) = omega (arith, size_le row, sizes_le rows, sum_by-cons literal_size row rows, sum_by-cons row_weight row rows)

weight_is_more : (r : Asked) → 4096 + sum_by row_weight r.rows ≤ weight_of r
unfolding weight_of
weight_is_more r = omega arith

text_fits_weight : (rows : List Row) → text_end rows ≤ 1 + sum_by row_weight rows
unfolding text_end
text_fits_weight rows = omega (arith, sizes_le rows)

pub counted_literal : (r : Asked) (units : List ℕ) (counts : List ℕ) (weight weight' place place' : ℕ)
    → IsCounted r counts weight place
    → weight' ≡ min (weight_of (with_row r (Literal units))) 4194305
    → weight' ≤ 4194304
    → place' ≡ place + text_size (length units)
    → IsCounted (with_row r (Literal units)) counts weight' place'
counted_literal r units counts weight weight' place place' old heavier light placed = record {
  counts_are = λ table below. omega (arith, old.counts_are table below, rows_of-with_row r (Literal units) table, literal_in units table below);
  within = λ table below. omega (arith, old.within table below, rows_of-with_row r (Literal units) table, literal_in units table below);
  weight_is = heavier;
  text_is = omega (arith, placed, old.text_is, text_end-with_row r (Literal units));
  text_fits = omega (arith, heavier, light, placed, old.text_is, text_end-with_row r (Literal units), text_fits_weight (r.rows ++ Literal units ∷ []), weight_is_more (with_row r (Literal units)));
}
