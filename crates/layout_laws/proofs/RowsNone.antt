-- A table has as many rows as were counted, and a table that isn't there has none.
use Rattle.std.proofs.Common.{◌≡◌, ℕ, ◌<◌, Bool, true, false, ◌||◌, eqb, eqb-true, List, [], ◌∷◌, length, sum_by, refl, sym, ◌∙◌, subst, arith, length-append}
use Rattle.std.specs.Prelude.{nat_le}
use Rattle.std.proofs.lemmas.Bool.{ne_eqb, lt-leb, both_ways}
use Rattle.std.proofs.lemmas.List.{nil_from_length}
use Rattle.std.proofs.lemmas.List.Sums.{sum_by-cons}
use Rattle.cil_layout.specs.declared.rows.Row.{Row}
use Rattle.cil_layout.specs.declared.rows.Row.TheVariants.{TypeDef}
use Rattle.cil_layout.specs.Asked.{Asked, table_of, count_in, fixed_count, rows_of}
use Rattle.cil_layout.specs.Numbers.{first_places, fixed_rows, rows_from, table_rows}
use Rattle.cil_layout.proofs.Below.{all_below, all_below_at}
use Rattle.cil_layout.proofs.Sizes.{length-rows_from}
use Rattle.file_tables.specs.Bytes.{has_bit}
use Rattle.layout_laws.proofs.RowsHeader.{valid}

-- the rows that nobody asks for
fixed_test : List ℕ → List ℕ → ℕ → Bool
fixed_test name version table = eqb (length (fixed_rows name version table)) (fixed_count table)

fixed_tests : (name version : List ℕ) → all_below (fixed_test name version) 64 ≡ true
unfolding fixed_test all_below
fixed_tests name version = refl

fixed_length : (name version : List ℕ) (table : ℕ) → table < 64 → length (fixed_rows name version table) ≡ fixed_count table
unfolding fixed_test
fixed_length name version table below = eqb-true _ _ (all_below_at (fixed_test name version) 64 table (fixed_tests name version) below)

pub rows_counted : (r : Asked) (table : ℕ) → table < 64 → length (table_rows r.name r.version r.rows table) ≡ rows_of r table
unfolding rows_of
rows_counted r table below =
    omega (
      arith,
      length-append (fixed_rows r.name r.version table) (rows_from table (first_places r.name) r.rows),
      fixed_length r.name r.version table below,
      length-rows_from table (first_places r.name) r.rows,
    )

-- a row is of a table that is there, or is a literal
own_table : (row : Row) → (has_bit valid (table_of row) || nat_le 64 (table_of row)) ≡ true
own_table (TypeDef t) = refl
own_table _ = refl

neither : (a b : Bool) → a ≡ false → b ≡ false → (a || b) ≡ true → ⊥
neither true b p q e = cc
neither false b p q e = cc

-- a table that is there is no table that isn't
is_other : (table there : ℕ) → has_bit valid table ≡ false → has_bit valid there ≡ true → eqb table there ≡ false
is_other table there missing bit = ne_eqb table there (λ same. both_ways (has_bit valid table) missing (subst (λ t. has_bit valid t ≡ true) (sym same) bit))

row_none : (table : ℕ) (row : Row) → table < 64 → has_bit valid table ≡ false → count_in table row ≡ 0
row_none table row below missing =
    let other : eqb (table_of row) table ≡ false =
    ne_eqb (table_of row) table (λ same. neither (has_bit valid table) (nat_le 64 table) missing (lt-leb 64 table below) (subst (λ t. (has_bit valid t || nat_le 64 t) ≡ true) same (own_table row))) in
    rw (other, is_other table 29 missing refl) refl

rows_none : (table : ℕ) (rows : List Row) → table < 64 → has_bit valid table ≡ false → sum_by (count_in table) rows ≡ 0
rows_none table [] below missing = refl
rows_none table (row ∷ rows) below missing = omega (arith, sum_by-cons (count_in table) row rows, row_none table row below missing, rows_none table rows below missing)

fixed_none : (table : ℕ) → has_bit valid table ≡ false → fixed_count table ≡ 0
fixed_none table missing = rw (is_other table 0 missing refl, is_other table 2 missing refl, is_other table 32 missing refl) refl

pub none_counted : (r : Asked) (table : ℕ) → table < 64 → has_bit valid table ≡ false → rows_of r table ≡ 0
unfolding rows_of
none_counted r table below missing = omega (arith, fixed_none table missing, rows_none table r.rows below missing)

pub none_made : (r : Asked) (table : ℕ) → table < 64 → has_bit valid table ≡ false → table_rows r.name r.version r.rows table ≡ []
none_made r table below missing = nil_from_length (table_rows r.name r.version r.rows table) (rows_counted r table below ∙ none_counted r table below missing)
