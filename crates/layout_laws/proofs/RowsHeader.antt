-- The head of `#~` is read as the tables that are there and their counts.
use Rattle.std.proofs.Common.{◌≡◌, ℕ, zero, suc, ◌+◌, ◌*◌, ◌<◌, Bool, true, false, not, cond, ◌&&◌, ◌||◌, ltb, ltb-true, eqb, eqb-true, List, [], ◌∷◌, ◌++◌, length, get_or, refl, ap, sym, ◌∙◌, subst, arith}
use Rattle.std.specs.List.{AllByRecursion, flat_map, list_all, range_with_len}
use Rattle.std.proofs.lemmas.List.Elements.{All-from_recursion}
use Rattle.std.proofs.lemmas.List.FromFn.{get_or-map-range_with_len}
use Rattle.cil_layout.specs.declared.rows.TheConstants.{TABLES}
use Rattle.cil_layout.specs.declared.fixed.TheConstants.{TABLES_HEADER, VALID_TABLES}
use Rattle.cil_layout.specs.Layout.{four}
use Rattle.cil_layout.proofs.Below.{all_below, all_below_at, and_left, and_right}
use Rattle.file_tables.specs.Bytes.{u16_at, u32_at, u64_at, has_bit}
use Rattle.file_tables.specs.Schema.{columns_of}
use Rattle.file_tables.specs.Tables.{count_of}
use Rattle.file_tables.specs.Metadata.{tables_begin, valid_bits, present_before, count_in, first_row, shape_of, is_known_table}
use Rattle.layout_laws.proofs.RowsNumbers.{byte_behind, u32_behind, four_read}

-- the bits of VALID_TABLES
abbrev pub valid : ℕ
valid = 0x20928028657

-- the 24 bytes before the counts
abbrev pub head : ℕ → List ℕ
head heap_sizes = TABLES_HEADER ++ (heap_sizes ∷ VALID_TABLES)

abbrev pub counts_of : (ℕ → ℕ) → List ℕ → List ℕ
counts_of count tables = flat_map (λ table. four (count table)) tables

-- `#~` begins at 108 of the region, and has these counts and rows
pub record HasStream (region before : List ℕ) (heap_sizes : ℕ) (count : ℕ → ℕ) (rows behind : List ℕ) : Type 0 where
  pub is : region ≡ before ++ (head heap_sizes ++ (counts_of count TABLES ++ (rows ++ behind)))
  pub start : length before ≡ 108
  pub begin : tables_begin region ≡ 108
  -- only tables that are there have rows, and not too many
  pub few : (table : ℕ) → table < 64 → count table < 4294967296
  pub none : (table : ℕ) → table < 64 → has_bit valid table ≡ false → count table ≡ 0

-- each table that is there has its place in TABLES
place_test : ℕ → Bool
place_test table = not (has_bit valid table) || (ltb (present_before valid table) 14 && eqb (get_or TABLES (present_before valid table) 0) table)

place_tests : all_below place_test 64 ≡ true
unfolding place_test all_below present_before
place_tests = refl

place_of : (table : ℕ) → table < 64 → has_bit valid table ≡ true → (present_before valid table < 14) × (get_or TABLES (present_before valid table) 0 ≡ table)
unfolding place_test
place_of table below there =
    let all : place_test table ≡ true = all_below_at place_test 64 table place_tests below in
    let both : (ltb (present_before valid table) 14 && eqb (get_or TABLES (present_before valid table) 0) table) ≡ true = rw there at all in
    (ltb-true _ _ (and_left _ _ both), eqb-true _ _ (and_right _ _ both))

-- what holds of each of TABLES holds of each table that is there
pub for_tables : (P : ℕ → Type 0) → AllByRecursion P TABLES → (table : ℕ) → table < 64 → has_bit valid table ≡ true → P table
for_tables P each table below there =
    let place : (present_before valid table < 14) × (get_or TABLES (present_before valid table) 0 ≡ table) = place_of table below there in
    subst P place.1 (All-from_recursion P TABLES each (present_before valid table) 0 place.0)

-- the count of the table at place k
count_read : (count : ℕ → ℕ) (tables ys : List ℕ) (k at : ℕ) → k < length tables → at ≡ 4 * k → count (get_or tables k 0) < 4294967296 → u32_at (counts_of count tables ++ ys) at ≡ count (get_or tables k 0)
count_read count [] ys k at below e fits = absurd (omega arith)
count_read count (t ∷ ts) ys zero at below e fits =
    let same : at ≡ 0 = omega (arith, e) in
    rw same (four_read (count t) (counts_of count ts ++ ys) fits)
count_read count (t ∷ ts) ys (suc k) at below e fits =
    u32_behind (four (count t)) (counts_of count ts ++ ys) at (4 * k) (omega (arith, e)) ∙ count_read count ts ys k (4 * k) (omega arith) refl fits

-- the bytes behind HeapSizes
low_bits : (heap_sizes : ℕ) (ys : List ℕ) → u32_at (head heap_sizes ++ ys) 8 ≡ 0x28028657
unfolding u32_at u16_at
low_bits heap_sizes ys = refl

high_bits : (heap_sizes : ℕ) (ys : List ℕ) → u32_at (head heap_sizes ++ ys) 12 ≡ 0x209
unfolding u32_at u16_at
high_bits heap_sizes ys = refl

module _ (region before : List ℕ) (heap_sizes : ℕ) (count : ℕ → ℕ) (rows behind : List ℕ) (has : HasStream region before heap_sizes count rows behind) where
  -- HeapSizes
  pub heap_sizes_read : get_or region (tables_begin region + 6) 0 ≡ heap_sizes
  heap_sizes_read = rw (has.begin, has.is) (byte_behind before (head heap_sizes ++ (counts_of count TABLES ++ (rows ++ behind))) 114 6 (omega (arith, has.start)))

  pub valid_read : valid_bits region ≡ valid
  unfolding valid_bits u64_at
  valid_read =
      let ys : List ℕ = counts_of count TABLES ++ (rows ++ behind) in
      let low : u32_at (before ++ (head heap_sizes ++ ys)) 116 ≡ 0x28028657 = u32_behind before (head heap_sizes ++ ys) 116 8 (omega (arith, has.start)) ∙ low_bits heap_sizes ys in
      let high : u32_at (before ++ (head heap_sizes ++ ys)) 120 ≡ 0x209 = u32_behind before (head heap_sizes ++ ys) 120 12 (omega (arith, has.start)) ∙ high_bits heap_sizes ys in
      rw (has.begin, has.is, low, high) refl

  there_read : (table : ℕ) → table < 64 → has_bit valid table ≡ true → u32_at region (132 + 4 * present_before valid table) ≡ count table
  there_read table below there =
      let k : ℕ = present_before valid table in
      let place : (present_before valid table < 14) × (get_or TABLES (present_before valid table) 0 ≡ table) = place_of table below there in
      let fits : count (get_or TABLES k 0) < 4294967296 = subst (λ t. count t < 4294967296) (sym place.1) (has.few table below) in
      let ys : List ℕ = rows ++ behind in
      ap (λ bytes. u32_at bytes (132 + 4 * k)) has.is
      ∙ u32_behind before (head heap_sizes ++ (counts_of count TABLES ++ ys)) (132 + 4 * k) (24 + 4 * k) (omega (arith, has.start))
      ∙ u32_behind (head heap_sizes) (counts_of count TABLES ++ ys) (24 + 4 * k) (4 * k) (omega arith)
      ∙ count_read count TABLES ys k (4 * k) place.0 refl fits
      ∙ ap count place.1

  -- the count of a table
  pub count_in_read : (table : ℕ) → table < 64 → count_in region table ≡ count table
  unfolding count_in
  count_in_read table below =
      rw (has.begin, valid_read) (
      elim (has_bit valid table) as (λ b. has_bit valid table ≡ b → cond b (u32_at region (132 + 4 * present_before valid table)) 0 ≡ count table) [
        | true ↦ λ there. there_read table below there
        | false ↦ λ missing. sym (has.none table below missing)
      ] refl
      )

  pub first_row_read : first_row region ≡ 188
  unfolding first_row present_before
  first_row_read = rw (has.begin, valid_read) refl

  pub known_tables : list_all (is_known_table (valid_bits region)) (range_with_len 0 64) ≡ true
  unfolding is_known_table columns_of
  known_tables = rw valid_read refl

  pub shape_counts : (table : ℕ) → table < 64 → count_of (shape_of region) table ≡ count table
  unfolding shape_of
  shape_counts table below = get_or-map-range_with_len (count_in region) 0 64 table table 0 below (omega arith) ∙ count_in_read table below
