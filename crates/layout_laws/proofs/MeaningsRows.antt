-- Where the rows that are asked for stand in their tables, and how many there are.
use Rattle.std.proofs.Common.{◌≡◌, ℕ, ◌+◌, ◌<◌, Bool, true, false, eqb, List, [], ◌∷◌, ◌++◌, length, get_or, fold, refl, sym, ap, ◌∙◌, subst, arith, length-append, append_assoc, add-one}
use Rattle.std.proofs.lemmas.List.{get_or-append-add}
use Rattle.std.proofs.lemmas.Bool.{eqb-true}
use Rattle.cil_layout.specs.declared.rows.Row.{Row}
use Rattle.cil_layout.specs.declared.rows.Row.TheVariants.{Field}
use Rattle.cil_layout.specs.declared.rows.FieldRow.{FieldRow}
use Rattle.cil_layout.specs.declared.places.Places.{Places}
use Rattle.cil_layout.specs.Asked.{Asked, table_of, fixed_count, rows_of as rows_asked}
use Rattle.cil_layout.specs.Numbers.{after, first_places, numbers_of, data_row, rows_in, rows_from, fixed_rows, table_rows}
use Rattle.cil_layout.proofs.Sizes.{length-rows_from}
use Rattle.file_tables.specs.Metadata.{MetadataPart, rows_of, row_of, row_count}
use Rattle.layout_laws.specs.ReadBack.{places_behind, only, next_row}

-- the tables are those of what is asked
pub record HasTables (m : MetadataPart) (r : Asked) : Type 0 where
  pub tables : (table : ℕ) → table < 64 → rows_of m table ≡ table_rows r.name r.version r.rows table

-- how many rows nobody asks for
fixed_length : (name version : List ℕ) (table : ℕ) → length (fixed_rows name version table) ≡ fixed_count table
fixed_length name version table = by_test (eqb table 0) (eqb table 2) (eqb table 32) refl refl refl where
  by_test : (a b c : Bool) → eqb table 0 ≡ a → eqb table 2 ≡ b → eqb table 32 ≡ c → length (fixed_rows name version table) ≡ fixed_count table
  by_test true _ _ e _ _ = subst (λ t. length (fixed_rows name version t) ≡ fixed_count t) (sym (eqb-true table 0 e)) refl
  by_test false true _ _ e _ = subst (λ t. length (fixed_rows name version t) ≡ fixed_count t) (sym (eqb-true table 2 e)) refl
  by_test false false true _ _ e = subst (λ t. length (fixed_rows name version t) ≡ fixed_count t) (sym (eqb-true table 32 e)) refl
  by_test false false false d e f = rw (d, e, f) refl

-- a table has as many rows as are asked for
pub counted : (m : MetadataPart) (r : Asked) (table : ℕ) → HasTables m r → table < 64 → row_count m table ≡ rows_asked r table
unfolding rows_asked
counted m r table h below =
    ap length (h.tables table below)
    ∙ omega (arith, length-append (fixed_rows r.name r.version table) (rows_from table (first_places r.name) r.rows), fixed_length r.name r.version table, length-rows_from table (first_places r.name) r.rows)

-- rows behind others
rows_split : (table : ℕ) (p : Places) (before rows : List Row) → rows_from table p (before ++ rows) ≡ rows_from table p before ++ rows_from table (fold after p before) rows
unfolding rows_from
rows_split table p [] rows = refl
rows_split table p (row ∷ before) rows =
    ap (λ xs. rows_in table p row ++ xs) (rows_split table (after p row) before rows)
    ∙ sym (append_assoc (rows_in table p row) (rows_from table (after p row) before) (rows_from table (fold after (after p row) before) rows))

-- what a row makes in a table stands behind what the rows before it make there
row_placed : (r : Asked) (table : ℕ) (before : List Row) (row : Row) (behind : List Row) → r.rows ≡ before ++ row ∷ behind
    → get_or (table_rows r.name r.version r.rows table) (rows_asked (only r before) table) [] ≡ get_or (rows_in table (places_behind r.name before) row ++ rows_from table (after (places_behind r.name before) row) behind) 0 []
unfolding rows_asked rows_from
row_placed r table before row behind e =
    let p : Places = first_places r.name in
    let fixed : List (List ℕ) = fixed_rows r.name r.version table in
    let rest : List (List ℕ) = rows_from table (places_behind r.name before) (row ∷ behind) in
    let front : List (List ℕ) = fixed ++ rows_from table p before in
    let split : table_rows r.name r.version r.rows table ≡ front ++ rest =
    ap (λ rs. fixed ++ rows_from table p rs) e ∙ ap (λ xs. fixed ++ xs) (rows_split table p before (row ∷ behind)) ∙ sym (append_assoc fixed (rows_from table p before) rest) in
    let many : rows_asked (only r before) table ≡ length front + 0 = omega (arith, length-append fixed (rows_from table p before), fixed_length r.name r.version table, length-rows_from table p before) in
    ap (λ xs. get_or xs (rows_asked (only r before) table) []) split ∙ ap (λ n. get_or (front ++ rest) n []) many ∙ get_or-append-add front rest 0 []

-- the next row of a table
next_is : (m : MetadataPart) (r : Asked) (before : List Row) (table : ℕ) → HasTables m r → table < 64 → row_of m table (next_row r before table) ≡ get_or (table_rows r.name r.version r.rows table) (rows_asked (only r before) table) []
next_is m r before table h below = ap (row_of m table) (add-one (rows_asked (only r before) table)) ∙ ap (λ xs. get_or xs (rows_asked (only r before) table) []) (h.tables table below)

-- a row makes itself in its own table, and only a field with data makes one in FieldRVA
own_row : (p : Places) (row : Row) → rows_in (table_of row) p row ≡ numbers_of p row ∷ []
own_row p (Field f) = refl
own_row p _ = refl

-- so the next row of a table is the row that is asked for next
pub row_is : (m : MetadataPart) (r : Asked) (before : List Row) (row : Row) (behind : List Row) → HasTables m r → r.rows ≡ before ++ row ∷ behind → table_of row < 64
    → row_of m (table_of row) (next_row r before (table_of row)) ≡ numbers_of (places_behind r.name before) row
row_is m r before row behind h e below =
    let p : Places = places_behind r.name before in
    next_is m r before (table_of row) h below ∙ row_placed r (table_of row) before row behind e ∙ ap (λ xs. get_or (xs ++ rows_from (table_of row) (after p row) behind) 0 []) (own_row p row)

-- and the next row of FieldRVA is that of the next field with data
pub data_is : (m : MetadataPart) (r : Asked) (before : List Row) (d : FieldRow) (behind : List Row) (b : ℕ) (bs : List ℕ) → HasTables m r → r.rows ≡ before ++ Field d ∷ behind → d.bytes ≡ b ∷ bs
    → row_of m 29 (next_row r before 29) ≡ (0x2048 + (places_behind r.name before).content) ∷ ((places_behind r.name before).fields + 1) ∷ []
data_is m r before d behind b bs h e some =
    let p : Places = places_behind r.name before in
    next_is m r before 29 h (omega arith) ∙ row_placed r 29 before (Field d) behind e ∙ ap (λ bytes. get_or (data_row p bytes ++ rows_from 29 (after p (Field d)) behind) 0 []) some
