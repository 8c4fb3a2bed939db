-- Rule 12 for all rows of a table, along the rows that are asked for.
use Rattle.std.proofs.Common.{◌≡◌, ℕ, zero, suc, ◌+◌, ◌<◌, ◌≤◌, Bool, true, false, cond, eqb, List, [], ◌∷◌, ◌++◌, length, get_or, fold, refl, sym, ap, ◌∙◌, subst, arith}
use Rattle.std.proofs.lemmas.Bool.{eqb-true}
use Rattle.cil_layout.specs.declared.rows.Row.{Row}
use Rattle.cil_layout.specs.declared.rows.Row.TheVariants.{TypeDef, Field, MethodDef}
use Rattle.cil_layout.specs.declared.places.Places.{Places}
use Rattle.cil_layout.specs.Asked.{Asked, table_of}
use Rattle.cil_layout.specs.Numbers.{after, numbers_of, data_row, data_row_of, rows_in, rows_from}
use Rattle.file_tables.specs.Schema.{columns_of}
use Rattle.file_tables.specs.Metadata.{MetadataPart, row_count, is_column}
use Rattle.layout_laws.proofs.MeaningsFacts.{IsSound}
use Rattle.layout_laws.proofs.MeaningsKept.{row_kept, row_in, IsNoLater, no_lists, own_kept}
use Rattle.layout_laws.proofs.MeaningsRows.{HasTables}
use Rattle.layout_laws.proofs.MeaningsSays.{HasZeros}

-- rule 12 for rows, one behind the other
abbrev pub AllKept : MetadataPart → ℕ → List ℕ → List (List ℕ) → Type 0
AllKept m table before [] = Unit {0}
AllKept m table before (now ∷ rows) = (row_kept m (columns_of table) before now ≡ true) × AllKept m table now rows

-- rule 12 for the row at a place
pub all_kept_at : (m : MetadataPart) (table : ℕ) (before : List ℕ) (rows : List (List ℕ)) (k : ℕ) → AllKept m table before rows → k < length rows
    → row_kept m (columns_of table) (get_or (before ∷ rows) k []) (get_or rows k []) ≡ true
all_kept_at m table before [] k all below = absurd (omega arith)
all_kept_at m table before (now ∷ rows) zero all below = all.0
all_kept_at m table before (now ∷ rows) (suc k) all below = all_kept_at m table now rows k all.1 (omega arith)

-- the row before is no later behind a further row either
later_behind : (table : ℕ) (p : Places) (row : Row) (before : List ℕ) → IsNoLater table p before → IsNoLater table (after p row) before
later_behind table p row before later = record { fields = λ e. omega (arith, later.fields e); methods = λ e. omega (arith, later.methods e); params = later.params }

-- nor is the row itself
later_own : (p : Places) (row : Row) → IsNoLater (table_of row) (after p row) (numbers_of p row)
later_own p (TypeDef t) = record { fields = λ _. omega arith; methods = λ _. omega arith; params = λ e. absurd (omega (arith, e)) }
later_own p (MethodDef d) = record { fields = λ e. absurd (omega (arith, e)); methods = λ e. absurd (omega (arith, e)); params = λ _. omega arith }
later_own p row = no_lists (table_of row) (after p row) (numbers_of p row) (λ e. omega (arith, e)) (λ e. omega (arith, e))

-- no row that is asked for is one of FieldRVA itself
not_data : (row : Row) → table_of row ≡ 29 → ⊥
not_data (TypeDef t) e = omega (arith, e)
not_data _ e = omega (arith, e)

-- a field's row of FieldRVA, where the field has data
field_kept : (m : MetadataPart) (p : Places) (bytes before : List ℕ) (rest : List (List ℕ)) → p.fields + 1 ≤ row_count m 4 → ((now : List ℕ) → AllKept m 29 now rest) → AllKept m 29 before (data_row p bytes ++ rest)
unfolding columns_of row_kept is_column
field_kept m p [] before rest room next = next before
field_kept m p (b ∷ bs) before rest room next = (rw (row_in m 4 (p.fields + 1) (omega arith) room) refl, next _)

-- what a row makes in FieldRVA
data_kept : (m : MetadataPart) (r : Asked) (p : Places) (row : Row) (before : List ℕ) (rest : List (List ℕ)) → IsSound m r p row → ((now : List ℕ) → AllKept m 29 now rest) → AllKept m 29 before (data_row_of p row ++ rest)
data_kept m r p (Field f) before rest is next = field_kept m p f.bytes before rest is.fields next
data_kept m r p _ before rest is next = next before

-- what a row makes in a table, before rows that are kept
step : (m : MetadataPart) (r : Asked) (table : ℕ) (p : Places) (row : Row) (before : List ℕ) (rest : List (List ℕ)) → HasTables m r → HasZeros m → IsSound m r p row → IsNoLater table p before
    → ((now : List ℕ) → IsNoLater table (after p row) now → AllKept m table now rest) → AllKept m table before (rows_in table p row ++ rest)
step m r table p row before rest h zeros is later next = by_test (eqb (table_of row) table) (eqb table 29) refl refl where
  with_own : table_of row ≡ table → (row_kept m (columns_of table) before (numbers_of p row) ≡ true) × IsNoLater table (after p row) (numbers_of p row)
  with_own same = (
    subst (λ t. row_kept m (columns_of t) before (numbers_of p row) ≡ true) same (own_kept m r p row before h zeros is (subst (λ t. IsNoLater t p before) (sym same) later)),
    subst (λ t. IsNoLater t (after p row) (numbers_of p row)) same (later_own p row),
  )

  with_data : table ≡ 29 → AllKept m table before (data_row_of p row ++ rest)
  with_data same =
      let go : ((now : List ℕ) → AllKept m 29 now rest) → AllKept m 29 before (data_row_of p row ++ rest) = data_kept m r p row before rest is in
      subst (λ t. AllKept m t before (data_row_of p row ++ rest)) (sym same) (go (λ now. subst (λ t. AllKept m t now rest) same (next now (subst (λ t. IsNoLater t (after p row) now) (sym same) (no_lists 29 (after p row) now (λ e. omega (arith, e)) (λ e. omega (arith, e)))))))

  by_test : (own data_rows : Bool) → eqb (table_of row) table ≡ own → eqb table 29 ≡ data_rows → AllKept m table before ((cond own (numbers_of p row ∷ []) [] ++ cond data_rows (data_row_of p row) []) ++ rest)
  by_test true true same is_data = absurd (not_data row (eqb-true (table_of row) table same ∙ eqb-true table 29 is_data))
  by_test true false same _ = ((with_own (eqb-true (table_of row) table same)).0, next (numbers_of p row) (with_own (eqb-true (table_of row) table same)).1)
  by_test false true _ is_data = with_data (eqb-true table 29 is_data)
  by_test false false _ _ = next before (later_behind table p row before later)

-- along all rows
pub walk : (m : MetadataPart) (r : Asked) (table : ℕ) (p : Places) (rows : List Row) (before : List ℕ) → HasTables m r → HasZeros m
    → ((front : List Row) (row : Row) (behind : List Row) → rows ≡ front ++ row ∷ behind → IsSound m r (fold after p front) row) → IsNoLater table p before → AllKept m table before (rows_from table p rows)
unfolding rows_from
walk m r table p [] before h zeros sound later = tt
walk m r table p (row ∷ rows) before h zeros sound later =
    step m r table p row before (rows_from table (after p row) rows) h zeros (sound [] row rows refl) later
    (λ now later_now. walk m r table (after p row) rows now h zeros (λ front x behind e. sound (row ∷ front) x behind (ap (λ l. row ∷ l) e)) later_now)
