-- Rule 12 for one row that is asked for.
use Rattle.std.proofs.Common.{◌≡◌, ℕ, ◌+◌, ◌≤◌, Bool, true, ◌&&◌, leb, max, List, [], ◌∷◌, get_or, ◌⊎◌, inl, inr, refl, sym, ap, ◌∙◌, subst, arith}
use Rattle.std.specs.List.{list_all, enumerate_from}
use Rattle.std.proofs.lemmas.Bool.{and_from, le-leb}
use Rattle.cil_layout.specs.declared.rows.Row.{Row}
use Rattle.cil_layout.specs.declared.rows.Row.TheVariants.{TypeDef, Field, MethodDef, AssemblyRef, TypeRef, MemberRef, TypeSpec, Locals, InterfaceImpl, NestedClass, ClassLayout, Literal}
use Rattle.cil_layout.specs.declared.places.Places.{Places}
use Rattle.cil_layout.specs.Asked.{Asked, table_of, rows_of as rows_asked}
use Rattle.cil_layout.specs.Numbers.{token_table, token_row, type_index, parent_index, scope_index, numbers_of}
use Rattle.file_tables.specs.declared.schema.Coded.{Coded}
use Rattle.file_tables.specs.declared.schema.Coded.TheVariants.{TypeDefOrRef, MemberRefParent, ResolutionScope}
use Rattle.file_tables.specs.declared.schema.Column.{Column}
use Rattle.file_tables.specs.Schema.{columns_of, tag_bits_of, tables_of}
use Rattle.file_tables.specs.Metadata.{MetadataPart, row_count, is_row_in, is_column, token_table as coded_table, token_row as coded_row}
use Rattle.layout_laws.proofs.MeaningsFacts.{IsSound}
use Rattle.layout_laws.proofs.MeaningsRows.{HasTables, counted}
use Rattle.layout_laws.proofs.MeaningsSays.{HasZeros}
use Rattle.layout_laws.proofs.MeaningsTokens.{IsToken, IsCodedAs, only_table, type_coded, parent_coded, scope_coded}

-- rule 12 for numbers behind those of the row before
unfoldable pub row_kept : MetadataPart → List Column → List ℕ → List ℕ → Bool
row_kept m columns before now = list_all (λ c. is_column m c.1 (get_or before c.0 0) (get_or now c.0 0)) (enumerate_from 0 columns)

-- the lists of the row before begin no later than those of the next one
pub record IsNoLater (table : ℕ) (p : Places) (before : List ℕ) : Type 0 where
  pub fields : table ≡ 2 → get_or before 4 0 ≤ p.fields + 1
  pub methods : table ≡ 2 → get_or before 5 0 ≤ p.methods + 1
  pub params : table ≡ 6 → get_or before 5 0 ≤ 1

-- other tables than TypeDef and MethodDef have no lists
pub no_lists : (table : ℕ) (p : Places) (before : List ℕ) → (table ≡ 2 → ⊥) → (table ≡ 6 → ⊥) → IsNoLater table p before
no_lists table p before no_type no_method = record { fields = λ e. absurd (no_type e); methods = λ e. absurd (no_type e); params = λ e. absurd (no_method e) }

-- a number from 1 to the row count
pub row_in : (m : MetadataPart) (table row : ℕ) → 1 ≤ row → row ≤ row_count m table → is_row_in m table row ≡ true
row_in m table row low high = and_from (leb 1 row) (leb row (row_count m table)) (le-leb 1 row low) (le-leb row (row_count m table) high)

-- an index into a table, and a coded one
table_in : (m : MetadataPart) (r : Asked) (token : ℕ) → HasTables m r → IsToken r (2 ∷ []) token → is_row_in m 2 (token_row token) ≡ true
table_in m r token h is = row_in m 2 (token_row token) is.low (omega (arith, is.high, ap (rows_asked r) (only_table r 2 token is), counted m r 2 h (omega arith)))

-- the row of a coded index is there
coded_in : (m : MetadataPart) (r : Asked) (coded : Coded) (tables : List ℕ) (number token : ℕ) → HasTables m r → IsToken r tables token → IsCodedAs coded number token
    → is_row_in m (coded_table coded number) (coded_row coded number) ≡ true
coded_in m r coded tables number token h is as_coded =
    ap (λ t. is_row_in m t (coded_row coded number)) as_coded.table ∙ ap (λ k. is_row_in m (token_table token) k) as_coded.row
    ∙ row_in m (token_table token) (token_row token) is.low (omega (arith, is.high, counted m r (token_table token) h as_coded.small))

-- a coded index that may name no row
abbrev is_coded_or_none : MetadataPart → Coded → ℕ → Bool
is_coded_or_none m coded number = leb (coded_table coded number) 63 && leb (coded_row coded number) (row_count m (coded_table coded number))

-- no row is one that may be named
pub none_in : (m : MetadataPart) → (leb (coded_table TypeDefOrRef 0) 63 && leb (coded_row TypeDefOrRef 0) (row_count m (coded_table TypeDefOrRef 0))) ≡ true
unfolding tag_bits_of tables_of
none_in m = le-leb 0 (row_count m 2) (omega arith)

-- and so is a superclass
extends_in : (m : MetadataPart) (r : Asked) (token : ℕ) → HasTables m r → (token ≡ 0) ⊎ IsToken r (2 ∷ 1 ∷ 27 ∷ []) token → is_coded_or_none m TypeDefOrRef (type_index token) ≡ true
extends_in m r token h (inl none) = subst (λ t. is_coded_or_none m TypeDefOrRef (type_index t) ≡ true) (sym none) (none_in m)
extends_in m r token h (inr some) =
    let is : IsCodedAs TypeDefOrRef (type_index token) token = type_coded r token some in
    rw (is.table, is.row) (and_from _ _ (le-leb (token_table token) 63 (omega (arith, is.small))) (le-leb (token_row token) (row_count m (token_table token)) (omega (arith, some.high, counted m r (token_table token) h is.small))))

-- a list that begins behind the rows so far
pub list_in : (m : MetadataPart) (table so_far before : ℕ) → before ≤ so_far + 1 → so_far ≤ row_count m table → (leb (max 1 before) (so_far + 1) && leb (so_far + 1) (row_count m table + 1)) ≡ true
list_in m table so_far before low high = and_from _ _ (le-leb (max 1 before) (so_far + 1) (omega arith)) (le-leb (so_far + 1) (row_count m table + 1) (omega arith))

-- the columns of a row in the row's own table
pub own_kept : (m : MetadataPart) (r : Asked) (p : Places) (row : Row) (before : List ℕ) → HasTables m r → HasZeros m → IsSound m r p row → IsNoLater (table_of row) p before → row_kept m (columns_of (table_of row)) before (numbers_of p row) ≡ true
unfolding columns_of row_kept is_column
own_kept m r p (TypeDef t) before h zeros is later =
    rw (is.names.0, is.names.1, extends_in m r t.extends h is.tokens, list_in m 4 p.fields (get_or before 4 0) (later.fields refl) (omega (arith, is.fields)), list_in m 6 p.methods (get_or before 5 0) (later.methods refl) (omega (arith, is.methods))) refl
own_kept m r p (Field f) before h zeros is later = rw (is.names, is.blob) refl
own_kept m r p (MethodDef d) before h zeros is later = rw (is.names, is.blob, list_in m 8 0 (get_or before 5 0) (later.params refl) (omega arith)) refl
own_kept m r p (AssemblyRef a) before h zeros is later = rw (is.names, zeros.string, zeros.blob) refl
own_kept m r p (TypeRef t) before h zeros is later = rw (is.names.0, is.names.1, coded_in m r ResolutionScope (0 ∷ 35 ∷ 1 ∷ []) (scope_index t.scope) t.scope h is.tokens (scope_coded r t.scope is.tokens)) refl
own_kept m r p (MemberRef d) before h zeros is later = rw (is.names, is.blob, coded_in m r MemberRefParent (2 ∷ 1 ∷ 6 ∷ 27 ∷ []) (parent_index d.parent) d.parent h is.tokens (parent_coded r d.parent is.tokens)) refl
own_kept m r p (TypeSpec signature) before h zeros is later = rw is.blob refl
own_kept m r p (Locals signature) before h zeros is later = rw is.blob refl
own_kept m r p (InterfaceImpl i) before h zeros is later = rw (table_in m r i.class h is.tokens.0, coded_in m r TypeDefOrRef (2 ∷ 1 ∷ 27 ∷ []) (type_index i.interface) i.interface h is.tokens.1 (type_coded r i.interface is.tokens.1)) refl
own_kept m r p (NestedClass n) before h zeros is later = rw (table_in m r n.nested h is.tokens.0, table_in m r n.enclosing h is.tokens.1) refl
own_kept m r p (ClassLayout l) before h zeros is later = rw (table_in m r l.class h is.tokens) refl
own_kept m r p (Literal units) before h zeros is later = refl
