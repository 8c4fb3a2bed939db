-- The numbers of each row that is asked for fit the columns of its table.
use Rattle.std.proofs.Common.{◌≡◌, ℕ, ◌+◌, ◌<◌, ◌≤◌, true, false, cond, ◌&&◌, ltb-true, eqb, eqb-true, List, [], ◌∷◌, ◌++◌, length, get_or, refl, sym, subst, arith, length-append}
use Rattle.std.specs.Prelude.{nat_lt}
use Rattle.std.specs.List.{All, AllZip, AllByRecursion, list_all}
use Rattle.std.proofs.lemmas.List.Elements.{All-nil, All-cons, All-append}
use Rattle.cil_layout.specs.declared.rows.Row.{Row}
use Rattle.cil_layout.specs.declared.rows.Row.TheVariants.{TypeDef, Field, MethodDef, AssemblyRef, TypeRef, MemberRef, TypeSpec, Locals, InterfaceImpl, NestedClass, ClassLayout, Literal}
use Rattle.cil_layout.specs.declared.rows.TheConstants.{TABLES}
use Rattle.cil_layout.specs.declared.places.Places.{Places}
use Rattle.cil_layout.specs.Asked.{Asked, table_of}
use Rattle.cil_layout.specs.Askable.{IsAskable, is_askable_row, are_units}
use Rattle.cil_layout.specs.Heaps.{name_entry, name_place, strings_heap, blobs_heap}
use Rattle.cil_layout.specs.Text.{blob_entry}
use Rattle.cil_layout.specs.Numbers.{body_rva, numbers_of, data_row, data_row_of, rows_in, rows_from, after, first_places, fixed_rows, table_rows}
use Rattle.cil_layout.specs.Layout.{column_widths, widths}
use Rattle.cil_layout.proofs.Below.{and_left, and_right}
use Rattle.file_tables.specs.Bytes.{has_bit}
use Rattle.file_tables.specs.Schema.{columns_of}
use Rattle.layout_laws.proofs.RowsNumbers.{FitsIn, in_two, in_four}
use Rattle.layout_laws.proofs.RowsHeader.{valid, for_tables}
use Rattle.layout_laws.proofs.RowsRoom.{AreSmall, are_small, first_room, HasRoom, RowRoom, row_room, next_room, name_room}
use Rattle.layout_laws.proofs.RowsFit.{zero_fits, place_fits, name_fits, blob_fits, units_fit, type_fits, type_or_none_fits, parent_fits, scope_fits, row_fits}

-- the numbers of a row of this table fit
abbrev pub RowFits : Asked → ℕ → List ℕ → Type 0
RowFits r table numbers = AllZip FitsIn (column_widths (widths r) table) numbers

-- the place where bodies and data lie
rva_fits : (at : ℕ) (body : List ℕ) → at ≤ 4194304 → FitsIn 4 (body_rva at body)
rva_fits at [] small = in_four refl (omega arith)
rva_fits at (b ∷ bs) small = in_four refl (omega arith)

one_fits : FitsIn 2 1
one_fits = in_two refl (omega arith)

-- the four numbers of a version
version_fits : {X : Type 0} (version : List ℕ) → are_units version ≡ true → X → FitsIn 2 (get_or version 0 0) × (FitsIn 2 (get_or version 1 0) × (FitsIn 2 (get_or version 2 0) × (FitsIn 2 (get_or version 3 0) × X)))
version_fits version units rest = (units_fit version 0 units, (units_fit version 1 units, (units_fit version 2 units, (units_fit version 3 units, rest))))

module _ (r : Asked) (askable : IsAskable r) (small : AreSmall r) where
  name_in : (at : ℕ) (name : List ℕ) → at + length (name_entry name) ≤ length (strings_heap r) → FitsIn (widths r).strings (name_place at name)
  unfolding widths
  name_in at name room = name_fits (length (strings_heap r)) at name small.strings room

  -- a namespace, and the name behind it
  names_in : (at : ℕ) (namespace name : List ℕ) → at + length (name_entry namespace ++ name_entry name) ≤ length (strings_heap r)
      → FitsIn (widths r).strings (name_place (at + length (name_entry namespace)) name) × FitsIn (widths r).strings (name_place at namespace)
  names_in at namespace name room =
      let both : at + (length (name_entry namespace) + length (name_entry name)) ≤ length (strings_heap r) = omega (arith, room, length-append (name_entry namespace) (name_entry name)) in
      (name_in (at + length (name_entry namespace)) name (omega (arith, both)), name_in at namespace (omega (arith, both)))

  blob_in : (at : ℕ) (signature : List ℕ) → at + length (blob_entry signature) ≤ length (blobs_heap r) → FitsIn (widths r).blobs at
  unfolding widths
  blob_in at signature room = blob_fits (length (blobs_heap r)) at signature small.blobs room

  no_string : FitsIn (widths r).strings 0
  unfolding widths
  no_string = zero_fits _

  no_blob : FitsIn (widths r).blobs 0
  unfolding widths
  no_blob = zero_fits _

  -- a row that is the first behind these places
  next_fits : (n : ℕ) → n ≤ 65534 → FitsIn 2 (n + 1)
  next_fits n le = in_two refl (omega arith)

  -- the numbers in a row's own table
  own_fits : (p : Places) (row : Row) → is_askable_row r row ≡ true → RowRoom r p row → RowFits r (table_of row) (numbers_of p row)
  unfolding columns_of
  own_fits p (TypeDef t) asked room =
      let names : FitsIn (widths r).strings (name_place (p.strings + length (name_entry t.namespace)) t.name) × FitsIn (widths r).strings (name_place p.strings t.namespace) = names_in p.strings t.namespace t.name room.strings in
      (in_four refl (ltb-true _ _ (and_left _ _ (and_left _ _ (and_left _ _ asked)))), (names.0, (names.1, (type_or_none_fits r t.extends (and_right _ _ asked), (next_fits p.fields room.fields, (next_fits p.methods room.methods, tt))))))
  own_fits p (Field f) asked room =
      let flags : f.flags < 65536 = ltb-true _ _ (and_left _ _ (and_left _ _ (and_left _ _ asked))) in
      (in_two refl flags, (name_in p.strings f.name room.strings, (blob_in p.blobs f.signature room.blobs, tt)))
  own_fits p (MethodDef m) asked room =
      let both : (nat_lt m.impl_flags 65536 && nat_lt m.flags 65536) ≡ true = and_left _ _ (and_left _ _ (and_left _ _ asked)) in
      let body : FitsIn 4 (body_rva p.content m.body) = rva_fits p.content m.body (omega (arith, room.content, small.content)) in
      let impl_flags : FitsIn 2 m.impl_flags = in_two refl (ltb-true _ _ (and_left _ _ both)) in
      let flags : FitsIn 2 m.flags = in_two refl (ltb-true _ _ (and_right _ _ both)) in
      (body, (impl_flags, (flags, (name_in p.strings m.name room.strings, (blob_in p.blobs m.signature room.blobs, (one_fits, tt))))))
  own_fits p (AssemblyRef a) asked room =
      version_fits a.version (and_right _ _ (and_right _ _ asked)) (in_four refl (omega arith), (no_blob, (name_in p.strings a.name room.strings, (no_string, (no_blob, tt)))))
  own_fits p (TypeRef t) asked room =
      let names : FitsIn (widths r).strings (name_place (p.strings + length (name_entry t.namespace)) t.name) × FitsIn (widths r).strings (name_place p.strings t.namespace) = names_in p.strings t.namespace t.name room.strings in
      (scope_fits r t.scope (and_left _ _ (and_left _ _ asked)), (names.0, (names.1, tt)))
  own_fits p (MemberRef m) asked room =
      (parent_fits r m.parent (and_left _ _ (and_left _ _ asked)), (name_in p.strings m.name room.strings, (blob_in p.blobs m.signature room.blobs, tt)))
  own_fits p (TypeSpec signature) asked room = (blob_in p.blobs signature room.blobs, tt)
  own_fits p (Locals signature) asked room = (blob_in p.blobs signature room.blobs, tt)
  own_fits p (InterfaceImpl i) asked room = (row_fits r i.class askable (and_left _ _ asked), (type_fits r i.interface (and_right _ _ asked), tt))
  own_fits p (NestedClass n) asked room = (row_fits r n.nested askable (and_left _ _ asked), (row_fits r n.enclosing askable (and_right _ _ asked), tt))
  own_fits p (ClassLayout l) asked room =
      let size : l.size < 4294967296 = ltb-true _ _ (and_left _ _ asked) in
      (in_two refl (omega arith), (in_four refl size, (row_fits r l.class askable (and_right _ _ asked), tt)))
  own_fits p (Literal units) asked room = tt

  -- the row of FieldRVA of a field with data
  data_fits : (p : Places) (row : Row) → RowRoom r p row → All (RowFits r 29) (data_row_of p row)
  unfolding columns_of
  data_fits p (Field f) room = filled f.bytes where
    filled : (bytes : List ℕ) → All (RowFits r 29) (data_row p bytes)
    filled [] = All-nil (RowFits r 29)
    filled (b ∷ bs) = All-cons (RowFits r 29) _ [] (in_four refl (omega (arith, room.content, small.content)), (next_fits p.fields room.fields, tt)) (All-nil (RowFits r 29))
  data_fits p _ room = All-nil (RowFits r 29)

  -- the rows that one row makes
  rows_in_fit : (table : ℕ) (p : Places) (row : Row) → is_askable_row r row ≡ true → RowRoom r p row → All (RowFits r table) (rows_in table p row)
  rows_in_fit table p row asked room = All-append (RowFits r table) _ _
      (elim (eqb (table_of row) table) as (λ b. eqb (table_of row) table ≡ b → All (RowFits r table) (cond b (numbers_of p row ∷ []) [])) [
        | true ↦ λ same. All-cons (RowFits r table) (numbers_of p row) [] (subst (λ t. RowFits r t (numbers_of p row)) (eqb-true (table_of row) table same) (own_fits p row asked room)) (All-nil (RowFits r table))
        | false ↦ λ _. All-nil (RowFits r table)
      ] refl)
      (elim (eqb table 29) as (λ b. eqb table 29 ≡ b → All (RowFits r table) (cond b (data_row_of p row) [])) [
        | true ↦ λ same. subst (λ t. All (RowFits r t) (data_row_of p row)) (sym (eqb-true table 29 same)) (data_fits p row room)
        | false ↦ λ _. All-nil (RowFits r table)
      ] refl)

  rows_from_fit : (table : ℕ) (p : Places) (rows : List Row) → list_all (is_askable_row r) rows ≡ true → HasRoom r p rows → All (RowFits r table) (rows_from table p rows)
  unfolding rows_from
  rows_from_fit table p [] asked room = All-nil (RowFits r table)
  rows_from_fit table p (row ∷ rows) asked room = All-append (RowFits r table) (rows_in table p row) (rows_from table (after p row) rows)
      (rows_in_fit table p row (and_left _ _ asked) (row_room r p row rows room))
      (rows_from_fit table (after p row) rows (and_right _ _ asked) (next_room r p row rows room))

  -- the rows that nobody asks for
  module_fits : RowFits r 0 (0 ∷ name_place 10 r.name ∷ 1 ∷ 0 ∷ 0 ∷ [])
  unfolding columns_of
  module_fits = (in_two refl (omega arith), (name_in 10 r.name (omega (arith, name_room r)), (in_two refl (omega arith), (in_two refl (omega arith), (in_two refl (omega arith), tt)))))

  module_type_fits : RowFits r 2 (0 ∷ 1 ∷ 0 ∷ 0 ∷ 1 ∷ 1 ∷ [])
  unfolding widths columns_of
  module_type_fits =
      let name : FitsIn (widths r).strings 1 = place_fits (length (strings_heap r)) 1 small.strings (omega (arith, name_room r)) in
      (in_four refl (omega arith), (name, (no_string, (zero_fits _, (one_fits, (one_fits, tt))))))

  assembly_fits : RowFits r 32 (0x8004 ∷ get_or r.version 0 0 ∷ get_or r.version 1 0 ∷ get_or r.version 2 0 ∷ get_or r.version 3 0 ∷ 0 ∷ 0 ∷ name_place 10 r.name ∷ 0 ∷ [])
  unfolding columns_of
  assembly_fits =
      let name : FitsIn (widths r).strings (name_place 10 r.name) = name_in 10 r.name (omega (arith, name_room r)) in
      (in_four refl (omega arith), version_fits r.version (and_right _ _ askable.version) (in_four refl (omega arith), (no_blob, (name, (no_string, tt)))))

  no_row : (table : ℕ) → All (RowFits r table) []
  no_row table = All-nil (RowFits r table)

  one_row : (table : ℕ) (numbers : List ℕ) → RowFits r table numbers → All (RowFits r table) (numbers ∷ [])
  one_row table numbers fits = All-cons (RowFits r table) numbers [] fits (no_row table)

  each_fixed : AllByRecursion (λ table. All (RowFits r table) (fixed_rows r.name r.version table)) TABLES
  each_fixed =
      let first : All (RowFits r 0) (fixed_rows r.name r.version 0) = one_row 0 _ module_fits in
      let types : All (RowFits r 2) (fixed_rows r.name r.version 2) = one_row 2 _ module_type_fits in
      let assembly : All (RowFits r 32) (fixed_rows r.name r.version 32) = one_row 32 _ assembly_fits in
      (first, (no_row 1, (types, (no_row 4, (no_row 6, (no_row 9, (no_row 10, (no_row 15, (no_row 17, (no_row 27, (no_row 29, (assembly, (no_row 35, (no_row 41, tt))))))))))))))

-- the rows of each table that is there
pub table_fits : (r : Asked) → IsAskable r → (table : ℕ) → table < 64 → has_bit valid table ≡ true → All (RowFits r table) (table_rows r.name r.version r.rows table)
table_fits r askable table below there = All-append (RowFits r table) (fixed_rows r.name r.version table) (rows_from table (first_places r.name) r.rows)
    (for_tables (λ t. All (RowFits r t) (fixed_rows r.name r.version t)) (each_fixed r askable (are_small r askable)) table below there)
    (rows_from_fit r askable (are_small r askable) table (first_places r.name) r.rows askable.rows (first_room r askable))
