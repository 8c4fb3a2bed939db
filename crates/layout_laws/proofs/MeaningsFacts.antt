-- What is known of a row that is asked for: its names and its blob are read, its tokens name rows, and its fields and methods are counted.
use Rattle.std.proofs.Common.{◌≡◌, ℕ, ◌+◌, ◌≤◌, true, ◌&&◌, eqb, List, [], ◌∷◌, ◌++◌, length, drop, sum_by, Some, ◌⊎◌, inl, inr, refl, sym, ap, ◌∙◌, arith, append_assoc}
use Rattle.std.specs.List.{list_all}
use Rattle.std.proofs.lemmas.Bool.{and_parts, or_cases, eqb-true}
use Rattle.std.proofs.lemmas.List.{drop_at, drop-drop}
use Rattle.std.proofs.lemmas.List.Folds.{list_all-append}
use Rattle.std.proofs.lemmas.List.Sums.{sum_by-append, sum_by-cons}
use Rattle.cil_layout.specs.declared.rows.Row.{Row}
use Rattle.cil_layout.specs.declared.rows.Row.TheVariants.{TypeDef, Field, MethodDef, AssemblyRef, TypeRef, MemberRef, TypeSpec, Locals, InterfaceImpl, NestedClass, ClassLayout}
use Rattle.cil_layout.specs.declared.fixed.TheConstants.{MODULE_TYPE}
use Rattle.cil_layout.specs.declared.places.Places.{Places}
use Rattle.cil_layout.specs.Asked.{Asked, count_in, row_weight, rows_of as rows_asked}
use Rattle.cil_layout.specs.Askable.{IsAskable, is_name, is_token, is_askable_row}
use Rattle.cil_layout.specs.Heaps.{name_entry, name_place, strings_of, blobs_of, strings_heap, blobs_heap, texts_heap}
use Rattle.cil_layout.specs.Numbers.{first_places, is_field, is_method}
use Rattle.cil_layout.proofs.Stream.{row_weights}
use Rattle.file_tables.specs.Heaps.{string_at, blob_at}
use Rattle.file_tables.specs.Metadata.{MetadataPart, row_count}
use Rattle.layout_laws.specs.ReadBack.{places_behind}
use Rattle.layout_laws.proofs.Entries.{string_entry}
use Rattle.layout_laws.proofs.EntriesBlobs.{blob_found}
use Rattle.layout_laws.proofs.EntriesPlaces.{IsBehind, all_behind, IsSplit, split_of, strings_begin}
use Rattle.layout_laws.proofs.MeaningsRows.{HasTables, counted}
use Rattle.layout_laws.proofs.MeaningsTokens.{IsToken, token_parts}

-- tables and heaps are those of what is asked
pub record IsPartOf (m : MetadataPart) (r : Asked) : Type 0 where
  pub tables : HasTables m r
  pub strings : m.strings ≡ strings_heap r
  pub blobs : m.blobs ≡ blobs_heap r
  pub texts : m.user_strings ≡ texts_heap r

-- the names of a row, whose entries begin at a place, are read
abbrev pub AreNamesRead : List ℕ → ℕ → Row → Type 0
AreNamesRead heap at (TypeDef t) = (string_at heap (name_place (at + length (name_entry t.namespace)) t.name) ≡ Some t.name) × (string_at heap (name_place at t.namespace) ≡ Some t.namespace)
AreNamesRead heap at (Field f) = string_at heap (name_place at f.name) ≡ Some f.name
AreNamesRead heap at (MethodDef m) = string_at heap (name_place at m.name) ≡ Some m.name
AreNamesRead heap at (AssemblyRef a) = string_at heap (name_place at a.name) ≡ Some a.name
AreNamesRead heap at (TypeRef t) = (string_at heap (name_place (at + length (name_entry t.namespace)) t.name) ≡ Some t.name) × (string_at heap (name_place at t.namespace) ≡ Some t.namespace)
AreNamesRead heap at (MemberRef m) = string_at heap (name_place at m.name) ≡ Some m.name
AreNamesRead heap at _ = Unit {0}

-- and so is its blob
abbrev pub IsBlobRead : List ℕ → ℕ → Row → Type 0
IsBlobRead heap at (Field f) = blob_at heap at ≡ Some f.signature
IsBlobRead heap at (MethodDef m) = blob_at heap at ≡ Some m.signature
IsBlobRead heap at (MemberRef m) = blob_at heap at ≡ Some m.signature
IsBlobRead heap at (TypeSpec signature) = blob_at heap at ≡ Some signature
IsBlobRead heap at (Locals signature) = blob_at heap at ≡ Some signature
IsBlobRead heap at _ = Unit {0}

-- its tokens are those of rows that are asked for
abbrev pub AreTokens : Asked → Row → Type 0
AreTokens r (TypeDef t) = (t.extends ≡ 0) ⊎ IsToken r (2 ∷ 1 ∷ 27 ∷ []) t.extends
AreTokens r (TypeRef t) = IsToken r (0 ∷ 35 ∷ 1 ∷ []) t.scope
AreTokens r (MemberRef m) = IsToken r (2 ∷ 1 ∷ 6 ∷ 27 ∷ []) m.parent
AreTokens r (InterfaceImpl i) = IsToken r (2 ∷ []) i.class × IsToken r (2 ∷ 1 ∷ 27 ∷ []) i.interface
AreTokens r (NestedClass n) = IsToken r (2 ∷ []) n.nested × IsToken r (2 ∷ []) n.enclosing
AreTokens r (ClassLayout l) = IsToken r (2 ∷ []) l.class
AreTokens r _ = Unit {0}

-- all that is known of a row at these places
pub record IsSound (m : MetadataPart) (r : Asked) (p : Places) (row : Row) : Type 0 where
  pub names : AreNamesRead m.strings p.strings row
  pub blob : IsBlobRead m.blobs p.blobs row
  pub tokens : AreTokens r row
  pub fields : p.fields + is_field row ≤ row_count m 4
  pub methods : p.methods + is_method row ≤ row_count m 6

-- two names, one behind the other
two_names : (heap first second rest behind : List ℕ) (at : ℕ) → heap ≡ 0 ∷ rest → drop at heap ≡ (name_entry first ++ name_entry second) ++ behind → is_name first ≡ true → is_name second ≡ true
    → (string_at heap (name_place (at + length (name_entry first)) second) ≡ Some second) × (string_at heap (name_place at first) ≡ Some first)
two_names heap first second rest behind at begins e is_first is_second =
    let split : drop at heap ≡ name_entry first ++ (name_entry second ++ behind) = e ∙ append_assoc (name_entry first) (name_entry second) behind in
    let next : drop (at + length (name_entry first)) heap ≡ name_entry second ++ behind =
    sym (drop-drop (length (name_entry first)) at heap) ∙ ap (drop (length (name_entry first))) split ∙ drop_at (name_entry first) (name_entry second ++ behind) (length (name_entry first)) refl in
    (string_entry heap second behind rest (at + length (name_entry first)) begins next is_second, string_entry heap first (name_entry second ++ behind) rest at begins split is_first)

-- names stand at their places
names_read : (r : Asked) (heap rest behind : List ℕ) (at : ℕ) (row : Row) → heap ≡ 0 ∷ rest → drop at heap ≡ strings_of row ++ behind → is_askable_row r row ≡ true → AreNamesRead heap at row
names_read r heap rest behind at (TypeDef t) begins e is =
    let inner = (and_parts _ _ (and_parts _ _ is).0) in
    two_names heap t.namespace t.name rest behind at begins e (and_parts _ _ inner.0).1 inner.1
names_read r heap rest behind at (Field f) begins e is = string_entry heap f.name behind rest at begins e (and_parts _ _ (and_parts _ _ (and_parts _ _ is).0).0).1
names_read r heap rest behind at (MethodDef m) begins e is = string_entry heap m.name behind rest at begins e (and_parts _ _ (and_parts _ _ (and_parts _ _ is).0).0).1
names_read r heap rest behind at (AssemblyRef a) begins e is = string_entry heap a.name behind rest at begins e (and_parts _ _ is).0
names_read r heap rest behind at (TypeRef t) begins e is = two_names heap t.namespace t.name rest behind at begins e (and_parts _ _ (and_parts _ _ is).0).1 (and_parts _ _ is).1
names_read r heap rest behind at (MemberRef m) begins e is = string_entry heap m.name behind rest at begins e (and_parts _ _ (and_parts _ _ is).0).1
names_read r heap rest behind at _ begins e is = tt

-- a blob is shorter than the weight
blob_read : (heap behind : List ℕ) (at : ℕ) (row : Row) → drop at heap ≡ blobs_of row ++ behind → row_weight row ≤ 4194304 → IsBlobRead heap at row
blob_read heap behind at (Field f) e light = blob_found heap f.signature behind at e (omega (arith, light))
blob_read heap behind at (MethodDef m) e light = blob_found heap m.signature behind at e (omega (arith, light))
blob_read heap behind at (MemberRef m) e light = blob_found heap m.signature behind at e (omega (arith, light))
blob_read heap behind at (TypeSpec signature) e light = blob_found heap signature behind at e (omega (arith, light))
blob_read heap behind at (Locals signature) e light = blob_found heap signature behind at e (omega (arith, light))
blob_read heap behind at _ e light = tt

-- the tokens of a row that may be asked for
tokens_are : (r : Asked) (row : Row) → is_askable_row r row ≡ true → AreTokens r row
tokens_are r (TypeDef t) is = one_of (or_cases _ _ (and_parts _ _ is).1) where
  one_of : (eqb t.extends 0 ≡ true) ⊎ (is_token r (2 ∷ 1 ∷ 27 ∷ []) t.extends ≡ true) → (t.extends ≡ 0) ⊎ IsToken r (2 ∷ 1 ∷ 27 ∷ []) t.extends
  one_of (inl none) = inl (eqb-true t.extends 0 none)
  one_of (inr some) = inr (token_parts r (2 ∷ 1 ∷ 27 ∷ []) t.extends some)
tokens_are r (TypeRef t) is = token_parts r (0 ∷ 35 ∷ 1 ∷ []) t.scope (and_parts _ _ (and_parts _ _ is).0).0
tokens_are r (MemberRef m) is = token_parts r (2 ∷ 1 ∷ 6 ∷ 27 ∷ []) m.parent (and_parts _ _ (and_parts _ _ is).0).0
tokens_are r (InterfaceImpl i) is = (token_parts r (2 ∷ []) i.class (and_parts _ _ is).0, token_parts r (2 ∷ 1 ∷ 27 ∷ []) i.interface (and_parts _ _ is).1)
tokens_are r (NestedClass n) is = (token_parts r (2 ∷ []) n.nested (and_parts _ _ is).0, token_parts r (2 ∷ []) n.enclosing (and_parts _ _ is).1)
tokens_are r (ClassLayout l) is = token_parts r (2 ∷ []) l.class (and_parts _ _ is).1
tokens_are r _ is = tt

-- fields and methods are the rows of their tables
fields_are : (row : Row) → count_in 4 row ≡ is_field row
fields_are (Field f) = refl
fields_are _ = refl

-- and methods those of theirs
methods_are : (row : Row) → count_in 6 row ≡ is_method row
methods_are (MethodDef m) = refl
methods_are _ = refl

-- functions that agree have one sum
same_sums : (f g : Row → ℕ) → ((row : Row) → f row ≡ g row) → (rows : List Row) → sum_by f rows ≡ sum_by g rows
same_sums f g same [] = refl
same_sums f g same (row ∷ rows) = omega (arith, same row, same_sums f g same rows, sum_by-cons f row rows, sum_by-cons g row rows)

-- a part of a sum is no more than it
pub within_sum : (f : Row → ℕ) (rows before : List Row) (row : Row) (behind : List Row) → rows ≡ before ++ row ∷ behind → sum_by f before + f row ≤ sum_by f rows
within_sum f rows before row behind e = omega (arith, ap (sum_by f) e, sum_by-append f before (row ∷ behind), sum_by-cons f row behind)

-- the rows of both tables by the rows that are asked for
rows_are : (r : Asked) → (rows_asked r 4 ≡ sum_by is_field r.rows) × (rows_asked r 6 ≡ sum_by is_method r.rows)
unfolding rows_asked
rows_are r = (omega (arith, same_sums (count_in 4) is_field fields_are r.rows), omega (arith, same_sums (count_in 6) is_method methods_are r.rows))

-- each row may be asked for
askable_at : (r : Asked) (before : List Row) (row : Row) (behind : List Row) → IsAskable r → r.rows ≡ before ++ row ∷ behind → is_askable_row r row ≡ true
askable_at r before row behind is e =
    let all : list_all (is_askable_row r) (before ++ row ∷ behind) ≡ true = sym (ap (list_all (is_askable_row r)) e) ∙ is.rows in
    let parts : (list_all (is_askable_row r) before && list_all (is_askable_row r) (row ∷ behind)) ≡ true = sym (list_all-append (is_askable_row r) before (row ∷ behind)) ∙ all in
    (and_parts _ _ (and_parts _ _ parts).1).0

-- each row that is asked for is sound
pub sound : (m : MetadataPart) (r : Asked) → IsPartOf m r → IsAskable r → (before : List Row) (row : Row) (behind : List Row) → r.rows ≡ before ++ row ∷ behind → IsSound m r (places_behind r.name before) row
sound m r part is before row behind e =
    let p : Places = places_behind r.name before in
    let b : IsBehind (first_places r.name) before p = all_behind (first_places r.name) before in
    let s : IsSplit r before row = split_of r before row behind e in
    let askable : is_askable_row r row ≡ true = askable_at r before row behind is e in
    let begins = strings_begin r in
    record {
      names = names_read r m.strings (MODULE_TYPE ++ (name_entry r.name ++ begins.0)) s.strings.0 p.strings row (part.strings ∙ begins.1) (ap (drop p.strings) part.strings ∙ s.strings.1) askable;
      blob = blob_read m.blobs s.blobs.0 p.blobs row (ap (drop p.blobs) part.blobs ∙ s.blobs.1) (omega (arith, row_weights r is.light, within_sum row_weight r.rows before row behind e));
      tokens = tokens_are r row askable;
      fields = omega (arith, b.fields, within_sum is_field r.rows before row behind e, (rows_are r).0, counted m r 4 part.tables (omega arith));
      methods = omega (arith, b.methods, within_sum is_method r.rows before row behind e, (rows_are r).1, counted m r 6 part.tables (omega arith));
    }
