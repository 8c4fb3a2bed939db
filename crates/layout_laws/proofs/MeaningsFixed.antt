-- The rows that nobody asks for: what they mean, and rule 12 for them.
use Rattle.std.proofs.Common.{◌≡◌, ℕ, ◌<◌, Bool, true, false, eqb, List, [], ◌∷◌, ◌++◌, take, drop, get_or, Some, refl, sym, ap, ◌∙◌, subst, arith}
use Rattle.std.proofs.lemmas.Bool.{eqb-true}
use Rattle.cil_layout.specs.declared.fixed.TheConstants.{MODULE_TYPE, HASH_ALGORITHM}
use Rattle.cil_layout.specs.declared.places.Places.{Places}
use Rattle.cil_layout.specs.Asked.{Asked}
use Rattle.cil_layout.specs.Askable.{IsAskable}
use Rattle.cil_layout.specs.Heaps.{name_entry, name_place}
use Rattle.cil_layout.specs.Numbers.{first_places, rows_from, table_rows}
use Rattle.file_tables.specs.Heaps.{string_at}
use Rattle.file_tables.specs.Schema.{columns_of}
use Rattle.file_tables.specs.Metadata.{MetadataPart, row_of, is_column}
use Rattle.layout_laws.specs.ReadBack.{meaning_of, meanings_by, meanings, module_meanings, module_type_meanings, assembly_meanings}
use Rattle.layout_laws.proofs.Entries.{string_entry, empty_string, module_type_name}
use Rattle.layout_laws.proofs.EntriesBlobs.{empty_blob}
use Rattle.layout_laws.proofs.EntriesPlaces.{strings_begin, blobs_begin}
use Rattle.layout_laws.proofs.MeaningsFacts.{IsPartOf, sound}
use Rattle.layout_laws.proofs.MeaningsKept.{row_kept, IsNoLater, no_lists, none_in, list_in}
use Rattle.layout_laws.proofs.MeaningsRows.{HasTables}
use Rattle.layout_laws.proofs.MeaningsSays.{HasZeros, none_named}
use Rattle.layout_laws.proofs.MeaningsWalk.{AllKept, walk}

-- the names that these rows have
record HasNames (m : MetadataPart) (r : Asked) : Type 0 where
  pub name : string_at m.strings (name_place 10 r.name) ≡ Some r.name
  pub module_type : string_at m.strings 1 ≡ Some (take 8 MODULE_TYPE)

-- they stand where `#Strings` begins
names_of : (m : MetadataPart) (r : Asked) → IsPartOf m r → IsAskable r → HasNames m r
names_of m r part is =
    let begins = strings_begin r in
    let e : m.strings ≡ 0 ∷ MODULE_TYPE ++ (name_entry r.name ++ begins.0) = part.strings ∙ begins.1 in
    record {
      name = string_entry m.strings r.name begins.0 (MODULE_TYPE ++ (name_entry r.name ++ begins.0)) 10 e (ap (drop 10) e) is.name;
      module_type = module_type_name m.strings (name_entry r.name ++ begins.0) e;
    }

-- both heaps begin with a zero
pub zeros_of : (m : MetadataPart) (r : Asked) → IsPartOf m r → HasZeros m
zeros_of m r part = record {
  string = empty_string m.strings (MODULE_TYPE ++ (name_entry r.name ++ (strings_begin r).0)) (part.strings ∙ (strings_begin r).1);
  blob = empty_blob m.blobs (blobs_begin r).0 (part.blobs ∙ (blobs_begin r).1);
}

-- the first row of a table
first_of_table : (m : MetadataPart) (r : Asked) (table : ℕ) → HasTables m r → table < 64 → row_of m table 1 ≡ get_or (table_rows r.name r.version r.rows table) 0 []
first_of_table m r table h below = ap (λ rows. get_or rows 0 []) (h.tables table below)

-- the row of Module
pub module_says : (m : MetadataPart) (r : Asked) → IsPartOf m r → IsAskable r → meanings m 0 (row_of m 0 1) ≡ module_meanings r
unfolding columns_of meanings_by meaning_of
module_says m r part is = ap (meanings m 0) (first_of_table m r 0 part.tables (omega arith)) ∙ rw ((names_of m r part is).name) refl

-- the row of the type `<Module>`
pub module_type_says : (m : MetadataPart) (r : Asked) → IsPartOf m r → IsAskable r → meanings m 2 (row_of m 2 1) ≡ module_type_meanings
unfolding columns_of meanings_by meaning_of
module_type_says m r part is = ap (meanings m 2) (first_of_table m r 2 part.tables (omega arith)) ∙ rw ((names_of m r part is).module_type, (zeros_of m r part).string, none_named) refl

-- the row of Assembly
pub assembly_says : (m : MetadataPart) (r : Asked) → IsPartOf m r → IsAskable r → meanings m 32 (row_of m 32 1) ≡ assembly_meanings r
unfolding columns_of meanings_by meaning_of
assembly_says m r part is =
    ap (meanings m 32) (first_of_table m r 32 part.tables (omega arith)) ∙ rw ((names_of m r part is).name, (zeros_of m r part).string, (zeros_of m r part).blob) refl

-- before the first row of a table no list begins
no_later : (table : ℕ) (p : Places) → IsNoLater table p []
no_later table p = record { fields = λ _. omega arith; methods = λ _. omega arith; params = λ _. omega arith }

-- rule 12 for the row of Module
module_kept : (m : MetadataPart) (r : Asked) → HasNames m r → row_kept m (columns_of 0) [] (0 ∷ name_place 10 r.name ∷ 1 ∷ 0 ∷ 0 ∷ []) ≡ true
unfolding columns_of row_kept is_column
module_kept m r names = rw names.name refl

-- rule 12 for the row of `<Module>`
module_type_kept : (m : MetadataPart) (r : Asked) → HasNames m r → HasZeros m → row_kept m (columns_of 2) [] (0 ∷ 1 ∷ 0 ∷ 0 ∷ 1 ∷ 1 ∷ []) ≡ true
unfolding columns_of row_kept is_column
module_type_kept m r names zeros = rw (names.module_type, zeros.string, none_in m, list_in m 4 0 0 (omega arith) (omega arith), list_in m 6 0 0 (omega arith) (omega arith)) refl

-- rule 12 for the row of Assembly
assembly_kept : (m : MetadataPart) (r : Asked) (a b c d : ℕ) → HasNames m r → HasZeros m → row_kept m (columns_of 32) [] (HASH_ALGORITHM ∷ a ∷ b ∷ c ∷ d ∷ 0 ∷ 0 ∷ name_place 10 r.name ∷ 0 ∷ []) ≡ true
unfolding columns_of row_kept is_column
assembly_kept m r a b c d names zeros = rw (names.name, zeros.string, zeros.blob) refl

-- rule 12 for all rows of a table
pub table_kept : (m : MetadataPart) (r : Asked) (table : ℕ) → IsPartOf m r → IsAskable r → AllKept m table [] (table_rows r.name r.version r.rows table)
table_kept m r table part is = by_test (eqb table 0) (eqb table 2) (eqb table 32) refl refl refl where
  names : HasNames m r
  names = names_of m r part is

  zeros : HasZeros m
  zeros = zeros_of m r part

  asked : (t : ℕ) (before : List ℕ) → IsNoLater t (first_places r.name) before → AllKept m t before (rows_from t (first_places r.name) r.rows)
  asked t before later = walk m r t (first_places r.name) r.rows before part.tables zeros (sound m r part is) later

  asked_plain : (t : ℕ) (before : List ℕ) → (t ≡ 2 → ⊥) → (t ≡ 6 → ⊥) → AllKept m t before (rows_from t (first_places r.name) r.rows)
  asked_plain t before no_type no_method = asked t before (no_lists t (first_places r.name) before no_type no_method)

  behind_type : IsNoLater 2 (first_places r.name) (0 ∷ 1 ∷ 0 ∷ 0 ∷ 1 ∷ 1 ∷ [])
  behind_type = record { fields = λ _. omega arith; methods = λ _. omega arith; params = λ e. absurd (omega (arith, e)) }

  by_test : (a b c : Bool) → eqb table 0 ≡ a → eqb table 2 ≡ b → eqb table 32 ≡ c → AllKept m table [] (table_rows r.name r.version r.rows table)
  by_test true _ _ e _ _ = subst (λ t. AllKept m t [] (table_rows r.name r.version r.rows t)) (sym (eqb-true table 0 e)) (module_kept m r names, asked_plain 0 _ (λ e. omega (arith, e)) (λ e. omega (arith, e)))
  by_test false true _ _ e _ = subst (λ t. AllKept m t [] (table_rows r.name r.version r.rows t)) (sym (eqb-true table 2 e)) (module_type_kept m r names zeros, asked 2 _ behind_type)
  by_test false false true _ _ e = subst (λ t. AllKept m t [] (table_rows r.name r.version r.rows t)) (sym (eqb-true table 32 e)) (assembly_kept m r _ _ _ _ names zeros, asked_plain 32 _ (λ e. omega (arith, e)) (λ e. omega (arith, e)))
  by_test false false false d e f = rw (d, e, f) (asked table [] (no_later table (first_places r.name)))
