-- What the tests of a type's row say, by the table of classes and the names of the file's types.
use Rattle.std.proofs.Common.{◌≡◌, ◌∙◌, ℕ, suc, ◌+◌, ◌<◌, ◌≤◌, Bool, List, [], ◌∷◌, map, take, Option, Some, None, refl, sym, ap, arith, add-one}
use Rattle.std.specs.Prelude.{slice_get, slice_index, unwrap_or, is_some}
use Rattle.std.specs.List.{list_any, position}
use Rattle.std.specs.Option.{option_map}
use Rattle.std.proofs.lemmas.Option.{slice_get-get_or, slice_get_past}
use Rattle.plain_types.specs.declared.fault.Fault.{Fault}
use Rattle.file_tables.specs.declared.schema.Coded.TheVariants.{TypeDefOrRef}
use Rattle.file_tables.specs.Metadata.{MetadataPart, rows_of, row_of, row_count}
use Rattle.file_tables.specs.File.{FilePart}
use Rattle.machine.specs.Throw.{on_some}
use Rattle.classes.specs.Classes.{TypeKind, Reference, Class, Classes}
use Rattle.classes.specs.Queries.{fields_of}
use Rattle.alike.proofs.Lists.{position_map}
use Rattle.assemblies.specs.Rows.{Assembly, TypeRow}
use Rattle.assemblies.specs.Binding.{id_at, numbered, resolve}
use Rattle.assemblies.proofs.Numbered.{get_numbered}
use Rattle.world_rows.specs.Tokens.{type_defs, interface_impls, class_layouts, coded_type}
use Rattle.world_rows.specs.Rows.{row_with, type_row}
use Rattle.world_rows.specs.Kinds.{kind_of}
use Rattle.world_rows.specs.World.{type_count, size_of, rows_alone, assembly_with, assemblies_of, ecma_sources}
use Rattle.world_rows.proofs.Alone.{resolve_alone}
use Rattle.type_names.specs.Names.{TypeName, same_name, type_name, type_name_at}
use Rattle.type_names.specs.Resolved.{class_coded}
use Rattle.class_table.specs.declared.rows.ClassRow.{ClassRow}
use Rattle.class_table.specs.declared.rows.FileRows.{FileRows}
use Rattle.class_table.specs.declared.rows.ClassTable.{ClassTable}
use Rattle.class_table.specs.Seen.{class_row, classes_seen, row_seen}
use Rattle.class_table.specs.Outlines.{Outline, outline_seen, outline_of}
use Rattle.class_table.specs.Whole.{IsTable}
use Rattle.class_table.proofs.TableLaws.{table_law}
use Rattle.class_queries.specs.Found.{found_row}
use Rattle.class_rules.specs.Rules.{holds_some, may_be_implemented}
use Rattle.verdict_rules.specs.Order.{TableRules, first_fault, test}
use Rattle.verdict_rules.specs.World.{World, world_of}
use Rattle.verdict_rules.specs.Types.{has_layout, has_name, is_type_before, of_class, class_tests, type_tests, interface_tests}
use Rattle.profile_subject.specs.Faults.{row_fault}
use Rattle.type_tests.specs.Columns.{class_name, first_of_name, precedes}
use Rattle.type_tests.specs.Judged.{world_seen}
use Rattle.type_tests.proofs.ListLaws.{any_before}

pub from_none : (n : ℕ) → 0 + n ≡ n
from_none n = omega arith

-- ---- rows and what they are told

-- the tables of a file
pub tables_are : (files : List FilePart) (file : ℕ) (m : MetadataPart) (x : FilePart) → option_map (λ (p : FilePart). p.metadata) (slice_get files file) ≡ Some m → slice_get files file ≡ Some x → m ≡ x.metadata
tables_are files file m x there at =
    let both : Some m ≡ Some x.metadata = sym there ∙ ap (option_map (λ (p : FilePart). p.metadata)) at in
    cc

module _ (file : ℕ) (m : MetadataPart) (rules : TableRules) (n : ℕ) where
  pub no_row : row_count m rules.table ≤ n → row_fault file m rules n ≡ None
  no_row past = ap (λ o. on_some o (λ row. first_fault file rules.table (suc n) (rules.tests n row))) (slice_get_past (rows_of m rules.table) n past)

  pub of_row : n < row_count m rules.table → row_fault file m rules n ≡ first_fault file rules.table (suc n) (rules.tests n (row_of m rules.table (suc n)))
  of_row within = ap (λ o. on_some o (λ row. first_fault file rules.table (suc n) (rules.tests n row))) (slice_get-get_or (rows_of m rules.table) n [] within)

module _ (files : List FilePart) (t : ClassTable) (table : IsTable files t) where
  with_classes : Classes → World
  with_classes cs =
      record {
        files = files;
        types = type_count (rows_alone files);
        size = size_of (rows_alone files);
        alone = rows_alone files;
        rows = assemblies_of files;
        sources = record { classes = cs; code = (ecma_sources files).code; entry = (ecma_sources files).entry };
      }

  pub world_is : world_seen files t ≡ world_of files
  unfolding with_classes
  world_is = ap with_classes (table_law files t table)

  module _ (file : ℕ) (m : MetadataPart) (n : ℕ) (within : n < row_count m type_defs) where
    by_class : row_fault file m (record { table = type_defs; tests = type_tests (world_of files) file m }) n ≡ first_fault file type_defs (suc n) (of_class (class_row t (id_at file n)) (class_tests (world_seen files t) m (id_at file n) (row_of m type_defs (suc n))))
    by_class =
        ap (λ (w : World). row_fault file m (record { table = type_defs; tests = type_tests w file m }) n) (sym world_is)
        ∙ of_row file m (record { table = type_defs; tests = type_tests (world_seen files t) file m }) n within

    pub no_class : class_row t (id_at file n) ≡ None → row_fault file m (record { table = type_defs; tests = type_tests (world_of files) file m }) n ≡ None
    no_class e = by_class ∙ ap (λ (k : Option Class). first_fault file type_defs (suc n) (of_class k (class_tests (world_seen files t) m (id_at file n) (row_of m type_defs (suc n))))) e

    pub a_class : (k : Class) → class_row t (id_at file n) ≡ Some k → row_fault file m (record { table = type_defs; tests = type_tests (world_of files) file m }) n ≡ first_fault file type_defs (suc n) (class_tests (world_seen files t) m (id_at file n) (row_of m type_defs (suc n)) k)
    a_class k e = by_class ∙ ap (λ (k : Option Class). first_fault file type_defs (suc n) (of_class k (class_tests (world_seen files t) m (id_at file n) (row_of m type_defs (suc n))))) e

  -- ---- an interface

  module _ (file : ℕ) (m : MetadataPart) (there : option_map (λ (p : FilePart). p.metadata) (slice_get files file) ≡ Some m) where
    named_is : (index : ℕ) → class_coded files file TypeDefOrRef index ≡ resolve (size_of (rows_alone files)) (assemblies_of files) file (coded_type m TypeDefOrRef index)
    named_is index = go (slice_get files file) there
      where
        go : (o : Option FilePart) → option_map (λ (p : FilePart). p.metadata) o ≡ Some m → on_some o (λ f. resolve (size_of (rows_alone files)) (rows_alone files) file (coded_type f.metadata TypeDefOrRef index)) ≡ resolve (size_of (rows_alone files)) (assemblies_of files) file (coded_type m TypeDefOrRef index)
        go None e = cc e
        go (Some x) e =
            let same : x.metadata ≡ m = cc e in
            sym (resolve_alone files (size_of (rows_alone files)) file (coded_type x.metadata TypeDefOrRef index))
            ∙ ap (λ (y : MetadataPart). resolve (size_of (rows_alone files)) (assemblies_of files) file (coded_type y TypeDefOrRef index)) same

    pub an_interface : (n index : ℕ) → n < row_count m interface_impls → slice_index (row_of m interface_impls (suc n)) 1 ≡ index → row_fault file m (record { table = interface_impls; tests = interface_tests (world_of files) file m }) n ≡ first_fault file interface_impls (suc n) (test 25 (holds_some (class_coded files file TypeDefOrRef index) (may_be_implemented (type_count (rows_alone files)) (classes_seen t))) ∷ [])
    an_interface n index within same =
        ap (λ (w : World). row_fault file m (record { table = interface_impls; tests = interface_tests w file m }) n) (sym world_is)
        ∙ of_row file m (record { table = interface_impls; tests = interface_tests (world_seen files t) file m }) n within
        ∙ ap (λ i. first_fault file interface_impls (suc n) (test 25 (holds_some (resolve (size_of (rows_alone files)) (assemblies_of files) file (coded_type m TypeDefOrRef i)) (may_be_implemented (type_count (rows_alone files)) (classes_seen t))) ∷ [])) same
        ∙ ap (λ o. first_fault file interface_impls (suc n) (test 25 (holds_some o (may_be_implemented (type_count (rows_alone files)) (classes_seen t))) ∷ [])) (sym (named_is index))

-- ---- the row of a class

pub row_there : (t : ClassTable) (file n : ℕ) (r : ClassRow) → found_row t (id_at file n) ≡ Some r → (f : FileRows) × (slice_get t.files.items file ≡ Some f) × (class_row t (id_at file n) ≡ Some (row_seen file f r))
row_there t file n r e = go (slice_get t.files.items file) refl e
  where
    go : (o : Option FileRows) → slice_get t.files.items file ≡ o → on_some o (λ (f : FileRows). slice_get f.classes.items n) ≡ Some r → (f : FileRows) × (slice_get t.files.items file ≡ Some f) × (class_row t (id_at file n) ≡ Some (row_seen file f r))
    go None at h = cc h
    go (Some f) at h = (f, at, ap (λ o. on_some o (λ (f : FileRows). option_map (row_seen file f) (slice_get f.classes.items n))) at ∙ ap (option_map (row_seen file f)) h)

pub row_nowhere : (t : ClassTable) (file n : ℕ) → found_row t (id_at file n) ≡ None → class_row t (id_at file n) ≡ None
row_nowhere t file n e = go (slice_get t.files.items file) refl e
  where
    go : (o : Option FileRows) → slice_get t.files.items file ≡ o → on_some o (λ (f : FileRows). slice_get f.classes.items n) ≡ None → class_row t (id_at file n) ≡ None
    go None at h = ap (λ o. on_some o (λ (f : FileRows). option_map (row_seen file f) (slice_get f.classes.items n))) at
    go (Some f) at h = ap (λ o. on_some o (λ (f : FileRows). option_map (row_seen file f) (slice_get f.classes.items n))) at ∙ ap (option_map (row_seen file f)) h

pub class_there : (t : ClassTable) (file n : ℕ) (f : FileRows) (r : ClassRow) → slice_get t.files.items file ≡ Some f → found_row t (id_at file n) ≡ Some r → class_row t (id_at file n) ≡ Some (row_seen file f r)
class_there t file n f r at e =
    let here : slice_get f.classes.items n ≡ Some r = sym (ap (λ o. on_some o (λ (f : FileRows). slice_get f.classes.items n)) at) ∙ e in
    ap (λ o. on_some o (λ (f : FileRows). option_map (row_seen file f) (slice_get f.classes.items n))) at ∙ ap (option_map (row_seen file f)) here

pub fields_are : (t : ClassTable) (file n : ℕ) (f : FileRows) (r : ClassRow) → slice_get t.files.items file ≡ Some f → found_row t (id_at file n) ≡ Some r → fields_of (classes_seen t) (id_at file n) ≡ (row_seen file f r).fields
fields_are t file n f r at e = ap (λ (o : Option Class). unwrap_or (option_map (λ k. k.fields) o) []) (class_there t file n f r at e)

-- ---- a layout

pub layout_is : {A : Type 0} (g : A → ℕ) (o : Option A) (m : MetadataPart) (n : ℕ) → option_map g o ≡ option_map (λ row. slice_index row 0) (row_with 2 (n + 1) (rows_of m class_layouts)) → is_some o ≡ has_layout m n
layout_is {A} g o m n e = go o (row_with 2 (n + 1) (rows_of m class_layouts)) e ∙ ap (λ k. is_some (row_with 2 k (rows_of m class_layouts))) (add-one n)
  where
    go : (o : Option A) (r : Option (List ℕ)) → option_map g o ≡ option_map (λ row. slice_index row 0) r → is_some o ≡ is_some r
    go None None h = refl
    go None (Some row) h = cc h
    go (Some x) None h = cc h
    go (Some x) (Some row) h = refl

-- ---- an earlier type of the names

pub names_are : (m : MetadataPart) (kinds : ℕ → TypeKind) (n : ℕ) (rows : List (List ℕ)) → map type_name (numbered (type_row m kinds) n rows) ≡ numbered (type_name_at m) n rows
names_are m kinds n [] = refl
names_are m kinds n (row ∷ rows) = ap (λ ys. type_name_at m n row ∷ ys) (names_are m kinds (suc n) rows)

module _ (m : MetadataPart) (kinds : ℕ → TypeKind) where
  abbrev types : List TypeRow
  types = numbered (type_row m kinds) 0 (rows_of m type_defs)

  same_place : (name : TypeName) → position (λ t. same_name name (type_name t)) types ≡ first_of_name m name
  same_place name =
      sym (position_map type_name (same_name name) (λ t. same_name name (type_name t)) types (λ t. refl))
      ∙ ap (position (same_name name)) (names_are m kinds 0 (rows_of m type_defs) ∙ sym (names_are m (λ n. Reference) 0 (rows_of m type_defs)))
      ∙ position_map type_name (same_name name) (λ t. same_name name (type_name t)) (numbered (type_row m (λ n. Reference)) 0 (rows_of m type_defs)) (λ t. refl)

  type_at : (n : ℕ) → n < row_count m type_defs → slice_get types n ≡ Some (type_row m kinds n (row_of m type_defs (suc n)))
  type_at n within =
      get_numbered (type_row m kinds) 0 n (rows_of m type_defs)
      ∙ ap (option_map (type_row m kinds (0 + n))) (slice_get-get_or (rows_of m type_defs) n [] within)
      ∙ ap (λ k. Some (type_row m kinds k (row_of m type_defs (suc n)))) (from_none n)

  before_in : (n : ℕ) → n < row_count m type_defs → holds_some (slice_get types n) (λ t. list_any (has_name t) (take n types)) ≡ precedes n (first_of_name m (type_name_at m n (row_of m type_defs (suc n))))
  before_in n within =
      ap (λ (o : Option TypeRow). holds_some o (λ t. list_any (has_name t) (take n types))) (type_at n within)
      ∙ any_before (has_name (type_row m kinds n (row_of m type_defs (suc n)))) types n
      ∙ ap (precedes n) (same_place (type_name_at m n (row_of m type_defs (suc n))))

abbrev outline_name : Outline → TypeName
outline_name o = record { enclosing = o.enclosing; namespace = o.namespace; name = o.name }

module _ (files : List FilePart) (file : ℕ) (m : MetadataPart) (there : option_map (λ (p : FilePart). p.metadata) (slice_get files file) ≡ Some m) where
  assembly_at : slice_get (assemblies_of files) file ≡ option_map (assembly_with (size_of (rows_alone files)) files (rows_alone files) file) (slice_get files file)
  unfolding assemblies_of
  assembly_at = get_numbered (assembly_with (size_of (rows_alone files)) files (rows_alone files)) 0 file files ∙ ap (λ n. option_map (assembly_with (size_of (rows_alone files)) files (rows_alone files) n) (slice_get files file)) (from_none file)

  -- the names of the rows of a table
  pub rows_named : (t : ClassTable) → IsTable files t → (f : FileRows) → slice_get t.files.items file ≡ Some f → map class_name f.classes.items ≡ numbered (type_name_at m) 0 (rows_of m type_defs)
  rows_named t table f here =
      outlined f.classes.items
      ∙ ap (map outline_name) (table.rows file f here).classes
      ∙ ap (λ (o : Option Assembly). map outline_name (unwrap_or (option_map (λ (p : Assembly). map (outline_of (size_of (rows_alone files)) (assemblies_of files) file) p.types) o) [])) assembly_at
      ∙ go (slice_get files file) there
    where
      outlined : (cs : List ClassRow) → map class_name cs ≡ map outline_name (map outline_seen cs)
      outlined [] = refl
      outlined (c ∷ cs) = ap (λ ns. class_name c ∷ ns) (outlined cs)

      of_types : (ts : List TypeRow) → map outline_name (map (outline_of (size_of (rows_alone files)) (assemblies_of files) file) ts) ≡ map type_name ts
      of_types [] = refl
      of_types (y ∷ ys) = ap (λ ns. type_name y ∷ ns) (of_types ys)

      go : (o : Option FilePart) → option_map (λ (p : FilePart). p.metadata) o ≡ Some m → map outline_name (unwrap_or (option_map (λ (p : Assembly). map (outline_of (size_of (rows_alone files)) (assemblies_of files) file) p.types) (option_map (assembly_with (size_of (rows_alone files)) files (rows_alone files) file) o)) []) ≡ numbered (type_name_at m) 0 (rows_of m type_defs)
      go None e = cc e
      go (Some x) e =
          let same : x.metadata ≡ m = cc e in
          of_types (numbered (type_row x.metadata (λ i. kind_of (size_of (rows_alone files)) (rows_alone files) (id_at file i))) 0 (rows_of x.metadata type_defs))
          ∙ names_are x.metadata (λ i. kind_of (size_of (rows_alone files)) (rows_alone files) (id_at file i)) 0 (rows_of x.metadata type_defs)
          ∙ ap (λ (y : MetadataPart). numbered (type_name_at y) 0 (rows_of y type_defs)) same

  pub before_is : (n : ℕ) → n < row_count m type_defs → is_type_before (assemblies_of files) (id_at file n) ≡ precedes n (first_of_name m (type_name_at m n (row_of m type_defs (suc n))))
  before_is n within = ap (λ (o : Option Assembly). holds_some o (λ p. holds_some (slice_get p.types n) (λ t. list_any (has_name t) (take n p.types)))) assembly_at ∙ go (slice_get files file) there
    where
      go : (o : Option FilePart) → option_map (λ (p : FilePart). p.metadata) o ≡ Some m → holds_some (option_map (assembly_with (size_of (rows_alone files)) files (rows_alone files) file) o) (λ (p : Assembly). holds_some (slice_get p.types n) (λ t. list_any (has_name t) (take n p.types))) ≡ precedes n (first_of_name m (type_name_at m n (row_of m type_defs (suc n))))
      go None e = cc e
      go (Some x) e =
          let same : x.metadata ≡ m = cc e in
          ap (λ (y : MetadataPart). holds_some (slice_get (numbered (type_row y (λ i. kind_of (size_of (rows_alone files)) (rows_alone files) (id_at file i))) 0 (rows_of y type_defs)) n) (λ t. list_any (has_name t) (take n (numbered (type_row y (λ i. kind_of (size_of (rows_alone files)) (rows_alone files) (id_at file i))) 0 (rows_of y type_defs))))) same
          ∙ before_in m (λ i. kind_of (size_of (rows_alone files)) (rows_alone files) (id_at file i)) n within

-- ---- what a row of types is told

module _ (files : List FilePart) (t : ClassTable) (table : IsTable files t) (file : ℕ) (m : MetadataPart) (there : option_map (λ (p : FilePart). p.metadata) (slice_get files file) ≡ Some m) (x : FilePart) (at : slice_get files file ≡ Some x) (n : ℕ) where
  same : m ≡ x.metadata
  same = tables_are files file m x there at

  told_by : MetadataPart → Option Fault
  told_by y = row_fault file y (record { table = type_defs; tests = type_tests (world_of files) file y }) n

  pub type_nowhere : n < row_count m type_defs → found_row t (id_at file n) ≡ None → None ≡ row_fault file x.metadata (record { table = type_defs; tests = type_tests (world_of files) file x.metadata }) n
  unfolding told_by
  type_nowhere within none = sym (no_class files t table file m n within (row_nowhere t file n none)) ∙ ap told_by same

  pub type_told : n < row_count m type_defs → (r : ClassRow) → found_row t (id_at file n) ≡ Some r → (result : Option Fault) → ((f : FileRows) → slice_get t.files.items file ≡ Some f → result ≡ first_fault file type_defs (suc n) (class_tests (world_seen files t) m (id_at file n) (row_of m type_defs (suc n)) (row_seen file f r))) → result ≡ row_fault file x.metadata (record { table = type_defs; tests = type_tests (world_of files) file x.metadata }) n
  unfolding told_by
  type_told within r row result told =
      let f = row_there t file n r row in
      told f.0 f.1 ∙ sym (a_class files t table file m n within (row_seen file f.0 r) f.2) ∙ ap told_by same

  told_of_interface : MetadataPart → Option Fault
  told_of_interface y = row_fault file y (record { table = interface_impls; tests = interface_tests (world_of files) file y }) n

  pub interface_told : n < row_count m interface_impls → (index : ℕ) (well : Bool) (result : Option Fault) → slice_index (row_of m interface_impls (suc n)) 1 ≡ index → well ≡ holds_some (class_coded files file TypeDefOrRef index) (may_be_implemented (type_count (rows_alone files)) (classes_seen t)) → result ≡ first_fault file interface_impls (n + 1) (test 25 well ∷ []) → result ≡ row_fault file x.metadata (record { table = interface_impls; tests = interface_tests (world_of files) file x.metadata }) n
  unfolding told_of_interface
  interface_told within index well result column is_well e =
      e
      ∙ ap (λ b. first_fault file interface_impls (n + 1) (test 25 b ∷ [])) is_well
      ∙ ap (λ r. first_fault file interface_impls r (test 25 (holds_some (class_coded files file TypeDefOrRef index) (may_be_implemented (type_count (rows_alone files)) (classes_seen t))) ∷ [])) (add-one n)
      ∙ sym (an_interface files t table file m there n index within column)
      ∙ ap told_of_interface same
