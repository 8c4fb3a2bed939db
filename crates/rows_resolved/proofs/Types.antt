-- The rows of types of accepted files: what they name is there (rules 12, 24 and 25).
use Rattle.std.proofs.Common.{◌≡◌, ℕ, suc, ◌-◌, ◌<◌, ◌≤◌, Bool, true, false, cond, List, [], ◌∷◌, map, Option, Some, None, refl, sym, ap, ◌∙◌, subst, arith}
use Rattle.std.specs.Prelude.{◌==◌, not, nat_le, if◌then◌else◌, is_some, slice_get, slice_index}
use Rattle.std.specs.List.{filter, enumerate_from}
use Rattle.std.specs.Option.{option_map}
use Rattle.std.proofs.lemmas.Bool.{and_parts, leb-true}
use Rattle.std.proofs.lemmas.Option.{get_or_from_slice_get}
use Rattle.file_tables.specs.declared.schema.Coded.TheVariants.{TypeDefOrRef}
use Rattle.file_tables.specs.declared.schema.Column.TheVariants.{RowOf}
use Rattle.file_tables.specs.Schema.{columns_of}
use Rattle.file_tables.specs.Metadata.{MetadataPart, rows_of, row_count, column_of, is_row_in, is_column, is_row, token_row}
use Rattle.file_tables.specs.File.{FilePart}
use Rattle.machine.specs.Throw.{on_some}
use Rattle.classes.specs.Classes.{TypeKind, Class, Classes}
use Rattle.class_rules.specs.Rules.{only_if, extends_well, may_be_implemented}
use Rattle.class_rules.proofs.Kept.{holds_inv}
use Rattle.class_rules.proofs.Slots.{found}
use Rattle.class_rules.proofs.Ways.{all_at}
use Rattle.assemblies.specs.Rows.{TypeToken, TypeRow, Assembly}
use Rattle.assemblies.specs.Binding.{id_at, resolve, class_with}
use Rattle.assemblies.specs.Closed.{Each}
use Rattle.assemblies.proofs.Back.{get_within, get_there}
use Rattle.assemblies.proofs.Belong.{some_map}
use Rattle.kept_closure.specs.Named.{Stands, InOption}
use Rattle.kept_closure.specs.Kept.{NamesClass, NamesRow}
use Rattle.world_rows.specs.Tokens.{type_defs, interface_impls, nested_classes, coded_type, superclass_token}
use Rattle.world_rows.specs.Rows.{type_row, first_of, row_with, enclosing_of, interfaces_of}
use Rattle.world_rows.specs.Kinds.{kind_of}
use Rattle.world_rows.specs.World.{type_count, size_of, rows_alone, assemblies_of, ecma_sources}
use Rattle.verdict_rules.specs.Order.{first_fault, phase_fault}
use Rattle.verdict_rules.specs.World.{World, world_of}
use Rattle.verdict_rules.specs.Types.{of_class, class_tests, type_tests, interface_tests, type_rules, is_found}
use Rattle.verdict_laws.proofs.Kept.{tests_kept, row_kept}
use Rattle.verdict_laws.proofs.Rows.{from_zero, whole, file_there, file_at}
use Rattle.rows_resolved.specs.Resolved.{NestedStand}

-- ---- rows of a file

module _ (files : List FilePart) where
  abbrev ps : List Assembly
  ps = assemblies_of files

  pub file_of : (f : ℕ) (p : Assembly) → slice_get ps f ≡ Some p → (x : FilePart) × (slice_get files f ≡ Some x) × (whole files f x ≡ p)
  file_of f p e = some_map (whole files f) (slice_get files f) p (sym (file_there files f) ∙ e)

some_is : {A : Type 0} (o : Option A) → is_some o ≡ true → (x : A) × (o ≡ Some x)
some_is None e = absurd (cc e)
some_is (Some x) e = (x, refl)

-- ---- enclosing types

-- the column of the enclosing type (II.22.32)
outer_column : (m : MetadataPart) (k : ℕ) → is_row m nested_classes (suc k) ≡ true → is_row_in m type_defs (column_of m nested_classes (suc k) 1) ≡ true
unfolding is_row columns_of is_column
outer_column m k e = all_at (λ c. is_column m c.1 (column_of m nested_classes k c.0) (column_of m nested_classes (suc k) c.0)) (enumerate_from 0 (columns_of nested_classes)) 1 (1, RowOf type_defs) e refl

outer_within : (m : MetadataPart) (i : ℕ) (row : List ℕ) → ((row : ℕ) → row ≤ row_count m nested_classes → is_row m nested_classes row ≡ true) → slice_get (rows_of m nested_classes) i ≡ Some row → slice_index row 1 - 1 < row_count m type_defs
outer_within m i row stand e =
    let below = get_within (rows_of m nested_classes) i row e in
    let column : column_of m nested_classes (suc i) 1 ≡ slice_index row 1 = ap (λ r. slice_index r 1) (get_or_from_slice_get (rows_of m nested_classes) i row [] e) in
    let both = and_parts (nat_le 1 (column_of m nested_classes (suc i) 1)) (nat_le (column_of m nested_classes (suc i) 1) (row_count m type_defs)) (outer_column m i (stand (suc i) (omega (arith, below)))) in
    let low = leb-true 1 (column_of m nested_classes (suc i) 1) both.0 in
    let high = leb-true (column_of m nested_classes (suc i) 1) (row_count m type_defs) both.1 in
    omega (arith, column, low, high)

-- ---- interfaces

each_named : (P : TypeToken → Type 0) (mine : List ℕ → Bool) (token : List ℕ → TypeToken) (rows : List (List ℕ)) → ((i : ℕ) (row : List ℕ) → slice_get rows i ≡ Some row → P (token row)) → Each P (map token (filter mine rows))
each_named P mine token [] each = tt
each_named P mine token (row ∷ rows) each = by (mine row) (each_named P mine token rows (λ i r e. each (suc i) r e))
  where
    by : (b : Bool) → Each P (map token (filter mine rows)) → Each P (map token (cond b (row ∷ filter mine rows) (filter mine rows)))
    by true rest = (each 0 row refl, rest)
    by false rest = rest

module _ (files : List FilePart) where
  abbrev w : World
  w = world_of files

  abbrev size : ℕ
  size = size_of (rows_alone files)

  abbrev cs : Classes
  cs = (ecma_sources files).classes

  abbrev kind : ℕ → ℕ → TypeKind
  kind f n = kind_of size (rows_alone files) (id_at f n)

  type_at : (f n : ℕ) (x : FilePart) (row : List ℕ) → slice_get (rows_of x.metadata type_defs) n ≡ Some row → slice_get (whole files f x).types n ≡ Some (type_row x.metadata (kind f) n row)
  type_at f n x row e = from_zero (type_row x.metadata (kind f)) n (rows_of x.metadata type_defs) ∙ ap (option_map (type_row x.metadata (kind f) n)) e

  module _ (nested : NestedStand files) (in_types : phase_fault (type_rules w) files ≡ None) where
    outer_there : (f n : ℕ) (x : FilePart) → slice_get files f ≡ Some x → InOption (NamesRow size (assemblies_of files) f) (enclosing_of x.metadata n)
    outer_there f n x at = by (row_with 0 (suc n) (rows_of x.metadata nested_classes)) refl
      where
        by : (o : Option (List ℕ)) → row_with 0 (suc n) (rows_of x.metadata nested_classes) ≡ o → InOption (NamesRow size (assemblies_of files) f) (option_map (λ row. slice_index row 1 - 1) o)
        by None e = tt
        by (Some row) e =
            let i = found (λ row. slice_index row 0 == suc n) (rows_of x.metadata nested_classes) row e in
            let t = get_there (rows_of x.metadata type_defs) (slice_index row 1 - 1) (outer_within x.metadata i.0 row (nested f x at) i.1) in
            (whole files f x, (type_row x.metadata (kind f) (slice_index row 1 - 1) t.0, (file_at files f x at, type_at f (slice_index row 1 - 1) x t.0 t.1)))

    super_there : (f n : ℕ) (x : FilePart) (row : List ℕ) → slice_get files f ≡ Some x → slice_get (rows_of x.metadata type_defs) n ≡ Some row → InOption (NamesClass size (assemblies_of files) f) (first_of (superclass_token x.metadata (slice_index row 3)))
    super_there f n x row at here = by (token_row TypeDefOrRef (slice_index row 3) == 0) asked
      where
        k : Class
        k = class_with size (assemblies_of files) f (whole files f x) (type_row x.metadata (kind f) n row)

        class_is : cs.class (id_at f n) ≡ Some k
        class_is =
            ap (λ o. on_some o (λ (p : Assembly). option_map (class_with size (assemblies_of files) f p) (slice_get p.types n))) (file_at files f x at)
            ∙ ap (option_map (class_with size (assemblies_of files) f (whole files f x))) (type_at f n x row here)

        kept : first_fault f type_defs (suc n) (class_tests w x.metadata (id_at f n) row k) ≡ None
        kept =
            subst (λ o. first_fault f type_defs (suc n) (of_class o (class_tests w x.metadata (id_at f n) row)) ≡ None) class_is
            (row_kept (type_rules w) files in_types f x at 0 (record { table = type_defs; tests = type_tests w f x.metadata }) n row refl here)

        asked : is_found row k ≡ true
        asked = (and_parts (is_found row k) (extends_well (type_count (rows_alone files)) cs (id_at f n) k) (tests_kept f type_defs (suc n) (class_tests w x.metadata (id_at f n) row k) 0 kept)).0

        super : TypeToken
        super = coded_type x.metadata TypeDefOrRef (slice_index row 3)

        by : (b : Bool) → only_if (not b) (is_some (on_some (first_of (if b then [] else super ∷ [])) (resolve size (assemblies_of files) f))) ≡ true → InOption (NamesClass size (assemblies_of files) f) (first_of (if b then [] else super ∷ []))
        by true e = tt
        by false e = some_is (resolve size (assemblies_of files) f super) e

    interfaces_there : (f n : ℕ) (x : FilePart) → slice_get files f ≡ Some x → Each (NamesClass size (assemblies_of files) f) (interfaces_of x.metadata n)
    interfaces_there f n x at = each_named (NamesClass size (assemblies_of files) f) (λ row. slice_index row 0 == suc n) (λ row. coded_type x.metadata TypeDefOrRef (slice_index row 1)) (rows_of x.metadata interface_impls) each
      where
        each : (i : ℕ) (row : List ℕ) → slice_get (rows_of x.metadata interface_impls) i ≡ Some row → NamesClass size (assemblies_of files) f (coded_type x.metadata TypeDefOrRef (slice_index row 1))
        each i row e =
            let kept = row_kept (type_rules w) files in_types f x at 1 (record { table = interface_impls; tests = interface_tests w f x.metadata }) i row refl e in
            let c = holds_inv (resolve size (assemblies_of files) f (coded_type x.metadata TypeDefOrRef (slice_index row 1))) (may_be_implemented (type_count (rows_alone files)) cs) (tests_kept f interface_impls (suc i) (interface_tests w f x.metadata i row) 0 kept) in
            (c.0, c.1)

    pub types_mean : (f n : ℕ) (p : Assembly) (t : TypeRow) → Stands (assemblies_of files) (λ q. q.types) f n p t → InOption (NamesRow size (assemblies_of files) f) t.enclosing × InOption (NamesClass size (assemblies_of files) f) t.extends × Each (NamesClass size (assemblies_of files) f) t.interfaces
    types_mean f n p t s =
        let x = file_of files f p s.0 in
        let r = some_map (type_row x.0.metadata (kind f) n) (slice_get (rows_of x.0.metadata type_defs) n) t (sym (from_zero (type_row x.0.metadata (kind f)) n (rows_of x.0.metadata type_defs)) ∙ (ap (λ (q : Assembly). slice_get q.types n) x.2 ∙ s.1)) in
        subst (λ (t : TypeRow). InOption (NamesRow size (assemblies_of files) f) t.enclosing × InOption (NamesClass size (assemblies_of files) f) t.extends × Each (NamesClass size (assemblies_of files) f) t.interfaces) r.2
        (outer_there f n x.0 x.1, super_there f n x.0 r.0 x.1 r.1, interfaces_there f n x.0 x.1)
