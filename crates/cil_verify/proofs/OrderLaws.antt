-- Classes of files that keep the rules of types and members are in order.
use Rattle.std.proofs.Common.{◌≡◌, ℕ, zero, suc, ◌≤◌, Bool, true, false, List, [], ◌∷◌, map, length, cond, Option, Some, None, refl, sym, ap, ◌∙◌, subst, arith}
use Rattle.std.specs.Prelude.{codes, ◌&&◌, ◌==◌, not, is_some, slice_get, slice_index, unwrap_or}
use Rattle.std.specs.List.{list_all, filter, filter_map, cons_option}
use Rattle.std.specs.Option.{option_map}
use Rattle.std.proofs.lemmas.Bool.{and_parts, both_ways, not-true}
use Rattle.file_tables.specs.declared.schema.Coded.TheVariants.{TypeDefOrRef}
use Rattle.file_tables.specs.Metadata.{rows_of}
use Rattle.file_tables.specs.File.{FilePart}
use Rattle.plain_types.specs.declared.fault.TheConstants.{WHOLE_FILE}
use Rattle.machine.specs.Data.{Id}
use Rattle.machine.specs.Throw.{on_some}
use Rattle.machine_typed.proofs.Heaps.{some_inv}
use Rattle.classes.specs.Classes.{Class, Classes}
use Rattle.classes.specs.Queries.{above, ends, interfaces_of, is_interface, listed, superclass_of}
use Rattle.class_rules.specs.Rules.{holds_some, is_user, only_if, may_be_extended, may_be_implemented, extends_well, superclass_fits}
use Rattle.class_rules.proofs.Kept.{holds_inv, part_of, ends_more}
use Rattle.class_rules.proofs.Ways.{all_at}
use Rattle.class_order.specs.Order.{InOrder}
use Rattle.class_table.specs.declared.rows.ClassTable.{ClassTable}
use Rattle.class_table.specs.Seen.{classes_seen}
use Rattle.class_table.specs.Whole.{IsTable}
use Rattle.class_table.proofs.TableLaws.{table_law}
use Rattle.assemblies.specs.Rows.{TypeToken, Nowhere}
use Rattle.assemblies.specs.Binding.{resolve, type_in}
use Rattle.assemblies.proofs.Back.{get_there}
use Rattle.world_rows.specs.Tokens.{type_defs, interface_impls, coded_type}
use Rattle.world_rows.specs.World.{type_count, size_of, rows_alone, assemblies_of, ecma_sources}
use Rattle.world_rows.proofs.Read.{class_row}
use Rattle.verdict_rules.specs.Order.{first_fault, phase_fault}
use Rattle.verdict_rules.specs.World.{World, world_of, classes_of}
use Rattle.verdict_rules.specs.Types.{of_class, class_tests, type_tests, interface_tests, type_rules, is_found}
use Rattle.verdict_rules.specs.Library.{BaseType, of_system, is_such, base_types, has_type, library_well, library_tests}
use Rattle.verdict_rules.specs.Verdict.{member_rules, profile}
use Rattle.verdict_laws.proofs.Kept.{tests_kept, row_kept, whole_kept}
use Rattle.cil_verify.proofs.PhaseLaws.{types_kept, members_kept}

-- what rows name is named by one of them
module _ (resolves : TypeToken → Option Id) (token : List ℕ → TypeToken) (mine : List ℕ → Bool) (d : Id) where
  abbrev Named : List (List ℕ) → Type 0
  Named rows = (j : ℕ) × (row : List ℕ) × (slice_get rows j ≡ Some row) × (resolves (token row) ≡ Some d)

  abbrev names : List (List ℕ) → List Id
  names rows = filter_map resolves (map token (filter mine rows))

  by_name : (row : List ℕ) (rows : List (List ℕ)) (o : Option Id) (k : ℕ) → ((i : ℕ) → slice_get (names rows) i ≡ Some d → Named (row ∷ rows)) → resolves (token row) ≡ o → slice_get (cons_option o (names rows)) k ≡ Some d → Named (row ∷ rows)
  by_name row rows None k on is h = on k h
  by_name row rows (Some c) zero on is h = (0, row, refl, is ∙ h)
  by_name row rows (Some c) (suc k) on is h = on k h

  by_row : (row : List ℕ) (rows : List (List ℕ)) (b : Bool) (k : ℕ) → ((i : ℕ) → slice_get (names rows) i ≡ Some d → Named (row ∷ rows)) → slice_get (filter_map resolves (map token (cond b (row ∷ filter mine rows) (filter mine rows)))) k ≡ Some d → Named (row ∷ rows)
  by_row row rows true k on h = by_name row rows (resolves (token row)) k on refl h
  by_row row rows false k on h = on k h

  named_by : (rows : List (List ℕ)) (i : ℕ) → slice_get (names rows) i ≡ Some d → Named rows
  named_by [] i e = absurd (cc e)
  named_by (row ∷ rows) i e = by_row row rows (mine row) i (λ k h. let t = named_by rows k h in (suc t.0, t.1, t.2, t.3)) e

module _ (files : List FilePart) (kept : profile files ≡ None) where
  abbrev w : World
  w = world_of files

  abbrev n : ℕ
  n = type_count (rows_alone files)

  abbrev size : ℕ
  size = size_of (rows_alone files)

  abbrev cs : Classes
  cs = (ecma_sources files).classes

  in_types : phase_fault (type_rules w) files ≡ None
  in_types = types_kept files kept

  extends : (c : Id) (k : Class) → cs.class c ≡ Some k → extends_well n cs c k ≡ true
  extends c k there =
      let r = class_row files c k there in
      let told = row_kept (type_rules w) files in_types c.file r.file r.is_file 0 (record { table = type_defs; tests = type_tests w c.file r.file.metadata }) c.row r.row refl r.is_row in
      let mine : first_fault c.file type_defs (suc c.row) (class_tests w r.file.metadata c r.row k) ≡ None = subst (λ o. first_fault c.file type_defs (suc c.row) (of_class o (class_tests w r.file.metadata c r.row)) ≡ None) there told in
      (and_parts (is_found r.row k) (extends_well n cs c k) (tests_kept c.file type_defs (suc c.row) (class_tests w r.file.metadata c r.row k) 0 mine)).1

  -- an interface has no superclass
  no_super : (c : Id) → is_interface cs c ≡ true → superclass_of cs c ≡ None
  no_super c i = by (superclass_of cs c) refl
    where
      is_none : (d : Id) → superclass_of cs c ≡ Some d → is_interface cs c ≡ false
      is_none d e =
          let s = some_inv (cs.class c) (λ z. z.superclass) d e in
          let t = and_parts (superclass_fits cs c s.0 s.0.superclass) (ends n (above cs) c) (extends c s.0 s.1) in
          let f : superclass_fits cs c s.0 (Some d) ≡ true = subst (λ z. superclass_fits cs c s.0 z ≡ true) s.2 t.0 in
          let p = and_parts (not s.0.is_interface) (is_some (cs.class d) && (not (is_interface cs d) && only_if (is_user c) (may_be_extended cs d))) f in
          ap (λ z. unwrap_or (option_map (λ k. k.is_interface) z) false) s.1 ∙ not-true s.0.is_interface p.0

      by : (o : Option Id) → superclass_of cs c ≡ o → o ≡ None
      by None e = refl
      by (Some d) e = absurd (both_ways (is_interface cs c) (is_none d e) i)

  -- only interfaces are implemented
  interfaces_only : (c d : Id) (i : ℕ) → slice_get (interfaces_of cs c) i ≡ Some d → is_interface cs d ≡ true
  interfaces_only c d i e =
      let p = part_of (cs.class c) (λ z. z.interfaces) i d e in
      let r = class_row files c p.0 p.1 in
      let named : (j : ℕ) × (row : List ℕ) × (slice_get (rows_of r.file.metadata interface_impls) j ≡ Some row) × (resolve size (assemblies_of files) c.file (coded_type r.file.metadata TypeDefOrRef (slice_index row 1)) ≡ Some d) =
      named_by (resolve size (assemblies_of files) c.file) (λ row. coded_type r.file.metadata TypeDefOrRef (slice_index row 1)) (λ row. slice_index row 0 == suc c.row) d (rows_of r.file.metadata interface_impls) i
      (subst (λ (z : Class). slice_get z.interfaces i ≡ Some d) r.is p.2) in
      let told = row_kept (type_rules w) files in_types c.file r.file r.is_file 1 (record { table = interface_impls; tests = interface_tests w c.file r.file.metadata }) named.0 named.1 refl named.2 in
      let holds = tests_kept c.file interface_impls (suc named.0) (interface_tests w c.file r.file.metadata named.0 named.1) 0 told in
      (and_parts (is_interface cs d) (ends n (interfaces_of cs) d) (sym (ap (λ o. holds_some o (may_be_implemented n cs)) named.3) ∙ holds)).0

  -- ---- chains end

  module _ (two : 2 ≤ length files) where
    abbrev object : BaseType
    object = of_system (codes "Object") []

    abbrev is_object : Id → Bool
    is_object c = holds_some ((classes_of w).class c) (is_such w object)

    -- the library has a class
    some_class : (c : Id) × (k : Class) × (cs.class c ≡ Some k)
    some_class =
        let x = get_there files 0 (omega (arith, two)) in
        let told = whole_kept (member_rules w) files (members_kept files kept) 0 x.0 x.1 in
        let well : library_well w 0 x.0 ≡ true = tests_kept 0 WHOLE_FILE 0 (library_tests w 0 x.0) 0 told in
        let all = (and_parts (list_all (λ t. only_if (t.file == 0) (has_type w t)) base_types) _ well).0 in
        let has : has_type w object ≡ true = all_at (λ t. only_if (t.file == 0) (has_type w t)) base_types 0 object all refl in
        let c = holds_inv (type_in w.rows 0 None (record { scope = Nowhere; namespace = object.namespace; name = object.name })) is_object has in
        let k = holds_inv (cs.class c.0) (is_such w object) c.2 in
        (c.0, k.0, k.1)

    some_type : (m : ℕ) → n ≡ m → 1 ≤ m
    some_type zero e =
        let k = some_class in
        let t = and_parts (superclass_fits cs k.0 k.1 k.1.superclass) (ends n (above cs) k.0) (extends k.0 k.1 k.2) in
        absurd (let none : ends 0 (above cs) k.0 ≡ true = subst (λ m. ends m (above cs) k.0 ≡ true) e t.1 in cc none)
    some_type (suc m) e = omega arith

    low : n ≤ size
    low = omega arith

    none_above : (m : ℕ) (c : Id) → 1 ≤ m → cs.class c ≡ None → ends m (above cs) c ≡ true
    none_above zero c h e = absurd (omega (arith, h))
    none_above (suc m) c h e = ap (λ o. list_all (ends m (above cs)) (listed (on_some o (λ (k : Class). k.superclass)))) e

    ends_above : (c : Id) → ends size (above cs) c ≡ true
    ends_above c = by (cs.class c) refl
      where
        by : (o : Option Class) → cs.class c ≡ o → ends size (above cs) c ≡ true
        by None e = let some = some_type n refl in none_above size c (omega (arith, some, low)) e
        by (Some k) e = ends_more (above cs) n size c (and_parts (superclass_fits cs c k k.superclass) (ends n (above cs) c) (extends c k e)).1 low

    in_order : InOrder cs
    in_order = record { ends_above = ends_above; no_super = no_super; interfaces_only = λ c k i e. interfaces_only c k i e }

    pub table_in_order : (t : ClassTable) → IsTable files t → InOrder (classes_seen t)
    table_in_order t table = subst InOrder (sym (table_law files t table)) in_order
