-- The order of rule 31, a step at a time.
use Rattle.std.proofs.Common.{◌≡◌, ℕ, ◌+◌, ◌<◌, Bool, true, List, [], ◌∷◌, Option, Some, None, refl, sym, ap, ◌∙◌, subst, arith, add-one}
use Rattle.std.specs.Prelude.{suc, slice_get, length}
use Rattle.std.specs.Option.{option_map, option_map_or}
use Rattle.plain_types.specs.declared.fault.Fault.{Fault}
use Rattle.file_tables.specs.Metadata.{MetadataPart, rows_of, row_count}
use Rattle.file_tables.specs.File.{FilePart}
use Rattle.machine.specs.Throw.{on_some}
use Rattle.classes.specs.Classes.{Class, Classes}
use Rattle.assemblies.specs.Binding.{id_at}
use Rattle.assemblies.proofs.Back.{get_within, get_there}
use Rattle.world_rows.specs.Tokens.{type_defs}
use Rattle.class_rules.specs.Rules.{slots_filled}
use Rattle.class_table.specs.declared.rows.ClassRow.{ClassRow}
use Rattle.class_table.specs.declared.rows.FileRows.{FileRows}
use Rattle.class_table.specs.declared.rows.ClassTable.{ClassTable}
use Rattle.class_table.specs.Seen.{class_row, classes_seen, row_seen}
use Rattle.class_table.specs.Whole.{IsTable}
use Rattle.class_table.proofs.TableLaws.{table_law}
use Rattle.class_queries.specs.Found.{found_row}
use Rattle.verdict_rules.specs.Order.{Test, first_fault, test, table_fault, file_fault, phase_fault}
use Rattle.verdict_rules.specs.World.{world_of}
use Rattle.verdict_rules.specs.Types.{of_class}
use Rattle.verdict_rules.specs.Code.{slot_tests, slot_rules}
use Rattle.profile_subject.specs.Faults.{row_fault}
use Rattle.profile_order.proofs.OrderLaws.{after, each_none, each_some, file_there}
use Rattle.type_tests.proofs.TypeLaws.{of_row, row_there, row_nowhere}
use Rattle.slot_tests.specs.Told.{type_rule, types_in, row_told, file_told}

-- ---- a type

module _ (files : List FilePart) (t : ClassTable) (table : IsTable files t) (file n : ℕ) (below : file < length files) (within : n < types_in files file) where
  tests_by : Classes → List Test
  tests_by cs = of_class (cs.class (id_at file n)) (λ k. test 31 (slots_filled cs (id_at file n) k) ∷ [])

  told_by : row_told files file n ≡ first_fault file type_defs (suc n) (of_class (class_row t (id_at file n)) (λ k. test 31 (slots_filled (classes_seen t) (id_at file n) k) ∷ []))
  unfolding row_told types_in tests_by
  told_by =
      let x = file_there files file below in
      let here : n < row_count x.0.metadata type_defs = subst (λ (o : Option FilePart). n < option_map_or (λ (x : FilePart). row_count x.metadata type_defs) o 0) x.1 within in
      ap (λ o. on_some o (λ x. row_fault file x.metadata (type_rule (world_of files) file) n)) x.1
      ∙ of_row file x.0.metadata (type_rule (world_of files) file) n here
      ∙ ap (λ cs. first_fault file type_defs (suc n) (tests_by cs)) (sym (table_law files t table))

  pub no_class : found_row t (id_at file n) ≡ None → row_told files file n ≡ None
  no_class none = told_by ∙ ap (λ (o : Option Class). first_fault file type_defs (suc n) (of_class o (λ k. test 31 (slots_filled (classes_seen t) (id_at file n) k) ∷ []))) (row_nowhere t file n none)

  -- of a class whose slots have bodies nothing is told
  pub filled_row : ((k : Class) → class_row t (id_at file n) ≡ Some k → slots_filled (classes_seen t) (id_at file n) k ≡ true) → row_told files file n ≡ None
  filled_row filled = told_by ∙ go (class_row t (id_at file n)) refl
    where
      go : (o : Option Class) → class_row t (id_at file n) ≡ o → first_fault file type_defs (suc n) (of_class o (λ k. test 31 (slots_filled (classes_seen t) (id_at file n) k) ∷ [])) ≡ None
      go None is = refl
      go (Some k) is = ap (λ b. first_fault file type_defs (suc n) (test 31 b ∷ [])) (filled k is)

  pub a_class : (r : ClassRow) (filled : Bool) (result : Option Fault) → found_row t (id_at file n) ≡ Some r → ((f : FileRows) → filled ≡ slots_filled (classes_seen t) (id_at file n) (row_seen file f r)) → result ≡ first_fault file type_defs (n + 1) (test 31 filled ∷ []) → result ≡ row_told files file n
  a_class r filled result row is e =
      let f = row_there t file n r row in
      e
      ∙ ap (λ m. first_fault file type_defs m (test 31 filled ∷ [])) (add-one n)
      ∙ ap (λ b. first_fault file type_defs (suc n) (test 31 b ∷ [])) (is f.0)
      ∙ sym (told_by ∙ ap (λ (o : Option Class). first_fault file type_defs (suc n) (of_class o (λ k. test 31 (slots_filled (classes_seen t) (id_at file n) k) ∷ []))) f.2)

-- ---- a file

from_none : (k : ℕ) → 0 + k ≡ k
from_none k = omega arith

module _ (files : List FilePart) (file : ℕ) (x : FilePart) (at : slice_get files file ≡ Some x) where
  of_row_at : ℕ → List ℕ → Option Fault
  of_row_at n row = first_fault file type_defs (suc n) (slot_tests (world_of files) file n row)

  row_is : (k : ℕ) (row : List ℕ) → slice_get (rows_of x.metadata type_defs) k ≡ Some row → of_row_at (0 + k) row ≡ row_told files file k
  unfolding of_row_at row_told
  row_is k row here =
      ap (λ n. of_row_at n row) (from_none k)
      ∙ sym
      (ap (λ o. on_some o (λ x. row_fault file x.metadata (type_rule (world_of files) file) k)) at
      ∙ ap (λ o. on_some o (of_row_at k)) here)

  last : (o : Option Fault) → after o None ≡ o
  last None = refl
  last (Some fault) = refl

  table_is : file_told files file ≡ table_fault file x.metadata (type_rule (world_of files) file)
  unfolding file_told
  table_is =
      ap (λ o. on_some o (λ x. file_fault file x (slot_rules (world_of files) file x))) at
      ∙ last (after (table_fault file x.metadata (type_rule (world_of files) file)) None)
      ∙ last (table_fault file x.metadata (type_rule (world_of files) file))

  counted : types_in files file ≡ row_count x.metadata type_defs
  unfolding types_in
  counted = ap (λ (o : Option FilePart). option_map_or (λ (x : FilePart). row_count x.metadata type_defs) o 0) at

  kept_here : ((n : ℕ) → n < types_in files file → row_told files file n ≡ None) → file_told files file ≡ None
  unfolding of_row_at
  kept_here h =
      table_is
      ∙ each_none of_row_at 0 (rows_of x.metadata type_defs)
      (λ k row here. row_is k row here ∙ h k (subst (λ m. k < m) (sym counted) (get_within (rows_of x.metadata type_defs) k row here)))

  broken_here : (n : ℕ) (fault : Fault) → n < types_in files file → row_told files file n ≡ Some fault → ((j : ℕ) → j < n → row_told files file j ≡ None) → file_told files file ≡ Some fault
  unfolding of_row_at
  broken_here n fault within found before =
      let row = get_there (rows_of x.metadata type_defs) n (subst (λ m. n < m) counted within) in
      table_is
      ∙ each_some of_row_at 0 (rows_of x.metadata type_defs) n row.0 fault row.1 (row_is n row.0 row.1 ∙ found)
      (λ j other under here. row_is j other here ∙ before j under)

pub file_kept : (files : List FilePart) (file : ℕ) → file < length files → ((n : ℕ) → n < types_in files file → row_told files file n ≡ None) → file_told files file ≡ None
file_kept files file below h = let x = file_there files file below in kept_here files file x.0 x.1 h

pub file_broken : (files : List FilePart) (file n : ℕ) (fault : Fault) → file < length files → n < types_in files file → row_told files file n ≡ Some fault → ((j : ℕ) → j < n → row_told files file j ≡ None) → file_told files file ≡ Some fault
file_broken files file n fault below within found before = let x = file_there files file below in broken_here files file x.0 x.1 n fault within found before

pub count_is : (files : List FilePart) (file : ℕ) (m : MetadataPart) → option_map (λ (p : FilePart). p.metadata) (slice_get files file) ≡ Some m → row_count m type_defs ≡ types_in files file
unfolding types_in
count_is files file m e = go (slice_get files file) e
  where
    go : (o : Option FilePart) → option_map (λ (p : FilePart). p.metadata) o ≡ Some m → row_count m type_defs ≡ option_map_or (λ (x : FilePart). row_count x.metadata type_defs) o 0
    go None e = absurd (cc e)
    go (Some x) e = let same : x.metadata ≡ m = cc e in ap (λ z. row_count z type_defs) (sym same)

-- ---- the phase

module _ (files : List FilePart) where
  told_at : (k : ℕ) (x : FilePart) → slice_get files k ≡ Some x → file_fault (0 + k) x (slot_rules (world_of files) (0 + k) x) ≡ file_told files k
  unfolding file_told
  told_at k x at =
      ap (λ m. file_fault m x (slot_rules (world_of files) m x)) (from_none k)
      ∙ sym (ap (λ o. on_some o (λ x. file_fault k x (slot_rules (world_of files) k x))) at)

  pub phase_kept : (count : ℕ) → count ≡ length files → ((n : ℕ) → n < count → file_told files n ≡ None) → phase_fault (slot_rules (world_of files)) files ≡ None
  phase_kept count e h =
      each_none (λ file x. file_fault file x (slot_rules (world_of files) file x)) 0 files
      (λ k x at. told_at k x at ∙ h k (subst (λ m. k < m) (sym e) (get_within files k x at)))

  pub phase_broken : (n : ℕ) (fault : Fault) → n < length files → file_told files n ≡ Some fault → ((j : ℕ) → j < n → file_told files j ≡ None) → phase_fault (slot_rules (world_of files)) files ≡ Some fault
  phase_broken n fault below found before =
      let at = file_there files n below in
      each_some (λ file x. file_fault file x (slot_rules (world_of files) file x)) 0 files n at.0 fault at.1 (told_at n at.0 at.1 ∙ found)
      (λ j y under here. told_at j y here ∙ before j under)
