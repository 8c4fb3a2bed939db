-- Where each class of a world has bodies for the slots that it adds, rule 31 is kept.
use Rattle.std.proofs.Common.{◌≡◌, ◌<◌, true, List, Option, Some, None, refl, sym, ap, ◌∙◌, subst}
use Rattle.std.specs.Prelude.{length}
use Rattle.std.specs.Option.{option_map_or}
use Rattle.file_tables.specs.Metadata.{rows_of, row_count}
use Rattle.file_tables.specs.File.{FilePart}
use Rattle.machine.specs.Data.{Id}
use Rattle.classes.specs.Classes.{Class, Classes}
use Rattle.assemblies.specs.Binding.{id_at}
use Rattle.assemblies.proofs.Back.{get_within}
use Rattle.world_rows.specs.Tokens.{type_defs}
use Rattle.world_rows.proofs.Read.{class_row}
use Rattle.class_rules.specs.Rules.{slots_filled}
use Rattle.class_table.specs.declared.rows.ClassTable.{ClassTable}
use Rattle.class_table.specs.Seen.{classes_seen}
use Rattle.class_table.specs.Whole.{IsTable}
use Rattle.class_table.proofs.TableLaws.{table_law}
use Rattle.class_slots.specs.Added.{added_filled, GoUp}
use Rattle.class_slots.specs.Slots.{MethodsStand}
use Rattle.class_slots.proofs.AddedLaws.{all_filled}
use Rattle.verdict_rules.specs.Order.{phase_fault}
use Rattle.verdict_rules.specs.World.{world_of}
use Rattle.verdict_rules.specs.Code.{slot_rules}
use Rattle.slot_tests.specs.Told.{types_in, WorldAdds}
use Rattle.slot_tests.proofs.PhaseLaws.{filled_row, file_kept, phase_kept}

module _ (files : List FilePart) (t : ClassTable) (table : IsTable files t) (stand : MethodsStand (classes_seen t)) (up : GoUp (classes_seen t)) (adds : WorldAdds files (classes_seen t)) where
  abbrev cs : Classes
  cs = classes_seen t

  -- a class of the table is a row of its file
  inside : (c : Id) (k : Class) → cs.class c ≡ Some k → (c.file < length files) × (c.row < types_in files c.file)
  unfolding types_in
  inside c k there =
      let r = class_row files c k (sym (ap (λ (x : Classes). x.class c) (table_law files t table)) ∙ there) in
      let within : c.row < row_count r.file.metadata type_defs = get_within (rows_of r.file.metadata type_defs) c.row r.row r.is_row in
      (get_within files c.file r.file r.is_file, subst (λ (o : Option FilePart). c.row < option_map_or (λ (x : FilePart). row_count x.metadata type_defs) o 0) (sym r.is_file) within)

  each_adds : (c : Id) (k : Class) → cs.class c ≡ Some k → added_filled cs c k ≡ true
  each_adds c k there = let i = inside c k there in sym (ap (λ o. option_map_or (added_filled cs c) o true) there) ∙ adds c.file i.0 c.row i.1

  each_filled : (c : Id) (k : Class) → cs.class c ≡ Some k → slots_filled cs c k ≡ true
  each_filled = all_filled cs stand.owned up each_adds

  pub none_told : phase_fault (slot_rules (world_of files)) files ≡ None
  none_told = phase_kept files (length files) refl (λ f below. file_kept files f below (λ n within. filled_row files t table f n below within (each_filled (id_at f n))))
