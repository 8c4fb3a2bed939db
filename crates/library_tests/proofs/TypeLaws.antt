-- A type of a world that has the name of one of the base library's, and its row in the table.
use Rattle.std.proofs.Common.{◌≡◌, List, Option, Some, None, refl, sym, ap, ◌∙◌}
use Rattle.std.specs.Prelude.{slice_get}
use Rattle.std.specs.Option.{option_map}
use Rattle.std.specs.List.{position}
use Rattle.file_tables.specs.Metadata.{rows_of}
use Rattle.file_tables.specs.File.{FilePart}
use Rattle.machine.specs.Data.{Id}
use Rattle.machine.specs.Throw.{on_some}
use Rattle.class_rules.specs.Rules.{holds_some}
use Rattle.classes.specs.Classes.{Reference}
use Rattle.assemblies.specs.Rows.{TypeRefRow, Nowhere, Assembly}
use Rattle.assemblies.specs.Binding.{id_at, is_type, type_in}
use Rattle.world_rows.specs.World.{rows_alone, assemblies_of, assembly_with, size_of}
use Rattle.world_rows.specs.Tokens.{type_defs}
use Rattle.world_rows.specs.Rows.{type_row, alone}
use Rattle.world_rows.specs.Kinds.{kind_of}
use Rattle.member_reading.proofs.TypeLaws.{whole_at, alone_at, same_position}
use Rattle.verdict_rules.specs.World.{World, world_of, classes_of}
use Rattle.verdict_rules.specs.Library.{BaseType, is_such, has_type}
use Rattle.class_table.specs.declared.rows.ClassRow.{ClassRow}
use Rattle.class_table.specs.declared.rows.FileRows.{FileRows}
use Rattle.class_table.specs.declared.rows.ClassTable.{ClassTable}
use Rattle.class_table.specs.Seen.{row_seen}
use Rattle.class_table.specs.Whole.{IsTable}
use Rattle.class_table.proofs.TableLaws.{table_law}
use Rattle.class_queries.specs.Found.{found_row}
use Rattle.library_tests.specs.Types.{such_row}

module _ (files : List FilePart) (t : ClassTable) (table : IsTable files t) (b : BaseType) where
  abbrev w : World
  w = world_of files

  abbrev ref : TypeRefRow
  ref = record { scope = Nowhere; namespace = b.namespace; name = b.name }

  in_table : (c : Id) → holds_some ((classes_of w).class c) (is_such w b) ≡ holds_some (found_row t c) (such_row w b)
  in_table c = ap (λ cs. holds_some (cs.class c) (is_such w b)) (sym (table_law files t table)) ∙ go (slice_get t.files.items c.file)
    where
      row : (f : FileRows) (o : Option ClassRow) → holds_some (option_map (row_seen c.file f) o) (is_such w b) ≡ holds_some o (such_row w b)
      row f None = refl
      row f (Some r) = refl

      go : (o : Option FileRows) → holds_some (on_some o (λ f. option_map (row_seen c.file f) (slice_get f.classes.items c.row))) (is_such w b) ≡ holds_some (on_some o (λ (f : FileRows). slice_get f.classes.items c.row)) (such_row w b)
      go None = refl
      go (Some f) = row f (slice_get f.classes.items c.row)

  same_type : type_in (assemblies_of files) b.file None ref ≡ type_in (rows_alone files) b.file None ref
  same_type =
      ap (λ o. on_some o found) (whole_at files b.file)
      ∙ go (slice_get files b.file)
      ∙ sym (ap (λ o. on_some o found) (alone_at files b.file))
    where
      found : Assembly → Option Id
      found p = option_map (id_at b.file) (position (is_type None ref) p.types)

      go : (o : Option FilePart) → on_some (option_map (assembly_with (size_of (rows_alone files)) files (rows_alone files) b.file) o) found ≡ on_some (option_map alone o) found
      go None = refl
      go (Some x) = ap (option_map (id_at b.file)) (same_position (is_type None ref) (type_row x.metadata (λ row. kind_of (size_of (rows_alone files)) (rows_alone files) (id_at b.file row))) (type_row x.metadata (λ n. Reference)) (λ n row. refl) 0 (rows_of x.metadata type_defs))

  pub by_row : (found : Option Id) → found ≡ type_in (rows_alone files) b.file None ref → has_type w b ≡ holds_some found (λ c. holds_some (found_row t c) (such_row w b))
  by_row found e = ap (λ o. holds_some o (λ c. holds_some ((classes_of w).class c) (is_such w b))) (same_type ∙ sym e) ∙ go found
    where
      go : (o : Option Id) → holds_some o (λ c. holds_some ((classes_of w).class c) (is_such w b)) ≡ holds_some o (λ c. holds_some (found_row t c) (such_row w b))
      go None = refl
      go (Some c) = in_table c
