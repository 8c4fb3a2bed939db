-- A type that is judged, and the world in which it is.
use Rattle.std.specs.Prelude.{◌≡◌, ℕ, suc, ◌<◌, Bool, ◌&&◌, not, List, Some, slice_get, slice_index}
use Rattle.std.specs.Option.{option_map}
use Rattle.file_tables.specs.Metadata.{row_count, row_of}
use Rattle.file_tables.specs.File.{FilePart}
use Rattle.classes.specs.Classes.{Class}
use Rattle.classes.specs.Queries.{own_instance_fields}
use Rattle.world_rows.specs.Tokens.{type_defs}
use Rattle.world_rows.specs.World.{type_count, size_of, rows_alone, assemblies_of, ecma_sources}
use Rattle.class_table.specs.declared.rows.FileRows.{FileRows}
use Rattle.class_table.specs.declared.rows.ClassTable.{ClassTable}
use Rattle.class_table.specs.Seen.{classes_seen, kind_seen, row_seen}
use Rattle.member_keys.specs.Seen.{class_seen}
use Rattle.class_queries.specs.Found.{found_row}
use Rattle.class_rules.specs.Rules.{only_if, is_none_there, is_enclosed_well}
use Rattle.verdict_rules.specs.World.{World}
use Rattle.verdict_rules.specs.Types.{data_type_well, is_explicit, is_type_before}
use Rattle.profile_subject.specs.Subject.{IsSubject}
use Rattle.type_tests.specs.Columns.{IsColumns}
use Rattle.type_tests.specs.declared.types.Judged.{Judged}

-- a world of which a table tells the classes
abbrev pub world_seen : List FilePart → ClassTable → World
world_seen files t =
    record {
      files = files;
      types = type_count (rows_alone files);
      size = size_of (rows_alone files);
      alone = rows_alone files;
      rows = assemblies_of files;
      sources = record { classes = classes_seen t; code = (ecma_sources files).code; entry = (ecma_sources files).entry };
    }

abbrev pub world_at : Judged → World
world_at j = world_seen j.subject.now.world.now j.subject.now.setting.table.now

-- the columns of its row
abbrev pub columns_at : Judged → List ℕ
columns_at j = row_of j.tables.now type_defs (suc j.class.row)

-- the class, among the rows of its file
abbrev pub class_at : FileRows → Judged → Class
class_at f j = row_seen j.class.file f j.row.now

pub record IsJudged (j : Judged) : Type 0 where
  pub subject : IsSubject j.subject.now
  pub tables : option_map (λ p. p.metadata) (slice_get j.subject.now.world.now j.class.file) ≡ Some j.tables.now
  pub columns : IsColumns j.tables.now j.columns.now
  pub within : j.class.row < row_count j.tables.now type_defs
  pub row : found_row j.subject.now.setting.table.now (class_seen j.class) ≡ Some j.row.now
  pub flags : slice_index (columns_at j) 0 ≡ j.def.flags
  pub extends : slice_index (columns_at j) 3 ≡ j.def.extends

-- what rule 26 asks of it, part by part from the last one
abbrev pub placed_well : Judged → Bool
placed_well j =
    is_enclosed_well (type_count (rows_alone j.subject.now.world.now)) (classes_seen j.subject.now.setting.table.now) (class_seen j.class)
    && not (is_type_before (assemblies_of j.subject.now.world.now) (class_seen j.class))

abbrev pub laid_well : Judged → Bool
laid_well j = only_if (is_explicit (columns_at j)) (is_none_there (own_instance_fields (classes_seen j.subject.now.setting.table.now) (class_seen j.class))) && placed_well j

abbrev pub data_laid_well : FileRows → Judged → Bool
data_laid_well f j = data_type_well j.tables.now (class_seen j.class) (class_at f j) (kind_seen j.row.now.kind) && laid_well j
