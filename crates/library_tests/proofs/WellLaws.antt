-- What makes a file of the base library well.
use Rattle.std.proofs.Common.{◌≡◌, ℕ, Bool, true, false, List, length, Some, sym, ap, ◌∙◌}
use Rattle.std.specs.Prelude.{slice_get, ◌==◌, ◌&&◌}
use Rattle.std.specs.List.{list_all}
use Rattle.std.specs.Option.{option_map}
use Rattle.file_tables.specs.Metadata.{MetadataPart, rows_of, row_count}
use Rattle.file_tables.specs.File.{FilePart}
use Rattle.class_rules.specs.Rules.{only_if}
use Rattle.assemblies.specs.Binding.{numbered}
use Rattle.world_rows.specs.Tokens.{methods}
use Rattle.world_rows.specs.Natives.{NativeRow, natives}
use Rattle.verdict_rules.specs.World.{world_of}
use Rattle.verdict_rules.specs.Library.{has_native, calls_native, library_well}
use Rattle.class_table.specs.declared.rows.MethodRow.{MethodRow}
use Rattle.class_table.specs.Whole.{AreMethods}
use Rattle.member_reading.proofs.FieldLaws.{with_tables}
use Rattle.member_reading.proofs.MethodLaws.{same_tables}
use Rattle.library_tests.specs.Types.{types_there}
use Rattle.library_tests.specs.Members.{calls_there, members_well}
use Rattle.library_tests.proofs.MethodLaws.{natives_same, calls_same, as_many}

-- the same of the world's rows
abbrev natives_of : List FilePart → ℕ → Bool
natives_of files file = list_all (λ (r : NativeRow). only_if (r.file == file) (has_native (world_of files) file r)) natives

abbrev calls_of : List FilePart → ℕ → FilePart → Bool
calls_of files file x = list_all (λ b. b) (numbered (calls_native (world_of files) file) 0 (rows_of x.metadata methods))

module _ (files : List FilePart) (file : ℕ) (m : MetadataPart) (tables : option_map (λ (f : FilePart). f.metadata) (slice_get files file) ≡ Some m) (rows : List MethodRow) (are : AreMethods files file rows) where
  pub rows_long : length rows ≡ row_count m methods
  rows_long =
      let w = with_tables (slice_get files file) m tables in
      as_many files file w.0 w.1 rows are ∙ ap (λ t. row_count t methods) w.2

  pub well_is : (x : FilePart) → slice_get files file ≡ Some x → (types_there files file && members_well m rows file) ≡ library_well (world_of files) file x
  well_is x here =
      ap (λ b. types_there files file && (b && calls_there m rows)) (sym (natives_same files file x here rows are))
      ∙ ap (λ b. types_there files file && (natives_of files file && b)) (ap (λ t. calls_there t rows) (same_tables (slice_get files file) m x tables here) ∙ ap (list_all (λ b. b)) (sym (calls_same files file x here rows are)))

  pub all_well : (x : FilePart) → slice_get files file ≡ Some x → types_there files file ≡ true → members_well m rows file ≡ library_well (world_of files) file x
  all_well x here typed = ap (λ b. b && members_well m rows file) (sym typed) ∙ well_is x here

pub not_typed : (files : List FilePart) (file : ℕ) (x : FilePart) → types_there files file ≡ false → false ≡ library_well (world_of files) file x
not_typed files file x e = sym (ap (λ b. b && (natives_of files file && calls_of files file x)) e)
