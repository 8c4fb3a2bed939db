-- The types of one file by their names.
use Rattle.std.specs.Prelude.{◌≡◌, ℕ, ◌<◌, List, length, slice_get, Some}
use Rattle.file_tables.specs.File.{FilePart}
use Rattle.type_names.specs.Names.{FindsTypes}
use Rattle.library_tests.specs.declared.index.TypeIndex.{TypeIndex}

pub record IsIndex (i : TypeIndex) : Type 0 where
  pub there : i.file < length i.names.now
  pub places : (f : FilePart) → slice_get i.names.now i.file ≡ Some f → FindsTypes f.metadata i.places

-- of a file of these
pub record IsIndexOf (files : List FilePart) (file : ℕ) (i : TypeIndex) : Type 0 where
  pub same_files : i.names.now ≡ files
  pub same_file : i.file ≡ file
  pub is_index : IsIndex i
