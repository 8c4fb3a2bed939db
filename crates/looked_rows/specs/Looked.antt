-- Which rows of a file's references are looked at.
use Rattle.std.specs.Prelude.{◌≡◌, ℕ, suc, ◌<◌, Bool, List, length, slice_get, Some}
use Rattle.file_tables.specs.Metadata.{MetadataPart, row_count}
use Rattle.file_tables.specs.Pe.{PePart}
use Rattle.file_tables.specs.File.{FilePart}
use Rattle.world_rows.specs.Tokens.{member_refs, type_specs}
use Rattle.world_rows.specs.Looked.{is_looked_at}
use Rattle.looked_rows.specs.declared.looked.Looked.{Looked}
use Rattle.looked_rows.specs.Marks.{Marks}

-- the file of two parts
abbrev pub file_with : PePart → MetadataPart → FilePart
file_with pe metadata = record { pe = pe; metadata = metadata }

-- the bits before and after these tokens
pub record Looks (tokens : List ℕ) (before after : Looked) : Type 0 where
  pub members : Marks member_refs tokens before.members.items after.members.items
  pub specs : Marks type_specs tokens before.specs.items after.specs.items

-- for each row of a table, from 0, whether the file looks at it
pub record AreLookedAt (x : FilePart) (table : ℕ) (bits : List Bool) : Type 0 where
  pub count : length bits ≡ row_count x.metadata table
  pub each : (n : ℕ) → n < row_count x.metadata table → slice_get bits n ≡ Some (is_looked_at x table (suc n))
