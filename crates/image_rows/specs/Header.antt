-- What an image's header says of a file and of its rows that are kept: the assembly's version and name, and the method that a run begins
-- with (II.22.2, II.25.3.3).
use Rattle.std.specs.Prelude.{ℕ, nat_le, if◌then◌else◌, List, map, slice_index, Option, None}
use Rattle.std.specs.Option.{option_map}
use Rattle.file_tables.specs.Metadata.{MetadataPart, row_of}
use Rattle.file_tables.specs.File.{FilePart}
use Rattle.kept_rows.specs.Select.{below}
use Rattle.world_rows.specs.Tokens.{assemblies, text_at}
use Rattle.world_rows.specs.Rows.{version_at, entry_named}
use Rattle.image_form.specs.Form.{or_none}
use Rattle.row_numbers.specs.declared.table.Table.TheVariants as table
use Rattle.kept_marks.specs.Masks.{Masks}
use Rattle.converted.specs.Cut.{two_bytes}

abbrev pub version_read : MetadataPart → List ℕ
version_read m = map two_bytes (version_at 1 (row_of m assemblies 1))

abbrev pub name_read : MetadataPart → List ℕ
name_read m = text_at m (slice_index (row_of m assemblies 1) 7)

-- in a file of a world: none in the base library's
abbrev pub entry_read : ℕ → FilePart → Option ℕ
entry_read f x = if nat_le 2 f then entry_named x.pe.entry else None

-- its number among the kept ones
abbrev pub entry_kept : Masks → Option ℕ → ℕ
entry_kept kept entry = two_bytes (or_none (λ n. n) (option_map (below (kept table.MethodDef)) entry))
