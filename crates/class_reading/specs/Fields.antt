-- The fields of one type, by the rows of its file alone.
use Rattle.std.specs.Prelude.{ℕ, List, [], Option}
use Rattle.std.specs.List.{filter}
use Rattle.plain_types.specs.declared.elem.Elem.{Elem}
use Rattle.file_tables.specs.Metadata.{MetadataPart, rows_of}
use Rattle.classes.specs.Queries.{is_instance_kind}
use Rattle.assemblies.specs.Rows.{FieldRow}
use Rattle.assemblies.specs.Binding.{numbered, range}
use Rattle.world_rows.specs.Tokens.{fields}
use Rattle.world_rows.specs.Rows.{field_row}
use Rattle.world_rows.specs.Kinds.{number_in}

abbrev pub fields_alone : MetadataPart → List FieldRow
fields_alone m = numbered (field_row m (λ n. [])) 0 (rows_of m fields)

abbrev pub number_at : MetadataPart → ℕ → ℕ → Option Elem
number_at m first count = number_in (filter (λ f. is_instance_kind f.kind) (range first count (fields_alone m)))
