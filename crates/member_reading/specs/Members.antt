-- The fields and methods of a world's files, as its assemblies have them.
use Rattle.std.specs.Prelude.{ℕ, ◌+◌, ◌==◌, if◌then◌else◌, List, [], map, slice_get, unwrap_or, Option}
use Rattle.std.specs.List.{find}
use Rattle.std.specs.Option.{option_map}
use Rattle.file_tables.specs.Bytes.{has_bit}
use Rattle.file_tables.specs.Metadata.{MetadataPart, row_of}
use Rattle.file_tables.specs.File.{FilePart}
use Rattle.machine.specs.Program.{Body, Code, Missing}
use Rattle.classes.specs.Classes.{OwnField, OwnMethod}
use Rattle.assemblies.specs.Rows.{FieldRow, MethodRow, Assembly}
use Rattle.assemblies.specs.Binding.{id_at, own_field, own_method}
use Rattle.cil_rows.specs.declared.rows.MethodDefRow.{MethodDefRow}
use Rattle.member_keys.specs.declared.keys.ClassId.{ClassId}
use Rattle.member_keys.specs.declared.keys.SignatureKey.{SignatureKey}
use Rattle.member_keys.specs.Seen.{class_seen, signature_seen}
use Rattle.world_rows.specs.Tokens.{fields, methods}
use Rattle.world_rows.specs.Rows.{field_row, method_row}
use Rattle.world_rows.specs.Kinds.{data_of}
use Rattle.world_rows.specs.Natives.{body_of_native}
use Rattle.world_rows.specs.World.{rows_alone, assemblies_of}
use Rattle.class_table.specs.declared.rows.ClassRow.{ClassRow}
use Rattle.member_reading.specs.declared.native.NativeMember.{NativeMember}
use Rattle.member_reading.specs.declared.owner.Span.{Span}
use Rattle.member_reading.specs.Meant.{scopes}
use Rattle.member_reading.specs.Natives.{native_shown, is_native, body_of}

-- the fields and methods of a file
abbrev pub fields_in : List FilePart → ℕ → List FieldRow
fields_in files file = unwrap_or (option_map (λ (p : Assembly). p.fields) (slice_get (assemblies_of files) file)) []

abbrev pub methods_in : List FilePart → ℕ → List MethodRow
methods_in files file = unwrap_or (option_map (λ (p : Assembly). p.methods) (slice_get (assemblies_of files) file)) []

-- the field of a row of a file with these tables, from 0
abbrev pub field_meant : List FilePart → ℕ → MetadataPart → ℕ → OwnField
field_meant files file m n =
    own_field (scopes files) (assemblies_of files) file n
    (field_row m (λ k. unwrap_or (data_of (scopes files) files (rows_alone files) (id_at file k)) []) n (row_of m fields (n + 1)))

-- the method of a row of a file, from 0
abbrev pub method_meant : List FilePart → ℕ → FilePart → ℕ → OwnMethod
method_meant files file f n =
    own_method (scopes files) (assemblies_of files) file n
    (method_row f (λ k. body_of_native (scopes files) (rows_alone files) (id_at file k)) n (row_of f.metadata methods (n + 1)))

-- what runs where a method of a row is called
abbrev pub body_meant : List NativeMember → MethodDefRow → List ℕ → Option ClassId → Option SignatureKey → Body
body_meant natives row name owner signature =
    if has_bit row.impl_flags 12 then body_of (find (is_native name (option_map class_seen owner) (option_map signature_seen signature)) (map native_shown natives))
    else if row.rva == 0 then Missing
    else Code

-- the rows of a type
abbrev pub field_span : ClassRow → Span
field_span c = record { first = c.first_field; count = c.field_count }

abbrev pub method_span : ClassRow → Span
method_span c = record { first = c.first_method; count = c.method_count }
