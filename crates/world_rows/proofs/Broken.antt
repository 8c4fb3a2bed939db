-- Rows that no accepted file has, and what they name: nothing.
use Rattle.std.proofs.Common.{◌≡◌, ℕ, List, [], ◌∷◌, map, Some, None, refl}
use Rattle.std.specs.Prelude.{◌==◌, if◌then◌else◌}
use Rattle.std.specs.List.{range_with_len}
use Rattle.std.specs.Str.{is_utf8, chars}
use Rattle.file_tables.specs.Metadata.{MetadataPart}
use Rattle.file_tables.specs.File.{FilePart}
use Rattle.file_tables.specs.Schema.{tag_bits_of, tables_of}
use Rattle.file_tables.specs.Compressed.{compressed_at}
use Rattle.file_tables.specs.Heaps.{string_at, before_zero, blob_at, counted}
use Rattle.cil_sig.specs.Elements.{element_of}
use Rattle.cil_sig.specs.Reading.{number_at, count_at, token_at, name_at, element_at, bracketed_at, type_at, pointer_at, parameter_at, result_at, slots_at, whole_type, whole_field, whole_spec, whole_locals, whole_method}
use Rattle.assemblies.specs.Rows.{TypeRef, Assembly}
use Rattle.assemblies.specs.Binding.{id_at, resolve, resolve_method, resolve_field, operand_type}
use Rattle.world_rows.specs.Tokens.{type_token, scope_of, method_token, field_token, type_named, method_named, field_named}
use Rattle.world_rows.specs.Signatures.{field_signature, method_signature, spec_signature}
use Rattle.world_rows.specs.Lines.{body_part}
use Rattle.world_rows.specs.Kinds.{kind_of, data_of}
use Rattle.world_rows.specs.Natives.{body_of_native}
use Rattle.world_rows.specs.World.{assemblies_of}

-- References 1 and 2 lie in one another, 3 and 4 in a module, 5 in this assembly. Field 1 and method 1 belong to no type, and the
-- field's class is row 0. Member reference 1 has a method as its parent, 2 is a field, 3 a method, 4 a member of a specification, 5 of reference 5.
-- The specification is cut.
table : ℕ → List (List ℕ)
table n =
    if n == 0x01 then (11 ∷ 1 ∷ 0 ∷ []) ∷ (7 ∷ 1 ∷ 0 ∷ []) ∷ (4 ∷ 3 ∷ 0 ∷ []) ∷ (5 ∷ 3 ∷ 0 ∷ []) ∷ (6 ∷ 3 ∷ 0 ∷ []) ∷ []
    else if n == 0x02 then (0 ∷ 3 ∷ 0 ∷ 0 ∷ 2 ∷ 2 ∷ []) ∷ []
    else if n == 0x04 then (0 ∷ 1 ∷ 14 ∷ []) ∷ (0 ∷ 1 ∷ 1 ∷ []) ∷ []
    else if n == 0x06 then (0 ∷ 0 ∷ 0x10 ∷ 1 ∷ 8 ∷ 1 ∷ []) ∷ (0 ∷ 0 ∷ 0x10 ∷ 1 ∷ 8 ∷ 1 ∷ []) ∷ []
    else if n == 0x0A then (11 ∷ 1 ∷ 4 ∷ []) ∷ (8 ∷ 1 ∷ 1 ∷ []) ∷ (8 ∷ 1 ∷ 8 ∷ []) ∷ (12 ∷ 1 ∷ 8 ∷ []) ∷ (41 ∷ 1 ∷ 8 ∷ []) ∷ []
    else if n == 0x1B then (12 ∷ []) ∷ []
    else if n == 0x20 then (0 ∷ 1 ∷ 2 ∷ 3 ∷ 4 ∷ 0 ∷ 0 ∷ 1 ∷ 0 ∷ []) ∷ []
    else if n == 0x23 then (1 ∷ 2 ∷ 3 ∷ 4 ∷ 0 ∷ 0 ∷ 1 ∷ 0 ∷ 0 ∷ []) ∷ []
    else []

metadata : MetadataPart
metadata =
    record {
      tables = map table (range_with_len 0 64);
      strings = 0 ∷ 0x41 ∷ 0 ∷ 0x42 ∷ 0 ∷ [];
      guids = [];
      blobs = 0 ∷ 2 ∷ 0x06 ∷ 0x08 ∷ 3 ∷ 0x05 ∷ 0x00 ∷ 0x01 ∷ 3 ∷ 0x00 ∷ 0x00 ∷ 0x01 ∷ 1 ∷ 0x1D ∷ 3 ∷ 0x06 ∷ 0x12 ∷ 0x00 ∷ [];
      user_strings = [];
    }

file : FilePart
file = record { pe = record { bytes = []; sections = []; entry = 0; region = [] }; metadata = metadata }

world : List Assembly
world = assemblies_of (file ∷ [])

circle : resolve 9 world 0 (TypeRef 0) ≡ None
unfolding string_at before_zero is_utf8 chars lib.Utf8.encode tag_bits_of tables_of compressed_at blob_at counted element_of number_at count_at token_at name_at element_at bracketed_at type_at pointer_at parameter_at result_at slots_at whole_type whole_field whole_spec whole_locals whole_method type_token scope_of method_token field_token field_signature method_signature spec_signature kind_of data_of body_of_native body_part assemblies_of world file metadata table
circle = refl

module_scope : resolve 9 world 0 (TypeRef 2) ≡ None
unfolding string_at before_zero is_utf8 chars lib.Utf8.encode tag_bits_of tables_of compressed_at blob_at counted element_of number_at count_at token_at name_at element_at bracketed_at type_at pointer_at parameter_at result_at slots_at whole_type whole_field whole_spec whole_locals whole_method type_token scope_of method_token field_token field_signature method_signature spec_signature kind_of data_of body_of_native body_part assemblies_of world file metadata table
module_scope = refl

module_ref_scope : resolve 9 world 0 (TypeRef 3) ≡ None
unfolding string_at before_zero is_utf8 chars lib.Utf8.encode tag_bits_of tables_of compressed_at blob_at counted element_of number_at count_at token_at name_at element_at bracketed_at type_at pointer_at parameter_at result_at slots_at whole_type whole_field whole_spec whole_locals whole_method type_token scope_of method_token field_token field_signature method_signature spec_signature kind_of data_of body_of_native body_part assemblies_of world file metadata table
module_ref_scope = refl

own_assembly : resolve 9 world 0 (TypeRef 4) ≡ Some (id_at 0 0)
unfolding string_at before_zero is_utf8 chars lib.Utf8.encode tag_bits_of tables_of compressed_at blob_at counted element_of number_at count_at token_at name_at element_at bracketed_at type_at pointer_at parameter_at result_at slots_at whole_type whole_field whole_spec whole_locals whole_method type_token scope_of method_token field_token field_signature method_signature spec_signature kind_of data_of body_of_native body_part assemblies_of world file metadata table
own_assembly = refl

row_zero : resolve 9 world 0 (type_named metadata 0x02000000) ≡ None
unfolding string_at before_zero is_utf8 chars lib.Utf8.encode tag_bits_of tables_of compressed_at blob_at counted element_of number_at count_at token_at name_at element_at bracketed_at type_at pointer_at parameter_at result_at slots_at whole_type whole_field whole_spec whole_locals whole_method type_token scope_of method_token field_token field_signature method_signature spec_signature kind_of data_of body_of_native body_part assemblies_of world file metadata table
row_zero = refl

no_table : resolve 9 world 0 (type_named metadata 0x06000001) ≡ None
unfolding string_at before_zero is_utf8 chars lib.Utf8.encode tag_bits_of tables_of compressed_at blob_at counted element_of number_at count_at token_at name_at element_at bracketed_at type_at pointer_at parameter_at result_at slots_at whole_type whole_field whole_spec whole_locals whole_method type_token scope_of method_token field_token field_signature method_signature spec_signature kind_of data_of body_of_native body_part assemblies_of world file metadata table
no_table = refl

no_owner : resolve_method 9 world 0 (method_named metadata 0x06000001) ≡ None
unfolding string_at before_zero is_utf8 chars lib.Utf8.encode tag_bits_of tables_of compressed_at blob_at counted element_of number_at count_at token_at name_at element_at bracketed_at type_at pointer_at parameter_at result_at slots_at whole_type whole_field whole_spec whole_locals whole_method type_token scope_of method_token field_token field_signature method_signature spec_signature kind_of data_of body_of_native body_part assemblies_of world file metadata table
no_owner = refl

owner : resolve_method 9 world 0 (method_named metadata 0x06000002) ≡ Some (id_at 0 1)
unfolding string_at before_zero is_utf8 chars lib.Utf8.encode tag_bits_of tables_of compressed_at blob_at counted element_of number_at count_at token_at name_at element_at bracketed_at type_at pointer_at parameter_at result_at slots_at whole_type whole_field whole_spec whole_locals whole_method type_token scope_of method_token field_token field_signature method_signature spec_signature kind_of data_of body_of_native body_part assemblies_of world file metadata table
owner = refl

vararg : resolve_method 9 world 0 (method_named metadata 0x0A000001) ≡ None
unfolding string_at before_zero is_utf8 chars lib.Utf8.encode tag_bits_of tables_of compressed_at blob_at counted element_of number_at count_at token_at name_at element_at bracketed_at type_at pointer_at parameter_at result_at slots_at whole_type whole_field whole_spec whole_locals whole_method type_token scope_of method_token field_token field_signature method_signature spec_signature kind_of data_of body_of_native body_part assemblies_of world file metadata table
vararg = refl

-- behind a reference of a field
reference : resolve_method 9 world 0 (method_named metadata 0x0A000003) ≡ Some (id_at 0 1)
unfolding string_at before_zero is_utf8 chars lib.Utf8.encode tag_bits_of tables_of compressed_at blob_at counted element_of number_at count_at token_at name_at element_at bracketed_at type_at pointer_at parameter_at result_at slots_at whole_type whole_field whole_spec whole_locals whole_method type_token scope_of method_token field_token field_signature method_signature spec_signature kind_of data_of body_of_native body_part assemblies_of world file metadata table
reference = refl

of_spec : resolve_method 9 world 0 (method_named metadata 0x0A000004) ≡ None
unfolding string_at before_zero is_utf8 chars lib.Utf8.encode tag_bits_of tables_of compressed_at blob_at counted element_of number_at count_at token_at name_at element_at bracketed_at type_at pointer_at parameter_at result_at slots_at whole_type whole_field whole_spec whole_locals whole_method type_token scope_of method_token field_token field_signature method_signature spec_signature kind_of data_of body_of_native body_part assemblies_of world file metadata table
of_spec = refl

of_ref : resolve_method 9 world 0 (method_named metadata 0x0A000005) ≡ Some (id_at 0 1)
unfolding string_at before_zero is_utf8 chars lib.Utf8.encode tag_bits_of tables_of compressed_at blob_at counted element_of number_at count_at token_at name_at element_at bracketed_at type_at pointer_at parameter_at result_at slots_at whole_type whole_field whole_spec whole_locals whole_method type_token scope_of method_token field_token field_signature method_signature spec_signature kind_of data_of body_of_native body_part assemblies_of world file metadata table
of_ref = refl

field_reference : resolve_field 9 world 0 (field_named metadata 0x0A000002) ≡ Some (id_at 0 1)
unfolding string_at before_zero is_utf8 chars lib.Utf8.encode tag_bits_of tables_of compressed_at blob_at counted element_of number_at count_at token_at name_at element_at bracketed_at type_at pointer_at parameter_at result_at slots_at whole_type whole_field whole_spec whole_locals whole_method type_token scope_of method_token field_token field_signature method_signature spec_signature kind_of data_of body_of_native body_part assemblies_of world file metadata table
field_reference = refl

other_kind : resolve_method 9 world 0 (method_named metadata 0x0A000002) ≡ None
unfolding string_at before_zero is_utf8 chars lib.Utf8.encode tag_bits_of tables_of compressed_at blob_at counted element_of number_at count_at token_at name_at element_at bracketed_at type_at pointer_at parameter_at result_at slots_at whole_type whole_field whole_spec whole_locals whole_method type_token scope_of method_token field_token field_signature method_signature spec_signature kind_of data_of body_of_native body_part assemblies_of world file metadata table
other_kind = refl

no_field_owner : resolve_field 9 world 0 (field_named metadata 0x04000001) ≡ None
unfolding string_at before_zero is_utf8 chars lib.Utf8.encode tag_bits_of tables_of compressed_at blob_at counted element_of number_at count_at token_at name_at element_at bracketed_at type_at pointer_at parameter_at result_at slots_at whole_type whole_field whole_spec whole_locals whole_method type_token scope_of method_token field_token field_signature method_signature spec_signature kind_of data_of body_of_native body_part assemblies_of world file metadata table
no_field_owner = refl

cut_spec : operand_type 9 world 0 (type_named metadata 0x1B000001) ≡ None
unfolding string_at before_zero is_utf8 chars lib.Utf8.encode tag_bits_of tables_of compressed_at blob_at counted element_of number_at count_at token_at name_at element_at bracketed_at type_at pointer_at parameter_at result_at slots_at whole_type whole_field whole_spec whole_locals whole_method type_token scope_of method_token field_token field_signature method_signature spec_signature kind_of data_of body_of_native body_part assemblies_of world file metadata table
cut_spec = refl
