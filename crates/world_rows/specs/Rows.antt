-- The rows of one file. What only the other files tell is given: the kind of each type, the bytes of each data field,
-- and what each internal call is.
use Rattle.std.specs.Prelude.{ℕ, zero, suc, ◌-◌, ◌==◌, Bool, false, not, if◌then◌else◌, List, [], ◌∷◌, map, slice_get, slice_index, Option, Some, None}
use Rattle.std.specs.List.{find, filter, range_with_len}
use Rattle.std.specs.Option.{option_map, option_map_or}
use Rattle.file_tables.specs.declared.schema.Coded.TheVariants.{TypeDefOrRef, MemberRefParent}
use Rattle.file_tables.specs.Bytes.{has_bit}
use Rattle.file_tables.specs.Metadata.{MetadataPart, rows_of, row_of, row_count}
use Rattle.file_tables.specs.File.{FilePart}
use Rattle.machine.specs.Program.{Body, Code, Missing}
use Rattle.classes.specs.Classes.{FieldKind, InstanceField, StaticField, LiteralField, DataField, TypeKind, Reference}
use Rattle.assemblies.specs.Rows.{AssemblyRow, TypeRefRow, FieldRefRow, MethodRefRow, TypeRow, FieldRow, MethodRow, Assembly, TypeToken, RawCode}
use Rattle.assemblies.specs.Binding.{numbered}
use Rattle.world_rows.specs.Tokens.{type_refs, type_defs, fields, methods, interface_impls, member_refs, nested_classes, type_specs, assemblies, assembly_refs, table_of, number_of, text_at, bytes_at, coded_type, superclass_token, scope_of, is_field_ref, is_method_ref}
use Rattle.world_rows.specs.Signatures.{field_signature, method_signature, spec_signature}
use Rattle.world_rows.specs.Lines.{code_at}

-- four numbers, from a column on
abbrev pub version_at : ℕ → List ℕ → List ℕ
version_at column row = map (slice_index row) (range_with_len column 4)

-- ---- references

abbrev pub assembly_ref : MetadataPart → List ℕ → AssemblyRow
assembly_ref m row = record { name = text_at m (slice_index row 6); version = version_at 0 row }

abbrev pub type_ref : MetadataPart → List ℕ → TypeRefRow
type_ref m row = record { scope = scope_of m (slice_index row 0); namespace = text_at m (slice_index row 2); name = text_at m (slice_index row 1) }

abbrev pub field_ref : MetadataPart → List ℕ → FieldRefRow
field_ref m row =
    record { parent = coded_type m MemberRefParent (slice_index row 0); name = text_at m (slice_index row 1); signature = field_signature m (bytes_at m (slice_index row 2)) }

abbrev pub method_ref : MetadataPart → List ℕ → MethodRefRow
method_ref m row =
    record { parent = coded_type m MemberRefParent (slice_index row 0); name = text_at m (slice_index row 1); signature = method_signature m (bytes_at m (slice_index row 2)) }

-- ---- types

-- the first row whose column is the number
abbrev pub row_with : ℕ → ℕ → List (List ℕ) → Option (List ℕ)
row_with column n rows = find (λ row. slice_index row column == n) rows

-- where the list of a type's fields or methods begins, and how many it has: up to the list of the next type, or to the table's end
abbrev pub list_first : ℕ → List ℕ → ℕ
list_first column row = slice_index row column - 1

abbrev pub list_end : MetadataPart → ℕ → ℕ → ℕ → ℕ
list_end m table column n = option_map_or (list_first column) (slice_get (rows_of m type_defs) (suc n)) (row_count m table)

abbrev pub list_count : MetadataPart → ℕ → ℕ → ℕ → List ℕ → ℕ
list_count m table column n row = list_end m table column n - list_first column row

abbrev pub enclosing_of : MetadataPart → ℕ → Option ℕ
enclosing_of m n = option_map (λ row. slice_index row 1 - 1) (row_with 0 (suc n) (rows_of m nested_classes))

abbrev pub first_of : {A : Type 0} → List A → Option A
first_of [] = None
first_of (x ∷ xs) = Some x

abbrev pub interfaces_of : MetadataPart → ℕ → List TypeToken
interfaces_of m n = map (λ row. coded_type m TypeDefOrRef (slice_index row 1)) (filter (λ row. slice_index row 0 == suc n) (rows_of m interface_impls))

abbrev pub type_row : MetadataPart → (ℕ → TypeKind) → ℕ → List ℕ → TypeRow
type_row m kind n row =
    record {
      namespace = text_at m (slice_index row 2);
      name = text_at m (slice_index row 1);
      enclosing = enclosing_of m n;
      extends = first_of (superclass_token m (slice_index row 3));
      interfaces = interfaces_of m n;
      kind = kind n;
      is_interface = has_bit (slice_index row 0) 5;
      is_abstract = has_bit (slice_index row 0) 7;
      is_lazy = has_bit (slice_index row 0) 20;
      first_field = list_first 4 row;
      field_count = list_count m fields 4 n row;
      first_method = list_first 5 row;
      method_count = list_count m methods 5 n row;
    }

-- ---- members

-- a literal is a static field that has no data
abbrev pub field_kind : ℕ → List ℕ → FieldKind
field_kind flags bytes =
    if not (has_bit flags 4) then InstanceField
    else if has_bit flags 8 then DataField bytes
    else if has_bit flags 6 then LiteralField
    else StaticField

abbrev pub field_row : MetadataPart → (ℕ → List ℕ) → ℕ → List ℕ → FieldRow
field_row m filled n row =
    record { name = text_at m (slice_index row 1); signature = field_signature m (bytes_at m (slice_index row 2)); kind = field_kind (slice_index row 0) (filled n) }

-- a method with an RVA has a body, be it faulty; an internal call is what the natives say
abbrev pub is_internal : List ℕ → Bool
is_internal row = has_bit (slice_index row 1) 12

abbrev pub body_of : (ℕ → Body) → ℕ → List ℕ → Body
body_of native n row = if is_internal row then native n else if slice_index row 0 == 0 then Missing else Code

abbrev pub code_of : FilePart → List ℕ → Option RawCode
code_of f row = if is_internal row then None else code_at f (slice_index row 0)

abbrev pub method_row : FilePart → (ℕ → Body) → ℕ → List ℕ → MethodRow
method_row f native n row =
    record {
      name = text_at f.metadata (slice_index row 3);
      signature = method_signature f.metadata (bytes_at f.metadata (slice_index row 4));
      is_static = has_bit (slice_index row 2) 4;
      is_virtual = has_bit (slice_index row 2) 6;
      is_newslot = has_bit (slice_index row 2) 8;
      is_abstract = has_bit (slice_index row 2) 10;
      body = body_of native n row;
      code = code_of f row;
    }

-- ---- the whole

abbrev pub entry_row : ℕ → Option ℕ
entry_row zero = None
entry_row (suc n) = Some n

abbrev pub entry_named : ℕ → Option ℕ
entry_named token = if table_of token == methods then entry_row (number_of token) else None

abbrev pub assembly_by : (ℕ → TypeKind) → (ℕ → List ℕ) → (ℕ → Body) → Bool → FilePart → Assembly
assembly_by kind filled native has_entry f =
    record {
      name = text_at f.metadata (slice_index (row_of f.metadata assemblies 1) 7);
      version = version_at 1 (row_of f.metadata assemblies 1);
      entry = if has_entry then entry_named f.pe.entry else None;
      assemblies = map (assembly_ref f.metadata) (rows_of f.metadata assembly_refs);
      refs = map (type_ref f.metadata) (rows_of f.metadata type_refs);
      field_refs = map (field_ref f.metadata) (filter (is_field_ref f.metadata) (rows_of f.metadata member_refs));
      method_refs = map (method_ref f.metadata) (filter (is_method_ref f.metadata) (rows_of f.metadata member_refs));
      types = numbered (type_row f.metadata kind) 0 (rows_of f.metadata type_defs);
      fields = numbered (field_row f.metadata filled) 0 (rows_of f.metadata fields);
      methods = numbered (method_row f native) 0 (rows_of f.metadata methods);
      specs = map (λ row. spec_signature f.metadata (bytes_at f.metadata (slice_index row 0))) (rows_of f.metadata type_specs);
    }

-- the rows as one file alone tells them, from which names are resolved
abbrev pub alone : FilePart → Assembly
alone f = assembly_by (λ n. Reference) (λ n. []) (λ n. Missing) false f
