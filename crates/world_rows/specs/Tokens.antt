-- The tokens of a file, as tokens of rows that count from 0 (II.22, II.24.2.6). A token that names no row of its table, and one of
-- a table that isn't taken, names a row past the last one, and so nothing.
use Rattle.std.specs.Prelude.{ℕ, zero, suc, ◌/◌, ◌%◌, ◌^◌, ◌==◌, Bool, false, not, if◌then◌else◌, List, [], ◌∷◌, take, count_by, slice_index, slice_index_or, unwrap_or}
use Rattle.file_tables.specs.declared.schema.Coded.{Coded}
use Rattle.file_tables.specs.declared.schema.Coded.TheVariants.{TypeDefOrRef, ResolutionScope}
use Rattle.file_tables.specs.Heaps.{string_at, blob_at}
use Rattle.file_tables.specs.Metadata.{MetadataPart, rows_of, row_count, token_table, token_row}
use Rattle.cil_sig.specs.declared.elements.TheConstants.{FIELD}
use Rattle.assemblies.specs.Rows.{TypeToken, TypeDef, TypeRef, TypeSpec, MemberToken, Own, Reference, Scope, OfAssembly, Inside, Nowhere}

abbrev pub type_refs : ℕ
type_refs = 0x01

abbrev pub type_defs : ℕ
type_defs = 0x02

abbrev pub fields : ℕ
fields = 0x04

abbrev pub methods : ℕ
methods = 0x06

abbrev pub interface_impls : ℕ
interface_impls = 0x09

abbrev pub member_refs : ℕ
member_refs = 0x0A

abbrev pub class_layouts : ℕ
class_layouts = 0x0F

abbrev pub locals_signatures : ℕ
locals_signatures = 0x11

abbrev pub type_specs : ℕ
type_specs = 0x1B

abbrev pub field_rvas : ℕ
field_rvas = 0x1D

abbrev pub assemblies : ℕ
assemblies = 0x20

abbrev pub assembly_refs : ℕ
assembly_refs = 0x23

abbrev pub nested_classes : ℕ
nested_classes = 0x29

abbrev pub literals : ℕ
literals = 0x70

-- the table and the row of a token in code, in a clause and in a header
abbrev pub table_of : ℕ → ℕ
table_of token = token / 2 ^ 24

abbrev pub number_of : ℕ → ℕ
number_of token = token % 2 ^ 24

-- a row that counts from 1, of a table with so many, from 0
abbrev pub from_zero : ℕ → ℕ → ℕ
from_zero count zero = count
from_zero count (suc n) = n

abbrev pub text_at : MetadataPart → ℕ → List ℕ
text_at m at = unwrap_or (string_at m.strings at) []

abbrev pub bytes_at : MetadataPart → ℕ → List ℕ
bytes_at m at = unwrap_or (blob_at m.blobs at) []

-- ---- types

abbrev pub no_type : MetadataPart → TypeToken
no_type m = TypeDef (row_count m type_defs)

unfoldable pub type_token : MetadataPart → ℕ → ℕ → TypeToken
type_token m table row =
    if table == type_defs then TypeDef (from_zero (row_count m type_defs) row)
    else if table == type_refs then TypeRef (from_zero (row_count m type_refs) row)
    else if table == type_specs then TypeSpec (from_zero (row_count m type_specs) row)
    else no_type m

-- in a column, in a signature, and in code
abbrev pub coded_type : MetadataPart → Coded → ℕ → TypeToken
coded_type m coded n = type_token m (token_table coded n) (token_row coded n)

abbrev pub type_named : MetadataPart → ℕ → TypeToken
type_named m token = type_token m (table_of token) (number_of token)

-- row 0 means that there is none
abbrev pub superclass_token : MetadataPart → ℕ → List TypeToken
superclass_token m n = if token_row TypeDefOrRef n == 0 then [] else coded_type m TypeDefOrRef n ∷ []

-- a module has no types that are named from elsewhere
unfoldable pub scope_of : MetadataPart → ℕ → Scope
scope_of m n =
    if token_table ResolutionScope n == assembly_refs then OfAssembly (from_zero (row_count m assembly_refs) (token_row ResolutionScope n))
    else if token_table ResolutionScope n == type_refs then Inside (from_zero (row_count m type_refs) (token_row ResolutionScope n))
    else Nowhere

-- ---- members

-- a member reference is one of a field where its signature is a field's
abbrev pub begins_field : List ℕ → Bool
begins_field [] = false
begins_field (b ∷ bs) = b == FIELD

abbrev pub is_field_ref : MetadataPart → List ℕ → Bool
is_field_ref m row = begins_field (bytes_at m (slice_index row 2))

abbrev pub is_method_ref : MetadataPart → List ℕ → Bool
is_method_ref m row = not (is_field_ref m row)

-- its number among those of its kind, where it is of that kind
abbrev pub reference_of : MetadataPart → (List ℕ → Bool) → MemberToken → ℕ → MemberToken
reference_of m of_kind none zero = none
reference_of m of_kind none (suc n) =
    if of_kind (slice_index_or (rows_of m member_refs) n []) then Reference (count_by of_kind (take n (rows_of m member_refs))) else none

abbrev pub no_method : MetadataPart → MemberToken
no_method m = Own (row_count m methods)

abbrev pub no_field : MetadataPart → MemberToken
no_field m = Own (row_count m fields)

unfoldable pub method_token : MetadataPart → ℕ → ℕ → MemberToken
method_token m table row =
    if table == methods then Own (from_zero (row_count m methods) row)
    else if table == member_refs then reference_of m (is_method_ref m) (no_method m) row
    else no_method m

unfoldable pub field_token : MetadataPart → ℕ → ℕ → MemberToken
field_token m table row =
    if table == fields then Own (from_zero (row_count m fields) row)
    else if table == member_refs then reference_of m (is_field_ref m) (no_field m) row
    else no_field m

abbrev pub method_named : MetadataPart → ℕ → MemberToken
method_named m token = method_token m (table_of token) (number_of token)

abbrev pub field_named : MetadataPart → ℕ → MemberToken
field_named m token = field_token m (table_of token) (number_of token)
