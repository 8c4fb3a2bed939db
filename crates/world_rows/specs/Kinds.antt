-- What the types of a world are as types of places (II.13, II.14.3), and the bytes of data fields.
-- Names are resolved among the rows of each file alone, which don't depend on what is told here.
use Rattle.std.specs.Prelude.{codes, ℕ, suc, ◌==◌, Bool, not, ◌&&◌, ◌||◌, if◌then◌else◌, List, [], ◌∷◌, length, slice_get, slice_index, Option, Some, None, unwrap_or}
use Rattle.std.specs.List.{find, filter, position}
use Rattle.std.specs.Option.{option_map}
use Rattle.plain_types.specs.declared.elem.Elem.{Elem}
use Rattle.plain_types.specs.declared.elem.Elem.TheVariants as elem
use Rattle.file_tables.specs.Pe.{at_rva}
use Rattle.file_tables.specs.Metadata.{rows_of}
use Rattle.file_tables.specs.File.{FilePart}
use Rattle.machine.specs.Data.{Id}
use Rattle.machine.specs.Texts.{same_text}
use Rattle.machine.specs.Throw.{on_some}
use Rattle.classes.specs.Classes.{TypeKind, Reference, Builtin, Enumeration, OtherValue}
use Rattle.classes.specs.Queries.{basic_name, elements, some_eq, is_instance_kind, is_integer}
use Rattle.assemblies.specs.Rows.{RawType, RawSpelt, RawClass, RawValue, RawArray, TypeRow, FieldRow, Assembly, Nowhere}
use Rattle.assemblies.specs.Binding.{first_number, id_at, type_in, resolve, range}
use Rattle.world_rows.specs.Tokens.{class_layouts, field_rvas}
use Rattle.world_rows.specs.Rows.{row_with}

-- ---- types of the base library

abbrev pub is_system : List ℕ → TypeRow → Bool
is_system name t = same_text t.namespace (codes "System") && same_text t.name name

-- the first type of the namespace System with the name, nested or not, in the first assembly of the base library's name: the class
-- that the machine finds by the name. Told by the list's cases, so that it computes where only the first assemblies are known
abbrev pub library_type : List Assembly → List ℕ → Option Id
library_type ps name =
    on_some (first_number (λ (p : Assembly). same_text p.name (codes "mscorlib")) ps) (λ f.
    on_some (slice_get ps f) (λ p. option_map (id_at f) (position (is_system name) p.types)))

-- the first file's type of the namespace System with the name, in no other type. The natives and the types that the base library
-- must have are told by the numbers of its files, and so is this
abbrev pub system_type : List Assembly → List ℕ → Option Id
system_type ps name = type_in ps 0 None (record { scope = Nowhere; namespace = codes "System"; name = name })

-- ---- elements

abbrev pub is_class_of : List Assembly → Id → Elem → Bool
is_class_of ps c e = some_eq (Some c) (on_some (basic_name e) (library_type ps))

abbrev pub element_of : List Assembly → Id → Option Elem
element_of ps c = find (is_class_of ps c) elements

abbrev pub type_at : List Assembly → Id → Option TypeRow
type_at ps c = on_some (slice_get ps c.file) (λ p. slice_get p.types c.row)

abbrev pub superclass_of : ℕ → List Assembly → Id → Option Id
superclass_of k ps c = on_some (type_at ps c) (λ t. on_some t.extends (resolve k ps c.file))

abbrev pub fields_in : List Assembly → Id → List FieldRow
fields_in ps c = unwrap_or (on_some (slice_get ps c.file) (λ p. option_map (λ t. range t.first_field t.field_count p.fields) (slice_get p.types c.row))) []

-- ---- enums

abbrev pub integer_of : RawType → Option Elem
integer_of (RawSpelt e) = if is_integer e then Some e else None
integer_of _ = None

-- the element of the one instance field
abbrev pub number_in : List FieldRow → Option Elem
number_in (f ∷ []) = integer_of f.signature
number_in _ = None

abbrev pub number_of : List Assembly → Id → Option Elem
number_of ps c = number_in (filter (λ f. is_instance_kind f.kind) (fields_in ps c))

-- ---- kinds

abbrev pub extends : ℕ → List Assembly → Id → List ℕ → Bool
extends k ps c name = some_eq (superclass_of k ps c) (library_type ps name)

abbrev pub is_enum : ℕ → List Assembly → Id → Bool
is_enum k ps c = extends k ps c (codes "Enum")

-- Enum itself is a class
abbrev pub is_value : ℕ → List Assembly → Id → Bool
is_value k ps c = is_enum k ps c || (extends k ps c (codes "ValueType") && not (some_eq (Some c) (library_type ps (codes "Enum"))))

-- an enum without one integer as its instance field is refused, and is void till then
abbrev pub enum_element : Option Elem → Elem
enum_element (Some e) = e
enum_element None = elem.Void

abbrev pub derived_kind : ℕ → List Assembly → Id → TypeKind
derived_kind k ps c = if is_enum k ps c then Enumeration (enum_element (number_of ps c)) else if is_value k ps c then OtherValue else Reference

abbrev pub kind_by : Option Elem → TypeKind → TypeKind
kind_by (Some e) kind = Builtin e
kind_by None kind = kind

unfoldable pub kind_of : ℕ → List Assembly → Id → TypeKind
kind_of k ps c = kind_by (element_of ps c) (derived_kind k ps c)

-- ---- data

abbrev pub width : Elem → Option ℕ
width elem.Bool = Some 1
width elem.I1 = Some 1
width elem.U1 = Some 1
width elem.Char = Some 2
width elem.I2 = Some 2
width elem.U2 = Some 2
width elem.I4 = Some 4
width elem.U4 = Some 4
width elem.I8 = Some 8
width elem.U8 = Some 8
width _ = None

-- the size that the first layout row of a type says
abbrev pub layout_size : List FilePart → Id → Option ℕ
layout_size files c =
    on_some (slice_get files c.file) (λ f. option_map (λ row. slice_index row 1) (row_with 2 (suc c.row) (rows_of f.metadata class_layouts)))

-- a data type has no fields
abbrev pub data_size : List FilePart → List Assembly → Id → Option ℕ
data_size files ps c = if length (fields_in ps c) == 0 then layout_size files c else None

abbrev pub size_by : List FilePart → List Assembly → Id → TypeKind → Option ℕ
size_by files ps c (Builtin e) = width e
size_by files ps c (Enumeration e) = width e
size_by files ps c OtherValue = data_size files ps c
size_by files ps c Reference = None

-- how many bytes a data field of the type has: none where it can't be one's
abbrev pub size_of_type : ℕ → List FilePart → List Assembly → ℕ → RawType → Option ℕ
size_of_type k files ps file (RawSpelt e) = width e
size_of_type k files ps file (RawValue t) = on_some (resolve k ps file t) (λ c. size_by files ps c (kind_of k ps c))
size_of_type k files ps file (RawClass t) = None
size_of_type k files ps file (RawArray s) = None

abbrev pub rva_of : FilePart → ℕ → Option ℕ
rva_of f n = option_map (λ row. slice_index row 0) (row_with 1 (suc n) (rows_of f.metadata field_rvas))

abbrev pub bytes_by : FilePart → Option ℕ → Option ℕ → Option (List ℕ)
bytes_by f (Some rva) (Some size) = at_rva f.pe rva size
bytes_by f _ _ = None

-- the bytes of a field with data, where its type has a size and they are in a section
unfoldable pub data_of : ℕ → List FilePart → List Assembly → Id → Option (List ℕ)
data_of k files ps c =
    on_some (slice_get files c.file) (λ f.
    on_some (slice_get ps c.file) (λ p.
    on_some (slice_get p.fields c.row) (λ x. bytes_by f (rva_of f c.row) (size_of_type k files ps c.file x.signature))))
