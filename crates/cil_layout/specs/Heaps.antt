-- The heaps, and the bodies and data (II.24.2.3, II.24.2.4). Entries stand in the order of the rows, and none is shared.
use Rattle.std.specs.Prelude.{ℕ, ◌+◌, ◌-◌, ◌*◌, List, [], ◌∷◌, ◌++◌, length, replicate}
use Rattle.std.specs.List.{flat_map}
use Rattle.cil_layout.specs.declared.rows.Row.{Row}
use Rattle.cil_layout.specs.declared.rows.Row.TheVariants.{TypeDef, Field, MethodDef, AssemblyRef, TypeRef, MemberRef, TypeSpec, Locals, Literal}
use Rattle.cil_layout.specs.declared.fixed.TheConstants.{MODULE_TYPE}
use Rattle.cil_layout.specs.Asked.{Asked, padded_length}
use Rattle.cil_layout.specs.Text.{compressed, blob_entry, text_bytes}

-- bytes with zeros up to a multiple of 4
abbrev pub padded : List ℕ → List ℕ
padded bytes = bytes ++ replicate (padded_length (length bytes) - length bytes) 0

-- The empty name has no entry: it stands at 0.
abbrev pub name_entry : List ℕ → List ℕ
name_entry [] = []
name_entry (c ∷ cs) = (c ∷ cs) ++ 0 ∷ []

abbrev pub name_place : ℕ → List ℕ → ℕ
name_place at [] = 0
name_place at (c ∷ cs) = at

abbrev pub strings_of : Row → List ℕ
strings_of (TypeDef t) = name_entry t.namespace ++ name_entry t.name
strings_of (Field f) = name_entry f.name
strings_of (MethodDef m) = name_entry m.name
strings_of (AssemblyRef a) = name_entry a.name
strings_of (TypeRef t) = name_entry t.namespace ++ name_entry t.name
strings_of (MemberRef m) = name_entry m.name
strings_of _ = []

abbrev pub blobs_of : Row → List ℕ
blobs_of (Field f) = blob_entry f.signature
blobs_of (MethodDef m) = blob_entry m.signature
blobs_of (MemberRef m) = blob_entry m.signature
blobs_of (TypeSpec signature) = blob_entry signature
blobs_of (Locals signature) = blob_entry signature
blobs_of _ = []

abbrev pub texts_of : Row → List ℕ
texts_of (Literal units) = compressed (2 * length units + 1) ++ text_bytes units
texts_of _ = []

-- bodies, and the data of fields
abbrev pub content_of : Row → List ℕ
content_of (Field f) = padded f.bytes
content_of (MethodDef m) = padded m.body
content_of _ = []

unfoldable pub strings_heap : Asked → List ℕ
strings_heap r = padded (0 ∷ MODULE_TYPE ++ name_entry r.name ++ flat_map strings_of r.rows)

unfoldable pub blobs_heap : Asked → List ℕ
blobs_heap r = padded (0 ∷ flat_map blobs_of r.rows)

unfoldable pub texts_heap : Asked → List ℕ
texts_heap r = padded (0 ∷ flat_map texts_of r.rows)

unfoldable pub content : Asked → List ℕ
content r = flat_map content_of r.rows
