-- Signatures (II.23.2).
use Rattle.std.specs.Prelude.{ℕ, List, [], ◌∷◌, ◌++◌, length, if◌then◌else◌}
use Rattle.std.specs.List.{flat_map}
use Rattle.base_tables.specs.Shape.{Item, Kind, Signature}
use Rattle.base_tables.specs.declared.shape.Element.{Element}
use Rattle.base_tables.specs.declared.shape.Element.TheVariants.{Void, Bool as OfBool, Char, Int32, Int64, UInt64, String, Object, Class, Value, Chars, Strings, Objects}
use Rattle.cil_layout.specs.Text.{compressed}
use Rattle.cil_layout.specs.Numbers.{type_index}
use Rattle.base_lib.specs.Keys.{token_of_key}

-- a type, and the key of a class or a value type
abbrev pub element_bytes : List Item → Element → List ℕ → List ℕ
element_bytes items Void key = 0x01 ∷ []
element_bytes items OfBool key = 0x02 ∷ []
element_bytes items Char key = 0x03 ∷ []
element_bytes items Int32 key = 0x08 ∷ []
element_bytes items Int64 key = 0x0A ∷ []
element_bytes items UInt64 key = 0x0B ∷ []
element_bytes items String key = 0x0E ∷ []
element_bytes items Object key = 0x1C ∷ []
element_bytes items Class key = 0x12 ∷ compressed (type_index (token_of_key items key))
element_bytes items Value key = 0x11 ∷ compressed (type_index (token_of_key items key))
element_bytes items Chars key = 0x1D ∷ 0x03 ∷ []
element_bytes items Strings key = 0x1D ∷ 0x0E ∷ []
element_bytes items Objects key = 0x1D ∷ 0x1C ∷ []

abbrev pub kind_bytes : List Item → Kind → List ℕ
kind_bytes items kind = element_bytes items kind.element kind.class

abbrev pub kinds_bytes : List Item → List Kind → List ℕ
kinds_bytes items kinds = flat_map (kind_bytes items) kinds

abbrev pub method_signature : List Item → Signature → List ℕ
method_signature items s = (if s.this then 0x20 else 0) ∷ compressed (length s.params) ++ kind_bytes items s.result ++ kinds_bytes items s.params

abbrev pub field_signature : List Item → Kind → List ℕ
field_signature items kind = 0x06 ∷ kind_bytes items kind

abbrev pub locals_signature : List Item → List Kind → List ℕ
locals_signature items kinds = 0x07 ∷ compressed (length kinds) ++ kinds_bytes items kinds
