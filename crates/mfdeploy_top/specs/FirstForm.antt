-- The first form of a file: an assembly of which the entry method is one expression of constants.
use Rattle.std.specs.Prelude.{ℕ, ◌/◌, ◌%◌, ◌==◌, Bool, ◌&&◌, not, nat_le, if◌then◌else◌, List, [], ◌∷◌, length, take, drop, slice_index, Option, Some, None, option_and_then, is_some}
use Rattle.std.specs.Str.{bytes_eq}
use Rattle.file_tables.specs.Bytes.{u16_at, u32_at, has_bit}
use Rattle.file_tables.specs.Pe.{PePart, tail}
use Rattle.file_tables.specs.Streams.{heap_named}
use Rattle.file_tables.specs.Metadata.{tables_name, blob_name}
use Rattle.tiny_interp.specs.Postfix.{first_value}

-- the entry token: method 1
abbrev pub FIRST_METHOD : ℕ
FIRST_METHOD = 0x06000001

-- the header of `#~` (ECMA-335 II.24.2.6): narrow heaps, and 1, 1, 2, 1, 1 and 1 rows of Module, TypeRef, TypeDef,
-- MethodDef, Assembly and AssemblyRef; so the rows begin at byte 48, and the method's at byte 92
unfoldable pub is_first_header : List ℕ → Bool
is_first_header tables =
    slice_index tables 6 == 0
    && u32_at tables 8 == 0x47
    && u32_at tables 12 == 0x9
    && u32_at tables 24 == 1
    && u32_at tables 28 == 1
    && u32_at tables 32 == 2
    && u32_at tables 36 == 1
    && u32_at tables 40 == 1
    && u32_at tables 44 == 1

-- the method is CIL, static, and neither virtual nor abstract nor of another platform (II.22.26)
unfoldable pub is_first_method : List ℕ → Bool
is_first_method tables =
    u16_at tables 96 == 0
    && has_bit (u16_at tables 98) 4
    && not (has_bit (u16_at tables 98) 6)
    && not (has_bit (u16_at tables 98) 10)
    && not (has_bit (u16_at tables 98) 13)

-- its signature: no `this`, no parameters, an int32 (II.23.2.1), behind the length of three bytes
unfoldable pub is_first_signature : List ℕ → List ℕ → Bool
is_first_signature tables blobs = bytes_eq (take 4 (drop (u16_at tables 102) blobs)) (0x03 ∷ 0x00 ∷ 0x00 ∷ 0x08 ∷ [])

-- the RVA of the method's body
unfoldable pub first_rva : List ℕ → List ℕ → Option ℕ
first_rva tables blobs =
    if nat_le 106 (length tables) && is_first_header tables && is_first_method tables && is_first_signature tables blobs
    then Some (u32_at tables 92)
    else None

-- a tiny body (II.25.4.2) at the front, all of its code there, and the code an expression
unfoldable pub first_body : List ℕ → Option (List ℕ)
first_body [] = None
first_body (b ∷ rest) =
    if b % 4 == 2 && nat_le (b / 4) (length rest) && is_some (first_value (take (b / 4) rest))
    then Some (take (b / 4) rest)
    else None

-- the body of the entry method, up to the end of its section
unfoldable pub first_method : PePart → Option (List ℕ)
first_method pe =
    if pe.entry == FIRST_METHOD
    then option_and_then (tail pe) (first_rva (heap_named pe.region tables_name) (heap_named pe.region blob_name))
    else None

-- the expression of a file that has the first form
unfoldable pub first_code : PePart → Option (List ℕ)
first_code pe = option_and_then first_body (first_method pe)
