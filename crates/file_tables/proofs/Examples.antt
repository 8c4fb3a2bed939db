-- The definitions at small values.
use Rattle.std.proofs.Common.{◌≡◌, ℕ, List, [], ◌∷◌, Some, None, refl}
use Rattle.std.specs.Prelude.{codes}
use lib.Utf8.{encode}
use Rattle.std.specs.Str.{is_utf8, chars}
use Rattle.file_tables.specs.Schema.{columns_of, tables_of, tag_bits_of}
use Rattle.file_tables.specs.Compressed.{compressed_at}
use Rattle.file_tables.specs.Heaps.{before_zero, string_at, counted, blob_at, units_of, user_string_at}
use Rattle.file_tables.specs.Tables.{width_of, is_wide_token, widths_of, row_width}

-- a text, the text that ends it, the empty text at the padding, and no text behind the heap
names : List ℕ
names = 0x00 ∷ 0x41 ∷ 0x62 ∷ 0x63 ∷ 0x00 ∷ 0x00 ∷ 0x00 ∷ 0x00 ∷ []

whole_name : string_at names 1 ≡ Some (codes "Abc")
unfolding string_at before_zero is_utf8 chars encode names
whole_name = refl

shared_end : string_at names 2 ≡ Some (codes "bc")
unfolding string_at before_zero is_utf8 chars encode names
shared_end = refl

empty_name : string_at names 7 ≡ Some []
unfolding string_at before_zero is_utf8 chars encode names
empty_name = refl

behind_heap : string_at names 8 ≡ None
unfolding string_at before_zero is_utf8 chars encode names
behind_heap = refl

-- no zero byte, and a byte that begins no character
no_end : string_at (0x41 ∷ 0x62 ∷ []) 0 ≡ None
unfolding string_at before_zero is_utf8 chars encode
no_end = refl

no_text : string_at (0x41 ∷ 0xFF ∷ 0x00 ∷ []) 0 ≡ None
unfolding string_at before_zero is_utf8 chars encode
no_text = refl

-- the three forms of a compressed number
short_number : compressed_at (0x03 ∷ []) ≡ Some (3, [])
unfolding compressed_at
short_number = refl

two_bytes : compressed_at (0x80 ∷ 0x80 ∷ []) ≡ Some (0x80, [])
unfolding compressed_at
two_bytes = refl

four_bytes : compressed_at (0xC0 ∷ 0x00 ∷ 0x40 ∷ 0x00 ∷ []) ≡ Some (0x4000, [])
unfolding compressed_at
four_bytes = refl

cut_number : compressed_at (0xC0 ∷ 0x00 ∷ 0x40 ∷ []) ≡ None
unfolding compressed_at
cut_number = refl

-- an entry of a blob, one that passes the heap, a literal of one unit, and one of an even length
whole_blob : blob_at (0x00 ∷ 0x02 ∷ 0x06 ∷ 0x08 ∷ []) 1 ≡ Some (0x06 ∷ 0x08 ∷ [])
unfolding blob_at counted compressed_at
whole_blob = refl

long_blob : blob_at (0x00 ∷ 0x03 ∷ 0x06 ∷ 0x08 ∷ []) 1 ≡ None
unfolding blob_at counted compressed_at
long_blob = refl

one_unit : user_string_at (0x00 ∷ 0x03 ∷ 0x68 ∷ 0x00 ∷ 0x00 ∷ []) 1 ≡ Some (0x68 ∷ 0x00 ∷ [])
unfolding user_string_at units_of blob_at counted compressed_at
one_unit = refl

even_literal : user_string_at (0x02 ∷ 0x68 ∷ 0x00 ∷ []) 0 ≡ None
unfolding user_string_at units_of blob_at counted compressed_at
even_literal = refl

-- with narrow indexes a TypeDef row has 14 bytes; a wide `#Strings` makes it 18
narrow : row_width (record { heap_sizes = 0; counts = [] }) 2 ≡ 14
unfolding row_width widths_of width_of is_wide_token columns_of tables_of tag_bits_of
narrow = refl

wide_names : row_width (record { heap_sizes = 1; counts = [] }) 2 ≡ 18
unfolding row_width widths_of width_of is_wide_token columns_of tables_of tag_bits_of
wide_names = refl

-- 16,384 TypeRef rows make a TypeDefOrRef wide
wide_extends : row_width (record { heap_sizes = 0; counts = 0 ∷ 16384 ∷ [] }) 2 ≡ 16
unfolding row_width widths_of width_of is_wide_token columns_of tables_of tag_bits_of
wide_extends = refl
