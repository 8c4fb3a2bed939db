-- The stream headers that stand in the metadata, and that the reader finds just these.
use Rattle.std.proofs.Common.{◌≡◌, ℕ, ◌+◌, ◌^◌, ◌<◌, List, [], ◌∷◌, length, refl, arith}
use Rattle.cil_layout.specs.Layout.{metadata_by, root}
use Rattle.file_tables.specs.Bytes.{u16_at, u32_at}
use Rattle.file_tables.specs.Heaps.{before_zero}
use Rattle.file_tables.specs.Streams.{Stream, stream_at, header_end, streams_from, streams_of, stream_count, after_version}
use Rattle.file_tables.specs.Metadata.{tables_name, strings_name, guid_name, blob_name, user_strings_name}
use Rattle.layout_laws.proofs.Spans.{four_number}

-- the header of `#~`, by its size
abbrev pub tables_header : ℕ → Stream
tables_header tables = record { header = 32; offset = 108; size = tables; name = tables_name }

-- of `#Strings`, by the sizes of the tables and its own
abbrev pub strings_header : ℕ → ℕ → Stream
strings_header tables strings = record { header = 44; offset = 108 + tables; size = strings; name = strings_name }

-- of `#US`
abbrev pub texts_header : ℕ → ℕ → ℕ → Stream
texts_header tables strings texts = record { header = 64; offset = 108 + tables + strings; size = texts; name = user_strings_name }

-- of `#GUID`
abbrev pub guid_header : ℕ → ℕ → ℕ → Stream
guid_header tables strings texts = record { header = 76; offset = 108 + tables + strings + texts; size = 16; name = guid_name }

-- of `#Blob`
abbrev pub blobs_header : ℕ → ℕ → ℕ → ℕ → Stream
blobs_header tables strings texts blobs = record { header = 92; offset = 108 + tables + strings + texts + 16; size = blobs; name = blob_name }

-- all five, of parts that are so long
abbrev pub headers_with : ℕ → ℕ → ℕ → ℕ → List Stream
headers_with tables strings texts blobs =
    tables_header tables ∷ strings_header tables strings ∷ texts_header tables strings texts ∷ guid_header tables strings texts ∷ blobs_header tables strings texts blobs ∷ []

abbrev header_of : ℕ → List ℕ → ℕ → ℕ → Stream
header_of header name offset size = record { header = header; offset = offset; size = size; name = name }

-- equal ranges make equal headers
same_range : (header : ℕ) (name : List ℕ) (offset place size len : ℕ) → offset ≡ place → size ≡ len → header_of header name offset size ≡ header_of header name place len
same_range header name offset place size len same_place same_size = rw (same_place, same_size) refl

module _ (tables strings texts blobs : List ℕ) (small : length tables + length strings + length texts + length blobs < 2 ^ 31) where
  -- each header is read where it stands
  tables_at : stream_at (metadata_by tables strings texts blobs) 32 ≡ tables_header (length tables)
  unfolding stream_at before_zero metadata_by root u32_at u16_at
  tables_at = same_range 32 tables_name _ _ _ _ refl (four_number (length tables) (omega arith))

  strings_at : stream_at (metadata_by tables strings texts blobs) 44 ≡ strings_header (length tables) (length strings)
  unfolding stream_at before_zero metadata_by root u32_at u16_at
  strings_at = same_range 44 strings_name _ _ _ _ (four_number (108 + length tables) (omega arith)) (four_number (length strings) (omega arith))

  texts_at : stream_at (metadata_by tables strings texts blobs) 64 ≡ texts_header (length tables) (length strings) (length texts)
  unfolding stream_at before_zero metadata_by root u32_at u16_at
  texts_at = same_range 64 user_strings_name _ _ _ _ (four_number (108 + length tables + length strings) (omega arith)) (four_number (length texts) (omega arith))

  guid_at : stream_at (metadata_by tables strings texts blobs) 76 ≡ guid_header (length tables) (length strings) (length texts)
  unfolding stream_at before_zero metadata_by root u32_at u16_at
  guid_at = same_range 76 guid_name _ _ _ _ (four_number (108 + length tables + length strings + length texts) (omega arith)) refl

  blobs_at : stream_at (metadata_by tables strings texts blobs) 92 ≡ blobs_header (length tables) (length strings) (length texts) (length blobs)
  unfolding stream_at before_zero metadata_by root u32_at u16_at
  blobs_at = same_range 92 blob_name _ _ _ _ (four_number (108 + length tables + length strings + length texts + 16) (omega arith)) (four_number (length blobs) (omega arith))

  -- the first stands behind the version text, and there are five
  first_at : after_version (metadata_by tables strings texts blobs) + 4 ≡ 32
  unfolding after_version metadata_by root u32_at u16_at
  first_at = refl

  count_is : stream_count (metadata_by tables strings texts blobs) ≡ 5
  unfolding stream_count after_version metadata_by root u32_at u16_at
  count_is = refl

  -- the headers are the five
  pub streams_are : streams_of (metadata_by tables strings texts blobs) ≡ headers_with (length tables) (length strings) (length texts) (length blobs)
  unfolding streams_of streams_from header_end
  streams_are =
      rw (first_at, count_is, tables_at, strings_at, texts_at, guid_at, blobs_at) refl
