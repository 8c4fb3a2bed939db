-- The bytes of an assembly, part by part (II.25, II.24.2).
use Rattle.std.specs.Prelude.{ℕ, ◌+◌, ◌-◌, ◌*◌, ◌/◌, List, [], ◌∷◌, ◌++◌, length, map, take, replicate, Bool, ◌||◌, nat_le, if◌then◌else◌, ◌==◌}
use Rattle.std.specs.List.{flat_map}
use Rattle.std.specs.Int.{to_le_bytes, w16, w32, w64}
use Rattle.file_tables.specs.declared.schema.Coded.{Coded}
use Rattle.file_tables.specs.declared.schema.Coded.TheVariants.{TypeDefOrRef, MemberRefParent, ResolutionScope}
use Rattle.file_tables.specs.declared.schema.Column.{Column}
use Rattle.file_tables.specs.declared.schema.Column.TheVariants.{Two, Four, Strings, Guid, Blob, RowOf, ListOf, Token, TokenOrNone}
use Rattle.file_tables.specs.Schema.{columns_of}
use Rattle.cil_layout.specs.declared.rows.TheConstants.{TYPE_REF, TYPE_DEF, METHOD_DEF, TYPE_SPEC, ASSEMBLY_REF, TABLES}
use Rattle.cil_layout.specs.declared.rows.Row.{Row}
use Rattle.cil_layout.specs.declared.places.Widths.{Widths}
use Rattle.cil_layout.specs.declared.headers.Value.{Value}
use Rattle.cil_layout.specs.declared.headers.Value.TheVariants.{Is, FileFlags, SectionSize, RawSize, ImageSize}
use Rattle.cil_layout.specs.declared.headers.Field.{Field}
use Rattle.cil_layout.specs.declared.headers.TheConstants.{HEADER_FIELDS}
use Rattle.cil_layout.specs.declared.fixed.TheConstants.{DOS_HEADER, PROGRAM_FLAGS, LIBRARY_FLAGS, CLI_HEADER, CLI_FLAGS, CONTENT_RVA, ROOT, TABLES_PLACE, TABLES_NAME, STRINGS_NAME, TEXTS_NAME, GUID_NAME, BLOBS_NAME, TABLES_HEADER, VALID_TABLES, MODULE_GUID}
use Rattle.cil_layout.specs.Asked.{Asked, rows_of, one_if}
use Rattle.cil_layout.specs.Heaps.{padded, strings_heap, blobs_heap, texts_heap, content}
use Rattle.cil_layout.specs.Numbers.{table_rows}

abbrev pub two : ℕ → List ℕ
two n = to_le_bytes w16 n

abbrev pub four : ℕ → List ℕ
four n = to_le_bytes w32 n

-- a multiple of a step that is large enough
abbrev pub round_up : ℕ → ℕ → ℕ
round_up step n = (n + (step - 1)) / step * step

abbrev pub file_flags : ℕ → ℕ
file_flags entry = if entry == 0 then LIBRARY_FLAGS else PROGRAM_FLAGS

-- what a field of a header holds, where the one section has so many bytes
abbrev pub value_of : ℕ → ℕ → Value → ℕ
value_of size entry (Is n) = n
value_of size entry FileFlags = file_flags entry
value_of size entry SectionSize = size
value_of size entry RawSize = round_up 512 size
value_of size entry ImageSize = 0x2000 + round_up 0x2000 size

abbrev pub field_bytes : ℕ → ℕ → Field → List ℕ
field_bytes size entry field = take field.width (to_le_bytes w64 (value_of size entry field.value))

-- the first 512 bytes of the file (II.25.2, II.25.3)
unfoldable pub headers : ℕ → ℕ → List ℕ
headers size entry = DOS_HEADER ++ flat_map (field_bytes size entry) HEADER_FIELDS ++ replicate 96 0

-- the CLI header of metadata that begins so far behind it (II.25.3.3)
unfoldable pub cli_header : ℕ → ℕ → ℕ → List ℕ
cli_header before size entry =
    CLI_HEADER ++ four (CONTENT_RVA + before) ++ four size ++ CLI_FLAGS ++ four entry ++ replicate 48 0

-- the root, with the sizes of the streams `#~`, `#Strings`, `#US` and `#Blob` (II.24.2.1, II.24.2.2)
unfoldable pub root : ℕ → ℕ → ℕ → ℕ → List ℕ
root tables strings texts blobs =
    ROOT ++ four tables ++ TABLES_NAME
    ++ four (TABLES_PLACE + tables) ++ four strings ++ STRINGS_NAME
    ++ four (TABLES_PLACE + tables + strings) ++ four texts ++ TEXTS_NAME
    ++ four (TABLES_PLACE + tables + strings + texts) ++ four 16 ++ GUID_NAME
    ++ four (TABLES_PLACE + tables + strings + texts + 16) ++ four blobs ++ BLOBS_NAME

abbrev pub is_long : ℕ → Bool
is_long size = nat_le 65536 size

abbrev pub width : Bool → ℕ
width wide = if wide then 4 else 2

abbrev pub has_rows : (ℕ → ℕ) → ℕ → ℕ → Bool
has_rows count least table = nat_le least (count table)

-- An index is wide where a heap is long or one of its tables is (II.24.2.6). The tables have so many rows, the heaps so many bytes.
abbrev pub widths_by : (ℕ → ℕ) → ℕ → ℕ → Widths
widths_by count strings blobs = record {
  strings = width (is_long strings);
  blobs = width (is_long blobs);
  types = width (has_rows count 16384 TYPE_DEF || has_rows count 16384 TYPE_REF || has_rows count 16384 TYPE_SPEC);
  parents = width (has_rows count 8192 TYPE_DEF || has_rows count 8192 TYPE_REF || has_rows count 8192 METHOD_DEF || has_rows count 8192 TYPE_SPEC);
  scopes = width (has_rows count 16384 ASSEMBLY_REF || has_rows count 16384 TYPE_REF);
}

unfoldable pub widths : Asked → Widths
widths r = widths_by (rows_of r) (length (strings_heap r)) (length (blobs_heap r))

-- how wide a column is; no table has so many rows that an index into it alone is wide
abbrev pub token_width : Widths → Coded → ℕ
token_width w TypeDefOrRef = w.types
token_width w MemberRefParent = w.parents
token_width w ResolutionScope = w.scopes
token_width w _ = 2

abbrev pub column_width : Widths → Column → ℕ
column_width w Two = 2
column_width w Four = 4
column_width w Strings = w.strings
column_width w Guid = 2
column_width w Blob = w.blobs
column_width w (RowOf table) = 2
column_width w (ListOf table) = 2
column_width w (Token coded) = token_width w coded
column_width w (TokenOrNone coded) = token_width w coded

-- the widths of a table's columns (II.22)
abbrev pub column_widths : Widths → ℕ → List ℕ
column_widths w table = map (column_width w) (columns_of table)

-- numbers in so many bytes each
abbrev pub spelled : List ℕ → List ℕ → List ℕ
spelled [] numbers = []
spelled (w ∷ ws) [] = []
spelled (w ∷ ws) (n ∷ ns) = take w (four n) ++ spelled ws ns

-- the rows of a table of an assembly with this name, version and rows
unfoldable pub all_spelled : Widths → List ℕ → List ℕ → List Row → ℕ → List ℕ
all_spelled w name version rows table = flat_map (spelled (column_widths w table)) (table_rows name version rows table)

-- one bit for each heap whose indexes are wide
abbrev pub heap_sizes : ℕ → ℕ → ℕ
heap_sizes strings blobs = one_if (is_long strings) + 4 * one_if (is_long blobs)

-- the stream `#~` (II.24.2.6)
unfoldable pub stream_by : (ℕ → ℕ) → ℕ → ℕ → List ℕ → List ℕ → List Row → List ℕ
stream_by count strings blobs name version rows =
    padded (TABLES_HEADER ++ heap_sizes strings blobs ∷ VALID_TABLES
    ++ flat_map (λ table. four (count table)) TABLES
    ++ flat_map (all_spelled (widths_by count strings blobs) name version rows) TABLES)

abbrev pub tables_stream : Asked → List ℕ
tables_stream r = stream_by (rows_of r) (length (strings_heap r)) (length (blobs_heap r)) r.name r.version r.rows

-- the metadata: root, tables and heaps
unfoldable pub metadata_by : List ℕ → List ℕ → List ℕ → List ℕ → List ℕ
metadata_by tables strings texts blobs =
    root (length tables) (length strings) (length texts) (length blobs)
    ++ tables ++ strings ++ texts ++ MODULE_GUID ++ blobs

abbrev pub metadata : Asked → List ℕ
metadata r = metadata_by (tables_stream r) (strings_heap r) (texts_heap r) (blobs_heap r)

-- the file: headers, CLI header, bodies and data, and metadata, with zeros up to a multiple of 512
abbrev pub section_size : List ℕ → List ℕ → ℕ
section_size metadata content = 72 + length content + length metadata

unfoldable pub file_by : List ℕ → List ℕ → ℕ → List ℕ
file_by metadata content entry =
    headers (section_size metadata content) entry
    ++ cli_header (length content) (length metadata) entry
    ++ content ++ metadata
    ++ replicate (round_up 512 (section_size metadata content) - section_size metadata content) 0

-- the bytes that stand for what is asked
unfoldable pub built : Asked → List ℕ
built r = file_by (metadata r) (content r) r.entry
