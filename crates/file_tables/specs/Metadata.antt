-- The tables and heaps of a file's metadata (II.24.2), and rules 8 to 13. Offsets count from the metadata root.
-- The functions of the bytes have a meaning only where the rules before those that read them are kept.
use Rattle.std.specs.Prelude.{codes, ℕ, zero, suc, ◌+◌, ◌*◌, ◌/◌, ◌%◌, ◌^◌, ◌==◌, Bool, true, cond, not, max, ◌&&◌, ◌||◌, List, [], ◌∷◌, ◌++◌, map, length, nat_le, slice_index, slice_index_or, is_some, unwrap_or, Result}
use Rattle.std.specs.Option.{option_map}
use Rattle.std.specs.List.{list_all, range_with_len, count_by, enumerate_from, flat_map}
use Rattle.plain_types.specs.declared.fault.Fault.{Fault}
use Rattle.file_tables.specs.declared.schema.Column.{Column}
use Rattle.file_tables.specs.declared.schema.Column.TheVariants.{Two, Four, Strings, Guid, Blob, RowOf, ListOf, Token, TokenOrNone}
use Rattle.file_tables.specs.declared.schema.Coded.{Coded}
use Rattle.file_tables.specs.declared.schema.TheConstants.{LOOKED_AT}
use Rattle.file_tables.specs.declared.numbers.TheConstants.{ASSEMBLY}
use Rattle.file_tables.specs.Bytes.{u32_at, u64_at, has_bit}
use Rattle.file_tables.specs.Schema.{columns_of, tag_bits_of, table_of}
use Rattle.file_tables.specs.Rules.{Rule, rule_at, rule_of_row, first_broken, unless_broken}
use Rattle.file_tables.specs.Heaps.{string_at, blob_at}
use Rattle.file_tables.specs.Streams.{is_root, streams_of, stream_named, heap_named, rules_of_streams}
use Rattle.file_tables.specs.Tables.{Shape, sizes_before, rows_at}

-- the tables by number, each a list of rows, each row a list of numbers; and the heaps
pub record MetadataPart : Type 0 where
  pub tables : List (List (List ℕ))
  pub strings : List ℕ
  pub guids : List ℕ
  pub blobs : List ℕ
  pub user_strings : List ℕ

abbrev pub rows_of : MetadataPart → ℕ → List (List ℕ)
rows_of m table = slice_index_or m.tables table []

abbrev pub row_count : MetadataPart → ℕ → ℕ
row_count m table = length (rows_of m table)

-- the row of a number that counts from 1; no column where there is none
abbrev pub row_of : MetadataPart → ℕ → ℕ → List ℕ
row_of m table zero = []
row_of m table (suc k) = slice_index_or (rows_of m table) k []

-- a column of a row by its place from 0
abbrev pub column_of : MetadataPart → ℕ → ℕ → ℕ → ℕ
column_of m table row column = slice_index (row_of m table row) column

-- the names of the streams, in ASCII
abbrev pub tables_name : List ℕ
tables_name = codes "#~"

abbrev pub strings_name : List ℕ
strings_name = codes "#Strings"

abbrev pub guid_name : List ℕ
guid_name = codes "#GUID"

abbrev pub blob_name : List ℕ
blob_name = codes "#Blob"

abbrev pub user_strings_name : List ℕ
user_strings_name = codes "#US"

-- the stream `#~` (II.24.2.6): where it begins and ends, and its Valid bits
unfoldable pub tables_begin : List ℕ → ℕ
tables_begin region = unwrap_or (option_map (λ s. s.offset) (stream_named region tables_name)) 0

unfoldable pub tables_end : List ℕ → ℕ
tables_end region = unwrap_or (option_map (λ s. s.offset + s.size) (stream_named region tables_name)) 0

unfoldable pub valid_bits : List ℕ → ℕ
valid_bits region = u64_at region (tables_begin region + 8)

-- how many tables before one are there
unfoldable pub present_before : ℕ → ℕ → ℕ
present_before valid table = count_by (has_bit valid) (range_with_len 0 table)

-- the row count of a table; the counts stand behind the stream's header of 24 bytes, one for each table that is there
unfoldable pub count_in : List ℕ → ℕ → ℕ
count_in region table =
    cond (has_bit (valid_bits region) table) (u32_at region (tables_begin region + 24 + 4 * present_before (valid_bits region) table)) 0

-- behind the row counts
unfoldable pub first_row : List ℕ → ℕ
first_row region = tables_begin region + 24 + 4 * present_before (valid_bits region) 64

-- HeapSizes is the seventh byte
unfoldable pub shape_of : List ℕ → Shape
shape_of region = record { heap_sizes = slice_index region (tables_begin region + 6); counts = map (count_in region) (range_with_len 0 64) }

-- where the last table's rows end
unfoldable pub rows_end : List ℕ → ℕ
rows_end region = first_row region + sizes_before (shape_of region) 64

unfoldable pub metadata_part : List ℕ → MetadataPart
metadata_part region = record {
  tables = map (rows_at region (shape_of region) (first_row region)) (range_with_len 0 64);
  strings = heap_named region strings_name;
  guids = heap_named region guid_name;
  blobs = heap_named region blob_name;
  user_strings = heap_named region user_strings_name;
}

-- rule 9 for the stream that has to be there
unfoldable pub has_tables : List ℕ → Bool
has_tables region = is_some (stream_named region tables_name)

-- rule 10: header and counts inside the stream, no unknown width and no unknown table
unfoldable pub is_known_table : ℕ → ℕ → Bool
is_known_table valid table = not (has_bit valid table) || not (length (columns_of table) == 0)

unfoldable pub is_tables_header : List ℕ → Bool
is_tables_header region =
    nat_le (tables_begin region + 24) (tables_end region)
    && nat_le (slice_index region (tables_begin region + 6)) 7
    && list_all (is_known_table (valid_bits region)) (range_with_len 0 64)
    && nat_le (first_row region) (tables_end region)

-- rule 11
unfoldable pub has_rows : List ℕ → Bool
has_rows region = nat_le (rows_end region) (tables_end region)

-- rule 12 for one column, of which the row before has the number before
abbrev pub is_row_in : MetadataPart → ℕ → ℕ → Bool
is_row_in m table row = nat_le 1 row && nat_le row (row_count m table)

-- the tag and the row of a coded index
abbrev pub token_table : Coded → ℕ → ℕ
token_table coded token = table_of coded (token % 2 ^ tag_bits_of coded)

abbrev pub token_row : Coded → ℕ → ℕ
token_row coded token = token / 2 ^ tag_bits_of coded

unfoldable pub is_column : MetadataPart → Column → ℕ → ℕ → Bool
is_column m Two before number = true
is_column m Four before number = true
is_column m Strings before number = is_some (string_at m.strings number)
is_column m Guid before number = true
is_column m Blob before number = is_some (blob_at m.blobs number)
is_column m (RowOf table) before number = is_row_in m table number
-- a list may be empty, and begins no earlier than that of the row before
is_column m (ListOf table) before number = nat_le (max 1 before) number && nat_le number (row_count m table + 1)
is_column m (Token coded) before number = is_row_in m (token_table coded number) (token_row coded number)
is_column m (TokenOrNone coded) before number = nat_le (token_table coded number) 63 && nat_le (token_row coded number) (row_count m (token_table coded number))

-- rule 12 for one row
unfoldable pub is_row : MetadataPart → ℕ → ℕ → Bool
is_row m table zero = true
is_row m table (suc k) =
    list_all (λ c. is_column m c.1 (column_of m table k c.0) (column_of m table (suc k) c.0)) (enumerate_from 0 (columns_of table))

unfoldable pub rules_of_rows : MetadataPart → ℕ → List Rule
rules_of_rows m table = map (λ row. rule_of_row 12 table row (is_row m table row)) (range_with_len 1 (row_count m table))

-- rule 13
unfoldable pub has_one_assembly : MetadataPart → Bool
has_one_assembly m = row_count m ASSEMBLY == 1

unfoldable pub rules_of_tables : MetadataPart → List Rule
rules_of_tables m = flat_map (rules_of_rows m) LOOKED_AT ++ rule_at 13 0 (has_one_assembly m) ∷ []

unfoldable pub metadata_rules : List ℕ → List Rule
metadata_rules region =
    rule_at 8 0 (is_root region)
    ∷ rules_of_streams region [] (streams_of region)
    ++ rule_at 9 0 (has_tables region)
    ∷ rule_at 10 (tables_begin region) (is_tables_header region)
    ∷ rule_at 11 (tables_end region) (has_rows region)
    ∷ rules_of_tables (metadata_part region)

-- the first broken rule of 8 to 13, or the tables and heaps
unfoldable pub metadata_of : List ℕ → Result MetadataPart Fault
metadata_of region = unless_broken (first_broken (metadata_rules region)) (metadata_part region)
