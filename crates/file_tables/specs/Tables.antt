-- The rows of the metadata tables (II.24.2.6, II.22): widths, offsets and numbers, all over the schema as data.
use Rattle.std.specs.Prelude.{ℕ, ◌+◌, ◌-◌, ◌*◌, ◌^◌, Bool, List, [], ◌∷◌, map, cond, nat_le, slice_index}
use Rattle.std.specs.List.{list_any, range_with_len, sum_by}
use Rattle.file_tables.specs.declared.schema.Coded.{Coded}
use Rattle.file_tables.specs.declared.schema.Column.{Column}
use Rattle.file_tables.specs.declared.schema.Column.TheVariants.{Two, Four, Strings, Guid, Blob, RowOf, ListOf, Token, TokenOrNone}
use Rattle.file_tables.specs.Bytes.{u16_at, u32_at, has_bit}
use Rattle.file_tables.specs.Schema.{columns_of, tables_of, tag_bits_of}

-- what the widths depend on: HeapSizes, and for each table number how many rows it has
pub record Shape : Type 0 where
  pub heap_sizes : ℕ
  pub counts : List ℕ

abbrev pub count_of : Shape → ℕ → ℕ
count_of shape table = slice_index shape.counts table

-- an index is four bytes wide where two don't suffice
abbrev pub width_if : Bool → ℕ
width_if wide = cond wide 4 2

-- one of the tables of a coded index has too many rows for the bits beside the tag
unfoldable pub is_wide_token : Shape → Coded → Bool
is_wide_token shape coded = list_any (λ table. nat_le (2 ^ (16 - tag_bits_of coded)) (count_of shape table)) (tables_of coded)

unfoldable pub width_of : Shape → Column → ℕ
width_of shape Two = 2
width_of shape Four = 4
width_of shape Strings = width_if (has_bit shape.heap_sizes 0)
width_of shape Guid = width_if (has_bit shape.heap_sizes 1)
width_of shape Blob = width_if (has_bit shape.heap_sizes 2)
width_of shape (RowOf table) = width_if (nat_le 65536 (count_of shape table))
width_of shape (ListOf table) = width_if (nat_le 65536 (count_of shape table))
width_of shape (Token coded) = width_if (is_wide_token shape coded)
width_of shape (TokenOrNone coded) = width_if (is_wide_token shape coded)

-- the widths of a table's columns, and of its rows
unfoldable pub widths_of : Shape → ℕ → List ℕ
widths_of shape table = map (width_of shape) (columns_of table)

unfoldable pub row_width : Shape → ℕ → ℕ
row_width shape table = sum_by (λ w. w) (widths_of shape table)

-- how many bytes the rows of a table take, and those of all tables before one
unfoldable pub table_size : Shape → ℕ → ℕ
table_size shape table = count_of shape table * row_width shape table

unfoldable pub sizes_before : Shape → ℕ → ℕ
sizes_before shape table = sum_by (table_size shape) (range_with_len 0 table)

-- a number of that width at an offset
unfoldable pub number_at : List ℕ → ℕ → ℕ → ℕ
number_at region at width = cond (nat_le width 2) (u16_at region at) (u32_at region at)

-- numbers of these widths, one behind the other
unfoldable pub numbers_at : List ℕ → ℕ → List ℕ → List ℕ
numbers_at region at [] = []
numbers_at region at (width ∷ widths) = number_at region at width ∷ numbers_at region (at + width) widths

-- the rows of a table, where those of table 0 begin at first
unfoldable pub row_at : List ℕ → Shape → ℕ → ℕ → ℕ → List ℕ
row_at region shape first table k = numbers_at region (first + sizes_before shape table + k * row_width shape table) (widths_of shape table)

unfoldable pub rows_at : List ℕ → Shape → ℕ → ℕ → List (List ℕ)
rows_at region shape first table = map (row_at region shape first table) (range_with_len 0 (count_of shape table))
