-- The header of the tables' stream.
use Rattle.std.specs.Prelude.{◌≡◌, ℕ, ◌+◌, ◌*◌, ◌^◌, ◌<◌, ◌≤◌, true, cond, length, slice_index_or, take, List, [], ◌∷◌}
use Rattle.file_tables.specs.Bytes.{u32_at, has_bit}
use Rattle.file_tables.specs.Rules.{Rule, rule_at}
use Rattle.file_tables.specs.Tables as tables
use Rattle.file_tables.specs.Metadata as metadata
use Rattle.cil_tables.specs.Shape.{seen}
use Rattle.cil_tables.specs.declared.root.Stream.{Stream}
use Rattle.cil_tables.specs.declared.layout.Layout.{Layout}
use Rattle.cil_tables.specs.declared.layout.Rows.{Rows}

-- the row count of a table, behind the header at an offset with those Valid bits
abbrev pub count_behind : List ℕ → ℕ → ℕ → ℕ → ℕ
count_behind region begin valid table = cond (has_bit valid table) (u32_at region (begin + 24 + 4 * metadata.present_before valid table)) 0

-- the rules on the tables' stream
abbrev pub layout_rules : List ℕ → List Rule
layout_rules region =
    rule_at 9 0 (metadata.has_tables region)
    ∷ rule_at 10 (metadata.tables_begin region) (metadata.is_tables_header region)
    ∷ rule_at 11 (metadata.tables_end region) (metadata.has_rows region)
    ∷ []

-- where the tables' stream stands
pub record TablesAt (region : List ℕ) (s : Stream) : Type 0 where
  pub is_there : metadata.has_tables region ≡ true
  pub begin : metadata.tables_begin region ≡ s.offset
  pub end : metadata.tables_end region ≡ s.offset + s.size
  pub inside : s.offset + s.size ≤ length region

-- the rows of a table begin behind those of all tables before it, and its columns are as wide as the shape makes them
pub record IsPlaced (shape : tables.Shape) (first table : ℕ) (rows : Rows) : Type 0 where
  pub start : rows.start ≡ first + tables.sizes_before shape table
  pub row : rows.widths.row ≡ tables.row_width shape table
  pub columns : take rows.widths.count rows.widths.columns ≡ tables.widths_of shape table
  pub few : rows.widths.count ≤ 9
  pub start_small : rows.start < 2 ^ 45
  pub row_small : rows.widths.row ≤ 36

-- so stand the rows of the first tables, of which the list has as many at least; past its end another stands for them
abbrev pub ArePlaced : tables.Shape → ℕ → List Rows → ℕ → Type 0
ArePlaced shape first all count = (table : ℕ) → table < count → (other : Rows) → IsPlaced shape first table (slice_index_or all table other)

-- how many rows there are, and where those of each table stand
pub record IsLayout (region : List ℕ) (l : Layout) : Type 0 where
  pub shape : seen l.shape ≡ metadata.shape_of region
  pub tables : ArePlaced (metadata.shape_of region) (metadata.first_row region) l.tables 64
