-- The tables of the whole region.
use Rattle.std.proofs.Common.{◌≡◌, ℕ, zero, suc, ◌+◌, ◌-◌, ◌*◌, ◌<◌, ◌≤◌, ⊎_elim, get_or, take, List, [], map, length, Some, None, refl, ap, sym, ◌∙◌, arith}
use Rattle.std.specs.Prelude.{unwrap_or}
use Rattle.std.specs.Option.{option_map}
use Rattle.std.specs.List.{range_with_len}
use Rattle.std.proofs.lemmas.Bool.{cases_lt}
use Rattle.std.proofs.lemmas.List.{get_or_past}
use Rattle.std.proofs.lemmas.List.FromFn.{get_or-map-range_with_len, length-map-range_with_len}
use Rattle.file_tables.specs.Bytes.{range_of}
use Rattle.file_tables.specs.Streams as streams
use Rattle.file_tables.specs.Tables as tables
use Rattle.file_tables.specs.Metadata as metadata
use Rattle.cil_tables.specs.Place.{place_of}
use Rattle.cil_tables.specs.Layout.{IsPlaced}
use Rattle.cil_tables.specs.declared.layout.Rows.{Rows}
use Rattle.cil_tables.specs.declared.root.Stream.{Stream}

pub no_heap : (region name : List ℕ) → None ≡ option_map place_of (streams.stream_named region name) → streams.heap_named region name ≡ []
unfolding streams.heap_named
no_heap region name e =
    elim (streams.stream_named region name) as (λ o. None ≡ option_map place_of o → unwrap_or (option_map (λ (s : streams.Stream). range_of region s.offset s.size) o) [] ≡ []) [
      | None ↦ λ h. refl
      | Some x ↦ λ h. absurd cc
    ] e

pub heap_is : (region name : List ℕ) (s : Stream) → Some s ≡ option_map place_of (streams.stream_named region name) → range_of region s.offset s.size ≡ streams.heap_named region name
unfolding streams.heap_named
heap_is region name s e =
    elim (streams.stream_named region name) as (λ o. Some s ≡ option_map place_of o → range_of region s.offset s.size ≡ unwrap_or (option_map (λ (x : streams.Stream). range_of region x.offset x.size) o) []) [
      | None ↦ λ h. absurd cc
      | Some x ↦ λ h. let same : s ≡ place_of x = cc in rw same refl
    ] e

rows_are : (region : List ℕ) (table : ℕ) → table < 64 → metadata.rows_of (metadata.metadata_part region) table ≡ tables.rows_at region (metadata.shape_of region) (metadata.first_row region) table
unfolding metadata.metadata_part
rows_are region table below = get_or-map-range_with_len (tables.rows_at region (metadata.shape_of region) (metadata.first_row region)) 0 64 table table [] below (omega arith)

counted : (region : List ℕ) (table : ℕ) → table < 64 → metadata.row_count (metadata.metadata_part region) table ≡ tables.count_of (metadata.shape_of region) table
unfolding tables.rows_at
counted region table below = ap length (rows_are region table below) ∙ length-map-range_with_len (tables.row_at region (metadata.shape_of region) (metadata.first_row region) table) 0 (tables.count_of (metadata.shape_of region) table)

-- a number from 64 on is no table's
none_past : (region : List ℕ) (table : ℕ) → 64 ≤ table → metadata.row_count (metadata.metadata_part region) table ≡ tables.count_of (metadata.shape_of region) table
unfolding metadata.metadata_part metadata.shape_of
none_past region table past =
    ap length (get_or_past (map (tables.rows_at region (metadata.shape_of region) (metadata.first_row region)) (range_with_len 0 64)) table [] past)
    ∙ sym (get_or_past (map (metadata.count_in region) (range_with_len 0 64)) table 0 past)

pub count_is : (region : List ℕ) (table : ℕ) → metadata.row_count (metadata.metadata_part region) table ≡ tables.count_of (metadata.shape_of region) table
count_is region table =
    ⊎_elim (λ (below : table < 64). counted region table below) (λ (past : 64 ≤ table). none_past region table past) (cases_lt table 64)

-- a table with rows has a number below 64
pub table_small : (region : List ℕ) (table n : ℕ) → 1 ≤ n → n ≤ metadata.row_count (metadata.metadata_part region) table → table < 64
unfolding metadata.metadata_part
table_small region table n first last =
    ⊎_elim (λ (below : table < 64). below)
    (λ (past : 64 ≤ table).
    let none : metadata.row_count (metadata.metadata_part region) table ≡ 0 =
    ap length (get_or_past (map (tables.rows_at region (metadata.shape_of region) (metadata.first_row region)) (range_with_len 0 64)) table [] past) in
    absurd (omega (arith, none)))
    (cases_lt table 64)

pub row_is : (region : List ℕ) (table n : ℕ) → table < 64 → 1 ≤ n → n ≤ tables.count_of (metadata.shape_of region) table → metadata.row_of (metadata.metadata_part region) table n ≡ tables.row_at region (metadata.shape_of region) (metadata.first_row region) table (n - 1)
unfolding tables.rows_at
row_is region table zero below first last = absurd (omega arith)
row_is region table (suc k) below first last =
    let same : suc k - 1 ≡ k = omega arith in
    rw (same, rows_are region table below)
    (get_or-map-range_with_len (tables.row_at region (metadata.shape_of region) (metadata.first_row region) table) 0 (tables.count_of (metadata.shape_of region) table) k k [] (omega arith) (omega arith))

-- the numbers that stand where the layout places a row are the row's columns
pub row_read : (region : List ℕ) (table n k : ℕ) (rows : Rows) → IsPlaced (metadata.shape_of region) (metadata.first_row region) table rows → table < 64 → 1 ≤ n → n ≤ metadata.row_count (metadata.metadata_part region) table → get_or (tables.numbers_at region (rows.start + (n - 1) * rows.widths.row) (take rows.widths.count rows.widths.columns)) k 0 ≡ metadata.column_of (metadata.metadata_part region) table n k
unfolding tables.row_at
row_read region table n k rows placed below first last =
    let counted : n ≤ tables.count_of (metadata.shape_of region) table = rw (← count_is region table) last in
    rw (row_is region table n below first counted, placed.start, placed.row, placed.columns) refl
