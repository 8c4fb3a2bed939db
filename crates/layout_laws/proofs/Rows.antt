-- The stream `#~` is read as the rows that are asked for.
use Rattle.std.proofs.Common.{◌≡◌, ℕ, zero, suc, ◌+◌, ◌*◌, ◌<◌, ◌≤◌, Bool, true, false, cond, List, [], ◌∷◌, ◌++◌, length, get_or, map, refl, ap, sym, ◌∙◌, subst, arith, length-append}
use Rattle.std.specs.List.{All, AllZip, flat_map, list_all, filter, range_with_len}
use Rattle.std.proofs.lemmas.Bool.{le-leb}
use Rattle.std.proofs.lemmas.List.{append_assoc}
use Rattle.std.proofs.lemmas.List.Elements.{All-nil}
use Rattle.cil_layout.specs.declared.rows.TheConstants.{TABLES}
use Rattle.cil_layout.specs.Asked.{Asked, one_if, rows_of}
use Rattle.cil_layout.specs.Askable.{IsAskable}
use Rattle.cil_layout.specs.Heaps.{strings_heap, blobs_heap, texts_heap}
use Rattle.cil_layout.specs.Numbers.{table_rows}
use Rattle.cil_layout.specs.Layout.{root, metadata, metadata_by, tables_stream, stream_by, spelled, all_spelled, widths, heap_sizes, is_long, column_widths}
use Rattle.cil_layout.specs.declared.fixed.TheConstants.{MODULE_GUID}
use Rattle.cil_layout.proofs.Stream.{length-root}
use Rattle.file_tables.specs.Bytes.{has_bit}
use Rattle.file_tables.specs.Tables.{widths_of, rows_at}
use Rattle.file_tables.specs.Metadata.{tables_begin, tables_end, first_row, shape_of, rows_end, is_tables_header, has_rows, valid_bits, is_known_table}
use Rattle.layout_laws.proofs.RowsNumbers.{FitsIn}
use Rattle.layout_laws.proofs.RowsHeader as header
use Rattle.layout_laws.proofs.RowsHeader.{valid, HasStream}
use Rattle.layout_laws.proofs.RowsTables.{HasTables, block, blocks_size, rows_read}
use Rattle.layout_laws.proofs.RowsWidths.{IsShape, widths_are}
use Rattle.layout_laws.proofs.RowsFit.{module_rows}
use Rattle.layout_laws.proofs.RowsAsked.{table_fits}
use Rattle.layout_laws.proofs.RowsNone.{rows_counted, none_counted, none_made}

-- the heaps' widths in one byte, and the rows as bytes
abbrev heaps : Asked → ℕ
heaps r = heap_sizes (length (strings_heap r)) (length (blobs_heap r))

abbrev row_bytes : Asked → List ℕ
row_bytes r = flat_map (all_spelled (widths r) r.name r.version r.rows) TABLES

abbrev before : Asked → List ℕ
before r = root (length (tables_stream r)) (length (strings_heap r)) (length (texts_heap r)) (length (blobs_heap r))

stream_parts : (r : Asked) → (padding : List ℕ) × (tables_stream r ≡ header.head (heaps r) ++ (header.counts_of (rows_of r) TABLES ++ (row_bytes r ++ padding)))
unfolding stream_by widths
stream_parts r = (_, refl)

-- header, counts and rows are inside the stream
stream_length : (r : Asked) → 80 + length (row_bytes r) ≤ length (tables_stream r)
stream_length r = omega (arith, ap length (stream_parts r).1, length-append (row_bytes r) (stream_parts r).0)

regroup : (a stream b c d e head counts rows padding : List ℕ) → stream ≡ head ++ (counts ++ (rows ++ padding)) → a ++ stream ++ b ++ c ++ d ++ e ≡ a ++ (head ++ (counts ++ (rows ++ (padding ++ b ++ c ++ d ++ e))))
regroup a stream b c d e head counts rows padding same = rw same (simp append_assoc)

has_stream : (r : Asked) → IsAskable r → tables_begin (metadata r) ≡ 108 → (behind : List ℕ) × HasStream (metadata r) (before r) (heaps r) (rows_of r) (row_bytes r) behind
unfolding metadata_by
has_stream r askable begin = (
  _,
  record {
    is = regroup (before r) (tables_stream r) (strings_heap r) (texts_heap r) MODULE_GUID (blobs_heap r) (header.head (heaps r)) (header.counts_of (rows_of r) TABLES) (row_bytes r) (stream_parts r).0 (stream_parts r).1;
    start = length-root (length (tables_stream r)) (length (strings_heap r)) (length (texts_heap r)) (length (blobs_heap r));
    begin = begin;
    few = λ table below. omega (arith, askable.few table below);
    none = none_counted r;
  },
)

-- tables that are kept, where the others have no bytes
kept : (test : ℕ → Bool) (f g : ℕ → List ℕ) (s n : ℕ) → s + n ≤ 64 → ((t : ℕ) → t < 64 → test t ≡ true → f t ≡ g t) → ((t : ℕ) → t < 64 → test t ≡ false → f t ≡ [])
    → flat_map f (range_with_len s n) ≡ flat_map g (filter test (range_with_len s n))
kept test f g s zero le same none = refl
kept test f g s (suc n) le same none =
    let rest : flat_map f (range_with_len (s + 1) n) ≡ flat_map g (filter test (range_with_len (s + 1) n)) = kept test f g (s + 1) n (omega arith) same none in
    elim (test s) as (λ b. test s ≡ b → f s ++ flat_map f (range_with_len (s + 1) n) ≡ flat_map g (cond b (s ∷ filter test (range_with_len (s + 1) n)) (filter test (range_with_len (s + 1) n)))) [
      | true ↦ λ there. rw (same s (omega arith) there, rest) refl
      | false ↦ λ missing. rw (none s (omega arith) missing, rest) refl
    ] refl

heap_sizes_le : (strings blobs : Bool) → one_if strings + 4 * one_if blobs ≤ 7
heap_sizes_le true true = omega arith
heap_sizes_le true false = omega arith
heap_sizes_le false true = omega arith
heap_sizes_le false false = omega arith

-- rule 10 is kept
keeps_header : (region : List ℕ) → tables_begin region + 24 ≤ tables_end region → get_or region (tables_begin region + 6) 0 ≤ 7 → list_all (is_known_table (valid_bits region)) (range_with_len 0 64) ≡ true
    → first_row region ≤ tables_end region → is_tables_header region ≡ true
unfolding is_tables_header
keeps_header region inside sizes known rows = rw (le-leb (tables_begin region + 24) (tables_end region) inside, le-leb (get_or region (tables_begin region + 6) 0) 7 sizes, known, le-leb (first_row region) (tables_end region) rows) refl

join : (a b c d : List ℕ) → a ++ (b ++ (c ++ d)) ≡ (a ++ (b ++ c)) ++ d
join a b c d = simp append_assoc

-- what the reader finds
pub record IsTablesRead (r : Asked) : Type 0 where
  pub header : is_tables_header (metadata r) ≡ true
  pub inside : has_rows (metadata r) ≡ true
  pub rows : map (rows_at (metadata r) (shape_of (metadata r)) (first_row (metadata r))) (range_with_len 0 64) ≡ map (table_rows r.name r.version r.rows) (range_with_len 0 64)

module _ (r : Asked) (askable : IsAskable r) (begin : tables_begin (metadata r) ≡ 108) where
  stream : HasStream (metadata r) (before r) (heaps r) (rows_of r) (row_bytes r) (has_stream r askable begin).0
  stream = (has_stream r askable begin).1

  is_shape : IsShape (shape_of (metadata r)) (rows_of r) (length (strings_heap r)) (length (blobs_heap r))
  unfolding shape_of
  is_shape = record {
    heaps = header.heap_sizes_read (metadata r) (before r) (heaps r) (rows_of r) (row_bytes r) (has_stream r askable begin).0 stream;
    counts = header.shape_counts (metadata r) (before r) (heaps r) (rows_of r) (row_bytes r) (has_stream r askable begin).0 stream;
    few = askable.few;
    none = none_counted r;
    one_module = module_rows r;
  }

  widths_same : (table : ℕ) → table < 64 → has_bit valid table ≡ true → widths_of (shape_of (metadata r)) table ≡ column_widths (widths r) table
  unfolding widths
  widths_same table below there = widths_are (shape_of (metadata r)) (rows_of r) (length (strings_heap r)) (length (blobs_heap r)) is_shape table below there

  fit : (table : ℕ) → table < 64 → All (AllZip FitsIn (widths_of (shape_of (metadata r)) table)) (table_rows r.name r.version r.rows table)
  fit table below = elim (has_bit valid table) as (λ b. has_bit valid table ≡ b → All (AllZip FitsIn (widths_of (shape_of (metadata r)) table)) (table_rows r.name r.version r.rows table)) [
    | true ↦ λ there. subst (λ ws. All (AllZip FitsIn ws) (table_rows r.name r.version r.rows table)) (sym (widths_same table below there)) (table_fits r askable table below there)
    | false ↦ λ missing. subst (λ rows. All (AllZip FitsIn (widths_of (shape_of (metadata r)) table)) rows) (sym (none_made r table below missing)) (All-nil _)
  ] refl

  has_tables : HasTables (shape_of (metadata r)) (table_rows r.name r.version r.rows) 64
  has_tables = record {
    counts = λ table below. is_shape.counts table below ∙ sym (rows_counted r table below);
    fits = fit;
  }

  -- the bytes of all tables, also of those that aren't there
  bytes_same : flat_map (block (shape_of (metadata r)) (table_rows r.name r.version r.rows)) (range_with_len 0 64) ≡ row_bytes r
  unfolding all_spelled
  bytes_same = kept (has_bit valid) (block (shape_of (metadata r)) (table_rows r.name r.version r.rows)) (all_spelled (widths r) r.name r.version r.rows) 0 64 (omega arith)
      (λ table below there. ap (λ ws. flat_map (spelled ws) (table_rows r.name r.version r.rows table)) (widths_same table below there))
      (λ table below missing. ap (λ rows. flat_map (spelled (widths_of (shape_of (metadata r)) table)) rows) (none_made r table below missing))

  first : first_row (metadata r) ≡ 188
  first = header.first_row_read (metadata r) (before r) (heaps r) (rows_of r) (row_bytes r) (has_stream r askable begin).0 stream

  -- the region from its first row on
  from_rows : metadata r ≡ (before r ++ (header.head (heaps r) ++ header.counts_of (rows_of r) TABLES)) ++ (flat_map (block (shape_of (metadata r)) (table_rows r.name r.version r.rows)) (range_with_len 0 64) ++ (has_stream r askable begin).0)
  from_rows =
      stream.is
      ∙ join (before r) (header.head (heaps r)) (header.counts_of (rows_of r) TABLES) (row_bytes r ++ (has_stream r askable begin).0)
      ∙ ap (λ bytes. (before r ++ (header.head (heaps r) ++ header.counts_of (rows_of r) TABLES)) ++ (bytes ++ (has_stream r askable begin).0)) (sym bytes_same)

  start : 188 ≡ length (before r ++ (header.head (heaps r) ++ header.counts_of (rows_of r) TABLES))
  start = omega (arith, stream.start, length-append (before r) (header.head (heaps r) ++ header.counts_of (rows_of r) TABLES))

  rows_end_le : rows_end (metadata r) ≤ 108 + length (tables_stream r)
  unfolding rows_end
  rows_end_le = omega (
    arith,
    first,
    blocks_size (shape_of (metadata r)) (table_rows r.name r.version r.rows) 64 64 has_tables (omega arith),
    ap length bytes_same,
    stream_length r,
  )

  pub tables_read : tables_end (metadata r) ≡ 108 + length (tables_stream r) → IsTablesRead r
  unfolding has_rows
  tables_read end = record {
    header = keeps_header (metadata r)
        (omega (arith, begin, end, stream_length r))
        (omega (arith, header.heap_sizes_read (metadata r) (before r) (heaps r) (rows_of r) (row_bytes r) (has_stream r askable begin).0 stream, heap_sizes_le (is_long (length (strings_heap r))) (is_long (length (blobs_heap r)))))
        (header.known_tables (metadata r) (before r) (heaps r) (rows_of r) (row_bytes r) (has_stream r askable begin).0 stream)
        (omega (arith, first, end, stream_length r));
    inside = le-leb (rows_end (metadata r)) (tables_end (metadata r)) (omega (arith, rows_end_le, end));
    rows = rows_read (shape_of (metadata r)) (table_rows r.name r.version r.rows) 64 (first_row (metadata r)) (metadata r) (before r ++ (header.head (heaps r) ++ header.counts_of (rows_of r) TABLES)) (has_stream r askable begin).0 has_tables from_rows (first ∙ start);
  }
