-- The headers, streams and tables of a file that is built are the parts that are read from it.
use Rattle.std.proofs.Common.{◌≡◌, ◌≤◌, true, false, cond, List, [], ◌∷◌, ◌++◌, map, length, Some, None, Ok, refl, arith}
use Rattle.std.specs.List.{range_with_len}
use Rattle.cil_layout.specs.declared.rows.TheConstants.{MOST_WEIGHT}
use Rattle.cil_layout.specs.Asked.{Asked, rows_of, weight_of}
use Rattle.cil_layout.specs.Askable.{IsAskable}
use Rattle.cil_layout.specs.Heaps.{strings_heap, texts_heap, blobs_heap}
use Rattle.cil_layout.specs.Numbers.{table_rows}
use Rattle.cil_layout.specs.Layout.{built, metadata, tables_stream}
use Rattle.cil_layout.proofs.Stream.{parts_le}
use Rattle.file_tables.specs.Rules.{Rule, first_broken}
use Rattle.file_tables.specs.Streams.{rules_of_streams, streams_of}
use Rattle.file_tables.specs.Tables.{rows_at}
use Rattle.file_tables.specs.Metadata.{metadata_of, metadata_part, metadata_rules, rules_of_tables, is_tables_header, has_rows, shape_of, first_row}
use Rattle.file_tables.specs.File.{file_of, after_pe, with_metadata}
use Rattle.layout_laws.specs.Parts.{metadata_part_of, parts_of}
use Rattle.layout_laws.proofs.Headers.{pe_read}
use Rattle.layout_laws.proofs.Streams.{StreamsRead, streams_read}

-- the streams of what is asked
pub metadata_streams : (r : Asked) → weight_of r ≤ MOST_WEIGHT → StreamsRead (metadata r) (tables_stream r) (strings_heap r) (texts_heap r) (blobs_heap r)
metadata_streams r light =
    streams_read (tables_stream r) (strings_heap r) (texts_heap r) (blobs_heap r)
    (omega (arith, light, parts_le r (rows_of r) (length (strings_heap r)) (length (blobs_heap r))))

-- behind rules that are kept
append_kept : (xs ys : List Rule) → first_broken xs ≡ None → first_broken (xs ++ ys) ≡ first_broken ys
append_kept [] ys kept = refl
append_kept (x ∷ xs) ys kept =
    elim x.is_kept as (λ b. cond b (first_broken xs) (Some x.fault) ≡ None → cond b (first_broken (xs ++ ys)) (Some x.fault) ≡ first_broken ys) [
      | true ↦ λ rest. append_kept xs ys rest
      | false ↦ λ broken. absurd cc
    ] kept

-- the tables and heaps are those that were asked for
part_is : (r : Asked) → weight_of r ≤ MOST_WEIGHT
    → map (rows_at (metadata r) (shape_of (metadata r)) (first_row (metadata r))) (range_with_len 0 64) ≡ map (table_rows r.name r.version r.rows) (range_with_len 0 64)
    → metadata_part (metadata r) ≡ metadata_part_of r
unfolding metadata_part
part_is r light read =
    let s : StreamsRead (metadata r) (tables_stream r) (strings_heap r) (texts_heap r) (blobs_heap r) = metadata_streams r light in
    rw (read, s.strings_are, s.guids_are, s.blobs_are, s.texts_are) refl

-- and the metadata breaks no rule where the tables don't
metadata_read : (r : Asked) → weight_of r ≤ MOST_WEIGHT → is_tables_header (metadata r) ≡ true → has_rows (metadata r) ≡ true
    → metadata_part (metadata r) ≡ metadata_part_of r → first_broken (rules_of_tables (metadata_part_of r)) ≡ None
    → metadata_of (metadata r) ≡ Ok (metadata_part_of r)
unfolding metadata_of metadata_rules
metadata_read r light header rows same kept =
    let s : StreamsRead (metadata r) (tables_stream r) (strings_heap r) (texts_heap r) (blobs_heap r) = metadata_streams r light in
    rw (s.root, append_kept (rules_of_streams (metadata r) [] (streams_of (metadata r))) _ s.kept, s.has, header, rows, same, kept) refl

-- what is read from the file, where the tables are read
pub whole_read : (r : Asked) → IsAskable r → is_tables_header (metadata r) ≡ true → has_rows (metadata r) ≡ true
    → map (rows_at (metadata r) (shape_of (metadata r)) (first_row (metadata r))) (range_with_len 0 64) ≡ map (table_rows r.name r.version r.rows) (range_with_len 0 64)
    → first_broken (rules_of_tables (metadata_part_of r)) ≡ None
    → file_of (built r) ≡ Ok (parts_of r)
unfolding file_of after_pe with_metadata
whole_read r askable header rows read kept =
    rw (pe_read r askable.light askable.entry, metadata_read r askable.light header rows (part_is r askable.light read) kept) refl
