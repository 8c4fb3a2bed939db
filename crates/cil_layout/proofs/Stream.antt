-- The stream of the tables, and the bytes of the whole file.
use Rattle.std.proofs.Common.{◌≡◌, ℕ, ◌+◌, ◌*◌, ◌<◌, ◌≤◌, List, [], ◌∷◌, ◌++◌, length, get_or, sum_by, Bool, true, false, ltb, ltb-true, ap, ◌∙◌, refl, arith, length-append}
use Rattle.std.specs.List.{flat_map, list_all}
use Rattle.std.proofs.lemmas.List.Concat.{length-flat_map}
use Rattle.cil_layout.specs.declared.rows.Row.{Row}
use Rattle.cil_layout.specs.declared.rows.TheConstants.{TABLES}
use Rattle.cil_layout.specs.declared.places.Widths.{Widths}
use Rattle.cil_layout.specs.declared.fixed.TheConstants.{MODULE_TYPE, TABLES_HEADER, VALID_TABLES, MODULE_GUID}
use Rattle.cil_layout.specs.Asked.{Asked, rows_of, weight_of, row_weight, count_in, fixed_count}
use Rattle.cil_layout.specs.Heaps.{padded, name_entry, strings_of, blobs_of, texts_of, content_of, strings_heap, blobs_heap, texts_heap, content}
use Rattle.cil_layout.specs.Numbers.{table_rows, fixed_rows, rows_from, first_places}
use Rattle.cil_layout.specs.Layout.{root, metadata, metadata_by, file_by, built, four, width, widths_by, column_widths, all_spelled, stream_by, heap_sizes, tables_stream}
use Rattle.cil_layout.specs.Counted.{IsCounted}
use Rattle.file_tables.specs.Schema.{columns_of}
use Rattle.cil_layout.proofs.Below.{and_left, and_right}
use Rattle.cil_layout.proofs.Sizes.{no_fixed, tables_of, sums, tables_sum, rows_le, length-rows_from, length-padded, name_le}

-- counts that are equal for each table give equal streams
same_counts : (count other : ℕ → ℕ) → ((table : ℕ) → table < 64 → count table ≡ other table) → (tables : List ℕ) → list_all (λ t. ltb t 64) tables ≡ true
    → flat_map (λ t. four (count t)) tables ≡ flat_map (λ t. four (other t)) tables
same_counts count other same [] all = refl
same_counts count other same (t ∷ ts) all =
    ap (λ n. four n ++ flat_map (λ u. four (count u)) ts) (same t (ltb-true t 64 (and_left (ltb t 64) (list_all (λ u. ltb u 64) ts) all)))
    ∙ ap (λ ys. four (other t) ++ ys) (same_counts count other same ts (and_right (ltb t 64) (list_all (λ u. ltb u 64) ts) all))

same_widths : (count other : ℕ → ℕ) → ((table : ℕ) → table < 64 → count table ≡ other table) → (strings blobs : ℕ) → widths_by count strings blobs ≡ widths_by other strings blobs
same_widths count other same strings blobs = rw (same 2 (omega arith), same 1 (omega arith), same 27 (omega arith), same 6 (omega arith), same 35 (omega arith)) refl

pub stream_same : (count other : ℕ → ℕ) (strings blobs : ℕ) (name version : List ℕ) (rows : List Row) → ((table : ℕ) → table < 64 → count table ≡ other table)
    → stream_by count strings blobs name version rows ≡ stream_by other strings blobs name version rows
unfolding stream_by
stream_same count other strings blobs name version rows same =
    ap (λ ys. padded (TABLES_HEADER ++ heap_sizes strings blobs ∷ VALID_TABLES ++ ys ++ flat_map (all_spelled (widths_by count strings blobs) name version rows) TABLES)) (same_counts count other same TABLES refl)
    ∙ ap (λ w. padded (TABLES_HEADER ++ heap_sizes strings blobs ∷ VALID_TABLES ++ flat_map (λ t. four (other t)) TABLES ++ flat_map (all_spelled w name version rows) TABLES)) (same_widths count other same strings blobs)

-- no width is more than 4
record Narrow (w : Widths) : Type 0 where
  pub strings : w.strings ≤ 4
  pub blobs : w.blobs ≤ 4
  pub types : w.types ≤ 4
  pub parents : w.parents ≤ 4
  pub scopes : w.scopes ≤ 4

width_le : (wide : Bool) → width wide ≤ 4
width_le true = omega arith
width_le false = omega arith

narrow : (count : ℕ → ℕ) (strings blobs : ℕ) → Narrow (widths_by count strings blobs)
narrow count strings blobs = record { strings = width_le _; blobs = width_le _; types = width_le _; parents = width_le _; scopes = width_le _ }

-- the rows of a table take at most 32 bytes each
table_le : (w : Widths) (name version : List ℕ) (rows : List Row) (table : ℕ) → sum_by (λ n. n) (column_widths w table) ≤ 32 → length (fixed_rows name version table) ≡ fixed_count table
    → length (all_spelled w name version rows table) ≤ 32 * (fixed_count table + sum_by (count_in table) rows)
unfolding all_spelled
table_le w name version rows table fits fixed =
    omega (
      arith,
      rows_le (column_widths w table) (table_rows name version rows table) fits,
      length-append (fixed_rows name version table) (rows_from table (first_places name) rows),
      length-rows_from table (first_places name) rows,
      fixed,
    )

tables_le : (w : Widths) (name version : List ℕ) (rows : List Row) → Narrow w → length (flat_map (all_spelled w name version rows) TABLES) ≤ 96 + 32 * sum_by tables_of rows
unfolding columns_of
tables_le w name version rows n =
    let s : w.strings ≤ 4 = n.strings in let b : w.blobs ≤ 4 = n.blobs in let t : w.types ≤ 4 = n.types in let p : w.parents ≤ 4 = n.parents in let c : w.scopes ≤ 4 = n.scopes in
    omega (
      arith,
      length-flat_map (all_spelled w name version rows) TABLES,
      tables_sum rows,
      (no_fixed rows).0,
      (no_fixed rows).1,
      table_le w name version rows 0 (omega arith) refl,
      table_le w name version rows 1 (omega arith) refl,
      table_le w name version rows 2 (omega arith) refl,
      table_le w name version rows 4 (omega arith) refl,
      table_le w name version rows 6 (omega arith) refl,
      table_le w name version rows 9 (omega arith) refl,
      table_le w name version rows 10 (omega arith) refl,
      table_le w name version rows 15 (omega arith) refl,
      table_le w name version rows 17 (omega arith) refl,
      table_le w name version rows 27 (omega arith) refl,
      table_le w name version rows 29 (omega arith) refl,
      table_le w name version rows 32 (omega arith) refl,
      table_le w name version rows 35 (omega arith) refl,
      table_le w name version rows 41 (omega arith) refl,
    )

counts_length : (count : ℕ → ℕ) → length (flat_map (λ t. four (count t)) TABLES) ≡ 56
counts_length count = refl

pub stream_le : (count : ℕ → ℕ) (strings blobs : ℕ) (name version : List ℕ) (rows : List Row) → length (stream_by count strings blobs name version rows) ≤ 180 + 32 * sum_by tables_of rows
unfolding stream_by
stream_le count strings blobs name version rows =
    omega (
      arith,
      length-padded (TABLES_HEADER ++ heap_sizes strings blobs ∷ VALID_TABLES ++ flat_map (λ t. four (count t)) TABLES ++ flat_map (all_spelled (widths_by count strings blobs) name version rows) TABLES),
      length-append (flat_map (λ t. four (count t)) TABLES) (flat_map (all_spelled (widths_by count strings blobs) name version rows) TABLES),
      counts_length count,
      tables_le (widths_by count strings blobs) name version rows (narrow count strings blobs),
    )

-- the parts of the file are no more than the weight
pub parts_le : (r : Asked) (count : ℕ → ℕ) (strings blobs : ℕ)
    → length (stream_by count strings blobs r.name r.version r.rows) + length (strings_heap r) + length (texts_heap r) + length (blobs_heap r) + length (content r) + 3000 ≤ weight_of r
unfolding strings_heap blobs_heap texts_heap content weight_of
parts_le r count strings blobs =
    omega (
      arith,
      stream_le count strings blobs r.name r.version r.rows,
      (sums r.rows).fits,
      name_le r.name,
      length-padded (0 ∷ MODULE_TYPE ++ name_entry r.name ++ flat_map strings_of r.rows),
      length-padded (0 ∷ flat_map blobs_of r.rows),
      length-padded (0 ∷ flat_map texts_of r.rows),
      length-append (name_entry r.name) (flat_map strings_of r.rows),
    )

pub row_weights : (r : Asked) → weight_of r ≤ 4194304 → 96 + length r.name + sum_by row_weight r.rows ≤ 4194304
unfolding weight_of
row_weights r light = omega (arith, light)

-- the parts are small
pub sizes_fit : (r : Asked) (count : ℕ → ℕ) (s b : ℕ) (tables strings texts blobs bodies : List ℕ) → weight_of r ≤ 4194304
    → tables ≡ stream_by count s b r.name r.version r.rows
    → strings ≡ padded (0 ∷ MODULE_TYPE ++ name_entry r.name ++ flat_map strings_of r.rows)
    → texts ≡ padded (0 ∷ flat_map texts_of r.rows)
    → blobs ≡ padded (0 ∷ flat_map blobs_of r.rows)
    → bodies ≡ flat_map content_of r.rows
    → length tables + length strings + length texts + length blobs + length bodies + 3000 ≤ 4194304
unfolding strings_heap blobs_heap texts_heap content
sizes_fit r count s b tables strings texts blobs bodies light t ss tt bb dd =
    omega (arith, light, parts_le r count s b, ap length t, ap length ss, ap length tt, ap length bb, ap length dd)

pub length-root : (tables strings texts blobs : ℕ) → length (root tables strings texts blobs) ≡ 108
unfolding root
length-root tables strings texts blobs = refl

pub length-metadata_by : (tables strings texts blobs : List ℕ) → length (metadata_by tables strings texts blobs) ≡ 124 + length tables + length strings + length texts + length blobs
unfolding metadata_by
length-metadata_by tables strings texts blobs =
    let m : List ℕ = root (length tables) (length strings) (length texts) (length blobs) in
    omega (
      arith,
      length-root (length tables) (length strings) (length texts) (length blobs),
      length-append m tables,
      length-append (m ++ tables) strings,
      length-append (m ++ tables ++ strings) texts,
      length-append (m ++ tables ++ strings ++ texts) MODULE_GUID,
      length-append (m ++ tables ++ strings ++ texts ++ MODULE_GUID) blobs,
    )

-- the parts joined are the file
pub whole : (r : Asked) (counts : List ℕ) (weight place : ℕ) (tables strings texts blobs bodies meta file : List ℕ)
    → IsCounted r counts weight place
    → tables ≡ stream_by (λ t. get_or counts t 0) (length strings) (length blobs) r.name r.version r.rows
    → strings ≡ padded (0 ∷ MODULE_TYPE ++ name_entry r.name ++ flat_map strings_of r.rows)
    → texts ≡ padded (0 ∷ flat_map texts_of r.rows)
    → blobs ≡ padded (0 ∷ flat_map blobs_of r.rows)
    → bodies ≡ flat_map content_of r.rows
    → meta ≡ metadata_by tables strings texts blobs
    → file ≡ file_by meta bodies r.entry
    → file ≡ built r
unfolding built strings_heap texts_heap blobs_heap content
whole r counts weight place tables strings texts blobs bodies meta file counted t ss tt bb dd mm ff =
    let count : ℕ → ℕ = λ k. get_or counts k 0 in
    let st : strings ≡ strings_heap r = ss in
    let tx : texts ≡ texts_heap r = tt in
    let bl : blobs ≡ blobs_heap r = bb in
    let dt : bodies ≡ content r = dd in
    let ta : tables ≡ tables_stream r =
    t ∙ ap (λ (xs : List ℕ). stream_by count (length xs) (length blobs) r.name r.version r.rows) st
    ∙ ap (λ (xs : List ℕ). stream_by count (length (strings_heap r)) (length xs) r.name r.version r.rows) bl
    ∙ stream_same count (rows_of r) (length (strings_heap r)) (length (blobs_heap r)) r.name r.version r.rows counted.counts_are in
    let me : meta ≡ metadata r =
    mm ∙ ap (λ (x : List ℕ). metadata_by x strings texts blobs) ta ∙ ap (λ (x : List ℕ). metadata_by (tables_stream r) x texts blobs) st
    ∙ ap (λ (x : List ℕ). metadata_by (tables_stream r) (strings_heap r) x blobs) tx ∙ ap (λ (x : List ℕ). metadata_by (tables_stream r) (strings_heap r) (texts_heap r) x) bl in
    ff ∙ ap (λ (x : List ℕ). file_by x bodies r.entry) me ∙ ap (λ (x : List ℕ). file_by (metadata r) x r.entry) dt
