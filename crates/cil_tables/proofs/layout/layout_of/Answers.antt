use Rattle.std.proofs.Common.{◌≡◌, ◌+◌, true, false, Some, ap, sym, ◌∙◌}
use Rattle.std.proofs.lemmas.Bool.{le-leb, lt-leb}
use Rattle.file_tables.specs.Metadata as metadata
use Rattle.cil_tables.proofs.LayoutLaws.{ReadAt, shape_is, first_is, header_is, rows_test, broken_header, broken_rows, kept_layout}
use Rattle.cil_tables.proofs.layout.layout_of.Goals as goal

pub returns-then-not-keeps_header-clause-broken : goal.returns-then-not-keeps_header-clause-broken
returns-then-not-keeps_header-clause-broken c =
    let read : ReadAt c.args.region.now c.args.stream.offset c.eight-valid.result c.byte-heap_sizes.result c.read_counts-first.result.first c.read_counts-first.result.counts =
    record { begin_is = c.requires.tables.begin; valid_is = c.eight-valid.ensures; heap_sizes_is = c.byte-heap_sizes.ensures; counts_are = c.read_counts-first.ensures.counts; first_is = c.read_counts-first.ensures.first } in
    let header : metadata.is_tables_header c.args.region.now ≡ false = header_is c.args.region.now _ _ _ _ _ (c.args.stream.offset + c.args.stream.size) read c.requires.tables.end ∙ sym c.keeps_header.ensures ∙ c.if-not-keeps_header.true in
    broken_header c.args.region.now c.args.stream c.requires.tables header ∙ ap Some (sym c.broken.ensures)

pub returns-then-places-end-clause-broken : goal.returns-then-places-end-clause-broken
returns-then-places-end-clause-broken c =
    let read : ReadAt c.args.region.now c.args.stream.offset c.eight-valid.result c.byte-heap_sizes.result c.read_counts-first.result.first c.read_counts-first.result.counts =
    record { begin_is = c.requires.tables.begin; valid_is = c.eight-valid.ensures; heap_sizes_is = c.byte-heap_sizes.ensures; counts_are = c.read_counts-first.ensures.counts; first_is = c.read_counts-first.ensures.first } in
    let header : metadata.is_tables_header c.args.region.now ≡ true = header_is c.args.region.now _ _ _ _ _ (c.args.stream.offset + c.args.stream.size) read c.requires.tables.end ∙ sym c.keeps_header.ensures ∙ c.if-not-keeps_header.false in
    let rows : metadata.has_rows c.args.region.now ≡ false =
    rows_test c.args.region.now c.read_counts-first.result.first 0 _ (shape_is c.args.region.now _ _ _ _ _ read) (first_is c.args.region.now _ _ _ _ _ read)
    ∙ rw (← c.place_rows-places.ensures.end, c.requires.tables.end) (lt-leb c.place_rows-places.result.end (c.args.stream.offset + c.args.stream.size) c.if-places-end.true) in
    broken_rows c.args.region.now c.args.stream c.requires.tables header rows ∙ ap Some (sym c.broken-then-places-end.ensures)

pub returns-clause-kept : goal.returns-clause-kept
returns-clause-kept c =
    let read : ReadAt c.args.region.now c.args.stream.offset c.eight-valid.result c.byte-heap_sizes.result c.read_counts-first.result.first c.read_counts-first.result.counts =
    record { begin_is = c.requires.tables.begin; valid_is = c.eight-valid.ensures; heap_sizes_is = c.byte-heap_sizes.ensures; counts_are = c.read_counts-first.ensures.counts; first_is = c.read_counts-first.ensures.first } in
    let header : metadata.is_tables_header c.args.region.now ≡ true = header_is c.args.region.now _ _ _ _ _ (c.args.stream.offset + c.args.stream.size) read c.requires.tables.end ∙ sym c.keeps_header.ensures ∙ c.if-not-keeps_header.false in
    let rows : metadata.has_rows c.args.region.now ≡ true =
    rows_test c.args.region.now c.read_counts-first.result.first 0 _ (shape_is c.args.region.now _ _ _ _ _ read) (first_is c.args.region.now _ _ _ _ _ read)
    ∙ rw (← c.place_rows-places.ensures.end, c.requires.tables.end) (le-leb c.place_rows-places.result.end (c.args.stream.offset + c.args.stream.size) c.if-places-end.false) in
    kept_layout c.args.region.now c.args.stream c.requires.tables header rows

pub returns-clause-layout : goal.returns-clause-layout
returns-clause-layout c =
    let read : ReadAt c.args.region.now c.args.stream.offset c.eight-valid.result c.byte-heap_sizes.result c.read_counts-first.result.first c.read_counts-first.result.counts =
    record { begin_is = c.requires.tables.begin; valid_is = c.eight-valid.ensures; heap_sizes_is = c.byte-heap_sizes.ensures; counts_are = c.read_counts-first.ensures.counts; first_is = c.read_counts-first.ensures.first } in
    let shape = shape_is c.args.region.now _ _ _ _ _ read in
    let first = first_is c.args.region.now _ _ _ _ _ read in
    record {
      shape = shape;
      tables = λ table below other. rw (← shape, ← first) (c.place_rows-places.ensures.tables table below other);
    }
