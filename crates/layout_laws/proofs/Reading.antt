-- The law of what is built and what is read, of its parts.
use Rattle.cil_layout.specs.Layout.{metadata, tables_stream}
use Rattle.cil_layout.specs.Heaps.{strings_heap, texts_heap, blobs_heap}
use Rattle.layout_laws.specs.ReadBack.{BuiltIsRead}
use Rattle.layout_laws.proofs.Headers.{content_read, tail_read}
use Rattle.layout_laws.proofs.Streams.{StreamsRead}
use Rattle.layout_laws.proofs.Whole.{metadata_streams, whole_read}
use Rattle.layout_laws.proofs.Rows.{IsTablesRead, tables_read}
use Rattle.layout_laws.proofs.Meanings.{rows_kept, read_back}

pub built_is_read : BuiltIsRead
built_is_read r askable =
    let s : StreamsRead (metadata r) (tables_stream r) (strings_heap r) (texts_heap r) (blobs_heap r) = metadata_streams r askable.light in
    let t : IsTablesRead r = tables_read r askable s.begins s.ends in
    (whole_read r askable t.header t.inside t.rows (rows_kept r askable), read_back r askable (content_read r askable.light) (tail_read r askable.light))
