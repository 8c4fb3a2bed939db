-- What the fields of a cursor hold.
use Rattle.std.specs.Prelude.{◌≡◌, ◌+◌, ◌*◌, ◌≤◌, length}
use Rattle.file_tables.specs.Pe.{section_headers, section_count}
use Rattle.pe_reader.specs.Seen.{sections_from}
use Rattle.pe_reader.specs.Spans.{IsSpan}
use Rattle.pe_reader.specs.declared.cursor.SectionCursor.TheInside.{Inside}

pub record IsCursor (p : Inside) : Type 0 where
  pub sections : p.sections ≡ section_headers p.file.now
  pub count : p.count ≡ section_count p.file.now
  pub headers_fit : p.sections + 40 * p.count ≤ length p.file.now
  pub span : IsSpan (length p.file.now) (sections_from p.file.now p.sections p.count) p.span
