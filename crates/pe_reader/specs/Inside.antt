-- What the fields of a PE part hold.
use Rattle.std.specs.Prelude.{◌≡◌, ◌+◌, ◌*◌, ◌^◌, ◌<◌, ◌≤◌, length}
use Rattle.file_tables.specs.Pe.{pe_part, section_headers, section_count}
use Rattle.pe_reader.specs.declared.pe.Pe.TheInside.{Inside}

pub record IsPart (p : Inside) : Type 0 where
  pub sections : p.sections ≡ section_headers p.file.now
  pub count : p.count ≡ section_count p.file.now
  pub entry : p.entry ≡ (pe_part p.file.now).entry
  pub region : p.region.now ≡ (pe_part p.file.now).region
  pub headers_fit : p.sections + 40 * p.count ≤ length p.file.now
  pub small : length p.region.now < 2 ^ 32
