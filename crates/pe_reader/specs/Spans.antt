-- RVAs that one section is the first to hold.
use Rattle.std.specs.Prelude.{◌≡◌, ℕ, ◌+◌, ◌-◌, ◌<◌, ◌≤◌, List, IfSome}
use Rattle.std.specs.Option.{option_map}
use Rattle.file_tables.specs.Pe as pe
use Rattle.pe_reader.specs.Seen.{seen}
use Rattle.pe_reader.specs.declared.span.Span.{Span}

-- of each RVA of the span, the section is the first that holds it, or none does
pub record IsSpan (file_length : ℕ) (sections : List pe.Section) (span : Span) : Type 0 where
  pub first : (rva : ℕ) → span.from ≤ rva → rva < span.end → pe.section_of file_length sections rva 1 ≡ option_map seen span.section
  pub inside : IfSome span.section (λ s. (s.address ≤ span.from) × (span.end ≤ s.address + s.size) × (s.pointer + (span.end - s.address) ≤ file_length))
