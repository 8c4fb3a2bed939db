-- What the code's headers are seen as.
use Rattle.std.specs.Prelude.{ℕ, ◌+◌, ◌*◌, List, map}
use Rattle.std.specs.List.{range_with_len}
use Rattle.file_tables.specs.Pe as pe
use Rattle.pe_reader.specs.declared.section.Section.{Section}

abbrev pub seen : Section → pe.Section
seen s = record { address = s.address; size = s.size; pointer = s.pointer }

-- so many sections whose headers begin at an offset
abbrev pub sections_from : List ℕ → ℕ → ℕ → List pe.Section
sections_from file headers count = map (λ k. pe.section_at file (headers + 40 * k)) (range_with_len 0 count)
