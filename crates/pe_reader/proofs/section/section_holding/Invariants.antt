use Rattle.std.proofs.Common.{◌≡◌, ℕ, ◌+◌, ◌*◌, ◌<◌, length, false}
use Rattle.file_tables.specs.Pe.{section_at, holds}
use Rattle.pe_reader.proofs.section.section_holding.Given as goal

-- no section so far holds the range
abbrev pub invariant-loop-k : goal.invariant-loop-k
invariant-loop-k l = (k : ℕ) → k < l.k → holds (length l.file) l.rva l.len (section_at l.file (l.headers + 40 * k)) ≡ false
