use Rattle.std.proofs.Common.{◌≡◌, ℕ, ◌+◌, ◌*◌, ◌<◌, ◌≤◌, length, false}
use Rattle.file_tables.specs.Pe.{section_at, holds}
use Rattle.pe_reader.proofs.span.span_around.Given as goal

-- no section so far holds an RVA from the one to the other
abbrev pub invariant-loop-k : goal.invariant-loop-k
invariant-loop-k l = record {
  from : l.from ≤ l.rva;
  end : l.rva < l.end;
  none : (k : ℕ) → k < l.k → (r : ℕ) → l.from ≤ r → r < l.end → holds (length l.file) r 1 (section_at l.file (l.headers + 40 * k)) ≡ false;
}
