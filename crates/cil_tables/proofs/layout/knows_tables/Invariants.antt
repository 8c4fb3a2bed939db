use Rattle.std.proofs.Common.{◌≡◌, ℕ, ◌<◌, true}
use Rattle.file_tables.specs.Metadata.{is_known_table}
use Rattle.cil_tables.proofs.layout.knows_tables.Given as goal

abbrev pub invariant-loop-t : goal.invariant-loop-t
invariant-loop-t l = (k : ℕ) → k < l.t → is_known_table l.valid k ≡ true
