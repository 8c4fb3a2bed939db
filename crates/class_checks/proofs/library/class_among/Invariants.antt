use Rattle.std.proofs.Common.{◌≡◌, ℕ, ◌<◌, false}
use Rattle.classes.specs.Queries.{has_name}
use Rattle.assemblies.specs.Binding.{id_at}
use Rattle.class_table.specs.Seen.{classes_seen}
use Rattle.class_checks.proofs.library.class_among.Given as goal

abbrev pub invariant-loop-row : goal.invariant-loop-row
invariant-loop-row l = (k : ℕ) → k < l.row → has_name (classes_seen l.table) l.name (id_at l.file k) ≡ false
