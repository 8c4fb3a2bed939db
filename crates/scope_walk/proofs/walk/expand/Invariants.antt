use Rattle.std.proofs.Common.{◌≡◌, ℕ, ◌<◌, length, Some}
use Rattle.std.specs.Prelude.{slice_index}
use Rattle.member_keys.specs.Seen.{class_seen}
use Rattle.scope_walk.specs.Scopes.{inner_of}
use Rattle.scope_walk.specs.Walk.{value_at, IsWalked}
use Rattle.scope_walk.proofs.walk.expand.Given as goal

abbrev pub invariant-loop-n : goal.invariant-loop-n
invariant-loop-n g l = record {
  size : length l.walk.resolved.items ≡ length l.initial.walk.resolved.items;
  low : l.at < length l.walk.found.items;
  place : slice_index l.walk.found.items l.at ≡ l.row;
  walked : IsWalked (g.R.References.rows l.references) l.file l.walk.resolved.items l.walk.found.items l.at;
  outer : value_at l.walk.resolved.items l.row ≡ Some (class_seen l.outer);
  handled : (i : ℕ) → i < l.n-index → value_at l.walk.resolved.items (slice_index l.n-items i) ≡ inner_of (g.R.References.rows l.references) l.file (class_seen l.outer) (slice_index l.n-items i);
}
