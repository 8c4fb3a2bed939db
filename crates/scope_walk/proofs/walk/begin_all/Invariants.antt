use Rattle.std.proofs.Common.{◌≡◌, length, map}
use Rattle.scope_walk.specs.Walk.{IsStarted, AreNested}
use Rattle.scope_walk.proofs.walk.begin_all.Given as goal

abbrev pub invariant-loop-n : goal.invariant-loop-n
invariant-loop-n g l = record {
  size : length l.walk.resolved.items ≡ length l.initial.walk.resolved.items;
  sizes : length l.nested.items ≡ length l.initial.nested.items;
  started : IsStarted (g.R.References.rows l.references) l.file l.walk.resolved.items l.walk.found.items l.n;
  inside : AreNested (g.R.References.rows l.references) l.file (map (λ rows. rows.items) l.nested.items) l.n;
}
