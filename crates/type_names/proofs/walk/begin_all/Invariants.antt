use Rattle.std.proofs.Common.{◌≡◌, length, map}
use Rattle.type_names.specs.Walk.{IsStarted, AreNested}
use Rattle.type_names.proofs.walk.begin_all.Given as goal

abbrev pub invariant-loop-n : goal.invariant-loop-n
invariant-loop-n l = record {
  size : length l.walk.resolved.items ≡ length l.initial.walk.resolved.items;
  sizes : length l.nested.items ≡ length l.initial.nested.items;
  started : IsStarted l.names l.file l.walk.resolved.items l.walk.found.items l.n;
  inside : AreNested l.names l.file (map (λ rows. rows.items) l.nested.items) l.n;
}
