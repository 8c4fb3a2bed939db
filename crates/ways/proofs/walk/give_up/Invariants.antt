use Rattle.std.proofs.Common.{◌≡◌, length, take}
use Rattle.std.specs.Prelude.{count_by}
use Rattle.ways.specs.Walk.{is_unknown, AreEnded}
use Rattle.ways.proofs.walk.give_up.Given as goal

abbrev pub invariant-loop-place : goal.invariant-loop-place
invariant-loop-place l = record {
  size : length l.marks ≡ length l.initial.marks;
  ended : AreEnded (take l.place-index l.path) l.initial.marks l.marks;
  count : count_by is_unknown l.marks ≡ count_by is_unknown l.initial.marks;
}
