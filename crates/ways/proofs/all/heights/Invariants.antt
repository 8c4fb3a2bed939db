use Rattle.std.proofs.Common.{◌≡◌, map, take}
use Rattle.ways.specs.Walk.{height_of}
use Rattle.ways.proofs.all.heights.Given as goal

abbrev pub invariant-loop-mark : goal.invariant-loop-mark
invariant-loop-mark g l = record {
  told : l.heights.items ≡ map height_of (take l.mark-index l.mark-items);
}
