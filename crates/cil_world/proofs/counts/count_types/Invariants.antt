use Rattle.std.proofs.Common.{◌≡◌, ◌≤◌, ◌*◌, ◌^◌, map, take}
use Rattle.world_rows.specs.Rows.{alone}
use Rattle.world_rows.specs.World.{size_of}
use Rattle.cil_world.proofs.counts.count_types.Given as goal

abbrev pub invariant-loop-file : goal.invariant-loop-file
invariant-loop-file l = record { size : l.size ≡ size_of (map alone (take l.file l.names)); few : l.size ≤ l.file * (3 * 2 ^ 32) }
