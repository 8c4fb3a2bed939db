use Rattle.std.proofs.Common.{◌≡◌, map, take}
use Rattle.classes.specs.Queries.{elements}
use Rattle.world_rows.specs.World.{rows_alone}
use Rattle.class_reading.specs.Base.{basic_seen, basic_of}
use Rattle.class_reading.proofs.base.find_basics.Given as goal

abbrev pub invariant-loop-elem : goal.invariant-loop-elem
invariant-loop-elem l = map basic_seen l.basics.items ≡ map (basic_of (rows_alone l.names)) (take l.elem-index elements)
