use Rattle.std.proofs.Common.{◌≡◌}
use Rattle.std.specs.List.{position}
use Rattle.world_rows.specs.Kinds.{is_system}
use Rattle.class_reading.specs.Base.{types_of}
use Rattle.class_reading.proofs.FirstLaws.{first_from}
use Rattle.class_reading.proofs.base.find_system.Given as goal

abbrev pub invariant-loop-n : goal.invariant-loop-n
invariant-loop-n l = position (is_system l.name) (types_of l.tables) ≡ first_from (is_system l.name) (types_of l.tables) l.n
