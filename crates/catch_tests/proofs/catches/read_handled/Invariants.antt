use Rattle.std.proofs.Common.{◌≡◌, Some, map, take}
use Rattle.std.specs.Prelude.{slice_get}
use Rattle.file_tables.specs.File.{FilePart}
use Rattle.verdict_rules.specs.World.{world_of}
use Rattle.code_tests.specs.Tests.{handles_well}
use Rattle.catch_tests.proofs.catches.read_handled.Given as goal

abbrev pub invariant-loop-clause : goal.invariant-loop-clause
invariant-loop-clause l =
    (x : FilePart) → slice_get l.subject.world.now l.file ≡ Some x → l.handled.items ≡ map (handles_well (world_of l.subject.world.now) l.file x) (take l.clause-index l.clauses)
