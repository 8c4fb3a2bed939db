use Rattle.std.proofs.Common.{◌≡◌, drop}
use Rattle.assemblies.specs.Binding.{entry_from}
use Rattle.world_rows.specs.World.{assemblies_of, ecma_sources}
use Rattle.type_tests.proofs.entries.find_entry.Given as goal

abbrev pub invariant-loop-file : goal.invariant-loop-file
invariant-loop-file l = (ecma_sources l.world).entry ≡ entry_from l.file (drop l.file (assemblies_of l.world))
