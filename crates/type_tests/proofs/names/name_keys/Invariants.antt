use Rattle.std.proofs.Common.{◌≡◌, map, take}
use Rattle.type_tests.specs.declared.names.AssemblyName.{AssemblyName}
use Rattle.type_tests.specs.Names.{name_in}
use Rattle.type_tests.proofs.names.name_keys.Given as goal

abbrev pub invariant-loop-file : goal.invariant-loop-file
invariant-loop-file l = map (λ (k : AssemblyName). k.name.now) l.keys.items ≡ map name_in (take l.file l.world)
