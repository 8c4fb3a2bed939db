use Rattle.std.proofs.Common.{◌≡◌, length}
use Rattle.assemblies.specs.Binding.{assembly_of}
use Rattle.set_names.specs.Names.{seen_all}
use Rattle.set_names.proofs.ResolveLaws.{StandSo}
use Rattle.set_names.proofs.resolve.resolve_assemblies.Given as goal

abbrev pub invariant-loop-n : goal.invariant-loop-n
invariant-loop-n l = record {
  size : length l.found.items ≡ l.n;
  so : StandSo (assembly_of (seen_all l.names) l.file) l.found.items l.n;
}
