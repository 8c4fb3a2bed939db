use Rattle.std.proofs.Common.{◌≡◌, ◌-◌, ◌++◌, map, take, drop}
use Rattle.assemblies.specs.Binding.{range}
use Rattle.member_search.specs.Shown.{key_shown, members_in}
use Rattle.member_search.proofs.keys.member_keys.Given as goal

abbrev pub invariant-loop-n : goal.invariant-loop-n
invariant-loop-n l = range l.start l.count (members_in l.sort l.file) ≡ map key_shown l.keys.items ++ take (l.end - l.n) (drop l.n (members_in l.sort l.file))
