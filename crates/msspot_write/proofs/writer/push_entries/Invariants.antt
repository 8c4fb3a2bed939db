use Rattle.std.proofs.Common.{◌≡◌, ◌++◌, [], take}
use Rattle.image_pools.specs.Pools.{pool_onto}
use Rattle.msspot_write.proofs.writer.push_entries.Given as goal

abbrev pub invariant-loop-entry : goal.invariant-loop-entry
invariant-loop-entry l = l.out.items ≡ l.fn.out.items ++ pool_onto (take l.entry-index l.entries) []
