use Rattle.std.proofs.Common.{◌≡◌, length}
use Rattle.cil_world.specs.Members.{AreMembers}
use Rattle.cil_world.proofs.table.read_members.Given as goal

abbrev pub invariant-loop-file : goal.invariant-loop-file
invariant-loop-file l = record { size : length l.all.items ≡ l.file; members : AreMembers l.types.names.now l.all.items }
