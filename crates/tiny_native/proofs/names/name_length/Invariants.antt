use Rattle.std.proofs.Common.{◌≤◌, length}
use Rattle.tiny_native.proofs.names.name_length.Given as goal

abbrev pub invariant-loop-k : goal.invariant-loop-k
invariant-loop-k g l = l.k ≤ length (g.S.Subclass.name l.types l.of)
