use Rattle.std.proofs.Common.{◌≡◌, ◌++◌, take}
use Rattle.base_tables.specs.Shape.{items_of, kinds_of}
use Rattle.base_lib.specs.Signatures.{kinds_bytes}
use Rattle.base_lib.proofs.signatures.push_kinds.Given as goal

abbrev pub invariant-loop-kind : goal.invariant-loop-kind
invariant-loop-kind l = l.out.items ≡ l.fn.out.items ++ kinds_bytes (items_of l.items) (kinds_of (take l.kind-index l.kinds))
