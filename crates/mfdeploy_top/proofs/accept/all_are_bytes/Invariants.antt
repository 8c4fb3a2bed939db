use Rattle.std.proofs.Common.{map, take}
use Rattle.assemblies.specs.Closed.{Each}
use Rattle.code_shrink.specs.Lines.{AreBytes}
use Rattle.mfdeploy_top.proofs.accept.all_are_bytes.Given as goal

abbrev pub invariant-loop-bytes : goal.invariant-loop-bytes
invariant-loop-bytes l = Each AreBytes (map (λ bytes. bytes.items) (take l.bytes-index l.all))
