use Rattle.std.proofs.Common.{◌≡◌, length, take}
use Rattle.std.specs.List.{flat_map}
use Rattle.msspot_write.proofs.counts.code_bytes.Given as goal

abbrev pub invariant-loop-code : goal.invariant-loop-code
invariant-loop-code l = l.size ≡ length (flat_map (λ c. c.items) (take l.code-index l.codes))
