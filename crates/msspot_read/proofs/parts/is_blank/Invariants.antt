use Rattle.std.proofs.Common.{◌≡◌, nat_eq, drop}
use Rattle.std.specs.List.{list_all}
use Rattle.msspot_read.proofs.parts.is_blank.Given as goal

abbrev pub invariant-loop-byte : goal.invariant-loop-byte
invariant-loop-byte l = list_all (λ b. nat_eq b 0) (drop l.byte-index l.bytes) ≡ list_all (λ b. nat_eq b 0) l.bytes
