use Rattle.std.proofs.Common.{◌≡◌, rules, arith}
use Rattle.std.specs.Prelude.{sum}
use Rattle.wire_packets.proofs.Sums.{sum-bytes}
use Rattle.wire_packets.proofs.encoding.byte_sum.Goals as goal

pub returns-clause-bound : goal.returns-clause-bound
returns-clause-bound c =
    let value : c.sum.result ≡ sum c.args.bytes.now = search rules in
    let bound = sum-bytes c.args.bytes.now (λ i. omega (arith, c.type_inv.bytes i)) in
    omega arith

pub returns-clause-bytes : goal.returns-clause-bytes
returns-clause-bytes c i = omega (arith, c.type_inv.bytes i)
