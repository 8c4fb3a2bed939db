use Rattle.std.proofs.Common.{◌≤◌, ℕ, List, length, subst, arith}
use Rattle.little_endian.specs.Numbers.{AreBytes}
use Rattle.wire_packets.proofs.encoding.fields_of.Goals as goal

pub returns-clause-packet : goal.returns-clause-packet
returns-clause-packet c flags =
    record {
      command = omega arith;
      seq = omega arith;
      reply_seq = omega arith;
      flags = flags;
      size = subst (λ (xs : List ℕ). length xs ≤ 1024) c.as_slice-payload.ensures.value c.as_slice-payload.ensures.fits;
      payload = subst AreBytes c.as_slice-payload.ensures.value c.byte_sum.ensures.bytes;
    }
