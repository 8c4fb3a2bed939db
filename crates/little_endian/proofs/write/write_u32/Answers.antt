use Rattle.std.proofs.Common.{refl, arith}
use Rattle.byteorder.specs.Endian.{little_bytes}
use Rattle.little_endian.proofs.Bytes.{part_written}
use Rattle.little_endian.proofs.write.write_u32.Goals as goal

pub returns : goal.returns
returns c = part_written c.args.at 4 _ (little_bytes 4 c.args.number) c.args.bytes.now c.write_u32.new.buf (omega arith) refl c.write_u32.ensures
