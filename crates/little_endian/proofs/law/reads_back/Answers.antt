use Rattle.little_endian.proofs.Bytes.{same, others, size}
use Rattle.little_endian.proofs.law.reads_back.Goals as goal

pub returns : goal.returns
returns c = record { same = same; others = others; size = size }
