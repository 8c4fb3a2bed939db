use Rattle.little_endian.proofs.Bytes.{behind}
use Rattle.little_endian.proofs.law.reads_what_follows.Goals as goal

pub returns : goal.returns
returns c = behind
