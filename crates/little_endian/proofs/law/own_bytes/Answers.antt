use Rattle.little_endian.proofs.Bytes.{alone, fits}
use Rattle.little_endian.proofs.law.own_bytes.Goals as goal

pub returns : goal.returns
returns c = record { alone = alone; fits = fits }
