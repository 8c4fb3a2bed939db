use Rattle.packet_inbox.proofs.Reading.{read_begins, read_takes, read_all, read_comes}
use Rattle.packet_inbox.proofs.laws.reading.Goals as goal

pub returns : goal.returns
returns c = record { begins = read_begins; takes = read_takes; all = read_all; comes = read_comes }
