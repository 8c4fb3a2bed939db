use Rattle.std.proofs.Common.{rules}
use Rattle.wire_packets.specs.Spelling.{spelling}
use Rattle.wire_packets.proofs.encoding.encode.Goals as goal

pub returns-clause-spells : goal.returns-clause-spells
unfolding spelling
returns-clause-spells c = record { packet = c.fields_of-fields.ensures.packet c.requires; spelt = search rules }
