use Rattle.std.proofs.Common.{length}
use Rattle.tiny_native.proofs.Writes.{written_none, written_whole}
use Rattle.tiny_native.proofs.texts.ascii.Goals as goal

pub returns-in-Ok : goal.returns-in-Ok
returns-in-Ok c m keeps =
    let made = c.in-Ok.ensures.made m keeps in
    (made.1, written_whole c.put_bytes.new.ram m c.args.bytes.now c.in-Ok.thing (c.put_bytes.ensures m (written_none c.new_string.new.ram m c.args.bytes.now c.in-Ok.thing (length c.args.bytes.now) made.1 made.2)))
