use Rattle.std.proofs.lemmas.Result.{on_ok_weaker}
use Rattle.member_keys.specs.Seen.{class_seen}
use Rattle.slot_links.proofs.OwnLinks.{takes_added}
use Rattle.slot_links.proofs.overrides.add_takes.Goals as goal

pub returns : goal.returns
returns c =
    on_ok_weaker c.keep.result
    (takes_added (class_seen c.args.class) (class_seen c.args.method) (class_seen c.args.inherited) c.in_ok-holder.holder c.in_ok-taker.taker c.in_ok-taken.taken c.args.rules.now c.add.new.self c.keep.new.self c.in_ok-holder.ensures c.in_ok-taker.ensures c.in_ok-taken.ensures c.in_ok-add.ensures)
    c.keep.ensures
