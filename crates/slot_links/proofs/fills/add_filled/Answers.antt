use Rattle.std.proofs.Common.{subst, OnOk}
use Rattle.member_keys.specs.Seen.{class_seen}
use Rattle.row_rules.specs.Links.{Adds}
use Rattle.slot_links.proofs.OwnLinks.{filled_is}
use Rattle.slot_links.proofs.fills.add_filled.Goals as goal

pub returns : goal.returns
returns c =
    subst (λ ls. OnOk c.add.result (Adds ls c.args.rules.now c.add.new.self))
    (filled_is (class_seen c.args.method) (class_seen c.args.body) (class_seen c.args.owner) c.in_ok-asked.asked c.in_ok-filler.filler c.in_ok-holder.holder c.in_ok-asked.ensures c.in_ok-filler.ensures c.in_ok-holder.ensures)
    c.add.ensures
