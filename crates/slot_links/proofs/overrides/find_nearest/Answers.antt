use Rattle.std.proofs.Common.{sym, ap}
use Rattle.member_search.specs.Shown.{Shown}
use Rattle.class_table.specs.Seen.{method_seen}
use Rattle.slot_links.proofs.overrides.find_nearest.Goals as goal

pub returns : goal.returns
returns c =
    λ file n.
    let key = c.in_ok-key.ensures in
    c.nearest.ensures (method_seen file n c.args.row.now) (record { name = sym (ap (λ (s : Shown). s.name) key); signature = sym (ap (λ (s : Shown). s.signature) key) })
