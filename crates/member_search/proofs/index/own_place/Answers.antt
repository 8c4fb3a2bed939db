use Rattle.std.proofs.Common.{sym, ap}
use Rattle.std.specs.Option.{option_map}
use Rattle.member_keys.specs.Seen.{signature_seen}
use Rattle.member_search.specs.Shown.{key_shown, own_members}
use Rattle.member_search.proofs.FindLaws.{none_when}
use Rattle.member_search.proofs.SearchLaws.{none_shown}
use Rattle.member_search.proofs.index.own_place.Goals as goal

pub returns-then-is_none : goal.returns-then-is_none
returns-then-is_none c =
    let key = c.args.key.now in
    sym (none_shown (key_shown key) (own_members c.args.sort c.args.file.now c.args.class.now) (ap (option_map signature_seen) (none_when key.signature c.is_none.result c.is_none.ensures c.if-is_none.true)))
