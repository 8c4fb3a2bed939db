use Rattle.std.proofs.Common.{subst}
use Rattle.std.specs.Option.{option_map}
use Rattle.classes.specs.Queries.{listed, superclass_of, interfaces_of}
use Rattle.member_keys.specs.Seen.{class_seen}
use Rattle.class_table.specs.Seen.{classes_seen}
use Rattle.class_reach.specs.Found.{Adds}
use Rattle.class_reach.specs.Until.{until}
use Rattle.class_reach.proofs.FoundLaws.{adds_both}
use Rattle.class_reach.proofs.reach.add_parents.Goals as goal

pub add_all-requires : goal.add_all-requires
add_all-requires c = c.in_ok-add_some.ensures.found

pub returns : goal.returns
returns c =
    let cs = classes_seen c.args.table.now in
    let at = class_seen c.args.class in
    let top = option_map class_seen c.args.top in
    adds_both (listed (until top (superclass_of cs at))) (interfaces_of cs at) c.args.found.now c.add_some.new.found c.add_all.new.found
    (subst (λ o. Adds (listed o) c.args.found.now c.add_some.new.found) c.superclass_until.ensures c.in_ok-add_some.ensures)
    (subst (λ xs. Adds xs c.add_some.new.found c.add_all.new.found) c.interfaces.ensures c.in_ok-add_all.ensures)
