use Rattle.std.proofs.Common.{◌∙◌, Some, None, sym, ap, subst}
use Rattle.std.specs.Option.{option_map}
use Rattle.std.proofs.lemmas.Result.{on_ok_weaker}
use Rattle.classes.specs.Queries.{nearest}
use Rattle.member_keys.specs.Seen.{class_seen}
use Rattle.class_table.specs.Seen.{classes_seen, method_seen}
use Rattle.row_rules.specs.Links.{Adds}
use Rattle.row_rules.proofs.LinkLaws.{adds_none}
use Rattle.slot_links.specs.Slots.{takes}
use Rattle.slot_links.proofs.OwnLinks.{by_number}
use Rattle.slot_links.proofs.overrides.add_nearest.Goals as goal

pub returns-in-Some : goal.returns-in-Some
returns-in-Some c =
    let cs = classes_seen c.args.methods.now.table in
    let of = class_seen c.args.class in
    on_ok_weaker c.add_takes.result
    (λ adds file n.
    let m = method_seen file n c.args.row.now in
    let found = ap (option_map class_seen) (sym c.in-Some.is) ∙ c.in_ok-found.ensures file n in
    subst (λ ls. Adds ls c.args.rules.now c.add_takes.new.rules) (by_number (takes of (class_seen c.args.method)) (nearest cs m of) (Some c.in-Some.inherited) found) adds)
    c.add_takes.ensures

pub returns-in-None : goal.returns-in-None
returns-in-None c =
    λ file n.
    let cs = classes_seen c.args.methods.now.table in
    let of = class_seen c.args.class in
    let m = method_seen file n c.args.row.now in
    let found = ap (option_map class_seen) (sym c.in-None.is) ∙ c.in_ok-found.ensures file n in
    subst (λ ls. Adds ls c.args.rules.now c.args.rules.now) (by_number (takes of (class_seen c.args.method)) (nearest cs m of) None found) (adds_none c.args.rules.now)
