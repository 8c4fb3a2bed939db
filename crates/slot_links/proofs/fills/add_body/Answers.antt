use Rattle.std.proofs.Common.{◌≡◌, ◌∙◌, Some, None, sym, ap, subst, OnOk}
use Rattle.std.specs.Option.{option_map}
use Rattle.member_keys.specs.Seen.{class_seen}
use Rattle.class_table.specs.Seen.{classes_seen}
use Rattle.row_rules.specs.Links.{Adds}
use Rattle.row_rules.proofs.LinkLaws.{adds_none}
use Rattle.slot_links.specs.Slots.{for_some, filled_by}
use Rattle.slot_links.proofs.fills.add_body.Goals as goal

pub returns-in-Some : goal.returns-in-Some
returns-in-Some c =
    let body = class_seen c.args.body in
    let owner : (classes_seen c.args.table.now).method_owner body ≡ Some (class_seen c.in-Some.owner) = sym c.method_owner.ensures ∙ ap (option_map class_seen) c.in-Some.is in
    subst (λ o. OnOk c.add_filled.result (Adds (for_some (filled_by (class_seen c.args.method) body) o) c.args.rules.now c.add_filled.new.rules)) (sym owner) c.add_filled.ensures

pub returns-in-None : goal.returns-in-None
returns-in-None c =
    let body = class_seen c.args.body in
    let owner : (classes_seen c.args.table.now).method_owner body ≡ None = sym c.method_owner.ensures ∙ ap (option_map class_seen) c.in-None.is in
    subst (λ o. Adds (for_some (filled_by (class_seen c.args.method) body) o) c.args.rules.now c.args.rules.now) (sym owner) (adds_none c.args.rules.now)
