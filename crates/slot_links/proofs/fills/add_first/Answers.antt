use Rattle.std.proofs.Common.{◌∙◌, Some, None, sym, ap, subst, OnOk}
use Rattle.std.specs.Option.{option_map}
use Rattle.classes.specs.Queries.{chain, first_some, own_virtual}
use Rattle.member_keys.specs.Seen.{class_seen}
use Rattle.class_table.specs.Seen.{classes_seen, method_seen}
use Rattle.row_rules.specs.Links.{Adds}
use Rattle.row_rules.proofs.LinkLaws.{adds_none}
use Rattle.slot_links.specs.Slots.{for_some, filled_by}
use Rattle.slot_links.proofs.OwnLinks.{by_number}
use Rattle.slot_links.proofs.fills.add_first.Goals as goal

pub returns-in-Some : goal.returns-in-Some
returns-in-Some c =
    let cs = classes_seen c.args.methods.now.table in
    let of = class_seen c.args.class in
    let method = class_seen c.args.method in
    let m = method_seen method.file method.row c.args.row.now in
    let body = c.in-Some.body in
    let found = ap (option_map class_seen) (sym c.in-Some.is) ∙ c.in_ok-found.ensures method.file method.row in
    subst (λ ls. OnOk c.add_body.result (Adds ls c.args.rules.now c.add_body.new.rules))
    (by_number (λ b. for_some (filled_by method b) (cs.method_owner b)) (first_some (own_virtual cs m) (chain cs of)) (Some body) found)
    (subst (λ x. OnOk c.add_body.result (Adds (for_some (filled_by method (class_seen body)) ((classes_seen x).method_owner (class_seen body))) c.args.rules.now c.add_body.new.rules)) c.table.ensures c.add_body.ensures)

pub returns-in-None : goal.returns-in-None
returns-in-None c =
    let cs = classes_seen c.args.methods.now.table in
    let of = class_seen c.args.class in
    let method = class_seen c.args.method in
    let m = method_seen method.file method.row c.args.row.now in
    let found = ap (option_map class_seen) (sym c.in-None.is) ∙ c.in_ok-found.ensures method.file method.row in
    subst (λ ls. Adds ls c.args.rules.now c.args.rules.now)
    (by_number (λ b. for_some (filled_by method b) (cs.method_owner b)) (first_some (own_virtual cs m) (chain cs of)) None found)
    (adds_none c.args.rules.now)
