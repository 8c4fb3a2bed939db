use Rattle.std.proofs.Common.{◌≡◌, ◌∙◌, Some, None, sym, ap, subst}
use Rattle.std.specs.Option.{option_copied}
use Rattle.std.proofs.lemmas.Result.{on_ok_weaker}
use Rattle.member_keys.specs.Seen.{class_seen}
use Rattle.class_table.specs.Seen.{classes_seen}
use Rattle.class_targets.specs.Owned.{method_found}
use Rattle.class_slots.proofs.OwnLaws.{found_is, not_found}
use Rattle.row_rules.specs.Links.{Adds}
use Rattle.slot_links.specs.Slots.{fills}
use Rattle.slot_links.proofs.fills.add_fill.Goals as goal

pub returns-in-Some : goal.returns-in-Some
returns-in-Some c =
    let t = c.args.methods.now.table in
    let id = class_seen c.args.method in
    let r = c.in-Some.row.now in
    let found : method_found t id ≡ Some r = ap (λ x. method_found x id) (sym c.table.ensures) ∙ sym c.find_method.ensures ∙ ap option_copied c.in-Some.is in
    on_ok_weaker c.add_first.result
    (λ adds m row. subst (λ z. Adds (fills (classes_seen t) (class_seen c.args.class) z) c.args.rules.now c.add_first.new.rules) (found_is t id r m found row) adds)
    c.add_first.ensures

pub returns-in-None : goal.returns-in-None
returns-in-None c =
    λ m row.
    let t = c.args.methods.now.table in
    let id = class_seen c.args.method in
    let found : method_found t id ≡ None = ap (λ x. method_found x id) (sym c.table.ensures) ∙ sym c.find_method.ensures ∙ ap option_copied c.in-None.is in
    absurd (not_found t id m found row)
