use Rattle.std.proofs.Common.{◌≡◌, ◌∙◌, true, false, [], Some, None, sym, ap, subst}
use Rattle.std.specs.Prelude.{◌&&◌, not, if◌then◌else◌}
use Rattle.std.specs.Option.{option_copied}
use Rattle.std.proofs.lemmas.Result.{on_ok_weaker}
use Rattle.classes.specs.Classes.{OwnMethod}
use Rattle.classes.specs.Queries.{nearest}
use Rattle.member_keys.specs.Seen.{class_seen}
use Rattle.class_table.specs.Seen.{classes_seen, method_seen}
use Rattle.class_targets.specs.Owned.{method_found}
use Rattle.class_slots.proofs.OwnLaws.{found_is, not_found}
use Rattle.row_rules.specs.Links.{Adds}
use Rattle.row_rules.proofs.LinkLaws.{adds_none}
use Rattle.slot_links.specs.Slots.{for_some, takes, overrides}
use Rattle.slot_links.proofs.overrides.add_override.Goals as goal

pub returns-then-takes_slot : goal.returns-then-takes_slot
returns-then-takes_slot c =
    let t = c.args.methods.now.table in
    let cs = classes_seen t in
    let of = class_seen c.args.class in
    let id = class_seen c.args.method in
    let r = c.in-Some.row.now in
    let found : method_found t id ≡ Some r = ap (λ x. method_found x id) (sym c.table.ensures) ∙ sym c.find_method.ensures ∙ ap option_copied c.in-Some.is in
    let slot : r.is_virtual && not r.is_newslot ≡ true = sym c.takes_slot.ensures ∙ c.if-takes_slot.true in
    let up = for_some (λ (u : OwnMethod). takes of id u.id) (nearest cs (method_seen id.file id.row r) of) in
    on_ok_weaker c.add_nearest.result
    (λ told m row.
    subst (λ z. Adds (overrides cs of z) c.args.rules.now c.add_nearest.new.rules) (found_is t id r m found row)
    (subst (λ ls. Adds ls c.args.rules.now c.add_nearest.new.rules) (sym (ap (λ b. if b then up else []) slot)) (told id.file id.row)))
    c.add_nearest.ensures

pub returns-else-takes_slot : goal.returns-else-takes_slot
returns-else-takes_slot c =
    λ m row.
    let t = c.args.methods.now.table in
    let cs = classes_seen t in
    let of = class_seen c.args.class in
    let id = class_seen c.args.method in
    let r = c.in-Some.row.now in
    let found : method_found t id ≡ Some r = ap (λ x. method_found x id) (sym c.table.ensures) ∙ sym c.find_method.ensures ∙ ap option_copied c.in-Some.is in
    let slot : r.is_virtual && not r.is_newslot ≡ false = sym c.takes_slot.ensures ∙ c.if-takes_slot.false in
    let up = for_some (λ (u : OwnMethod). takes of id u.id) (nearest cs (method_seen id.file id.row r) of) in
    subst (λ z. Adds (overrides cs of z) c.args.rules.now c.args.rules.now) (found_is t id r m found row)
    (subst (λ ls. Adds ls c.args.rules.now c.args.rules.now) (sym (ap (λ b. if b then up else []) slot)) (adds_none c.args.rules.now))

pub returns-in-None : goal.returns-in-None
returns-in-None c =
    λ m row.
    let t = c.args.methods.now.table in
    let id = class_seen c.args.method in
    let found : method_found t id ≡ None = ap (λ x. method_found x id) (sym c.table.ensures) ∙ sym c.find_method.ensures ∙ ap option_copied c.in-None.is in
    absurd (not_found t id m found row)
