use Rattle.std.proofs.Common.{◌≡◌, ◌∙◌, true, false, [], sym, ap, subst, OnOk}
use Rattle.std.specs.Prelude.{if◌then◌else◌}
use Rattle.std.specs.List.{flat_map}
use Rattle.classes.specs.Queries.{is_interface, methods_of}
use Rattle.member_keys.specs.Seen.{class_seen}
use Rattle.class_table.specs.Seen.{classes_seen}
use Rattle.row_rules.specs.Links.{Adds}
use Rattle.row_rules.proofs.LinkLaws.{adds_none}
use Rattle.slot_links.specs.Slots.{fills}
use Rattle.slot_links.proofs.fills.add_implements.Goals as goal

pub returns-then-is_interface : goal.returns-then-is_interface
returns-then-is_interface c =
    let cs = classes_seen c.args.methods.now.table in
    let at = class_seen c.args.above in
    let interface : is_interface cs at ≡ true = ap (λ t. is_interface (classes_seen t) at) (sym c.table.ensures) ∙ sym c.is_interface.ensures ∙ c.if-is_interface.true in
    subst (λ ls. OnOk c.add_fills.result (Adds ls c.args.rules.now c.add_fills.new.rules)) (sym (ap (λ b. if b then flat_map (fills cs (class_seen c.args.class)) (methods_of cs at) else []) interface)) c.add_fills.ensures

pub returns-else-is_interface : goal.returns-else-is_interface
returns-else-is_interface c =
    let cs = classes_seen c.args.methods.now.table in
    let at = class_seen c.args.above in
    let interface : is_interface cs at ≡ false = ap (λ t. is_interface (classes_seen t) at) (sym c.table.ensures) ∙ sym c.is_interface.ensures ∙ c.if-is_interface.false in
    subst (λ ls. Adds ls c.args.rules.now c.args.rules.now) (sym (ap (λ b. if b then flat_map (fills cs (class_seen c.args.class)) (methods_of cs at) else []) interface)) (adds_none c.args.rules.now)
