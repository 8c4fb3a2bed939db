use Rattle.std.proofs.Common.{◌≡◌, ◌∙◌, Some, true, false, refl, sym, ap, subst}
use Rattle.std.specs.Prelude.{◌&&◌, not}
use Rattle.classes.specs.Queries.{chain, is_interface, is_or_implements, target_by}
use Rattle.member_keys.specs.Seen.{class_seen}
use Rattle.class_table.specs.Seen.{classes_seen, method_seen}
use Rattle.member_search.specs.Shown.{Shown}
use Rattle.class_targets.specs.Owned.{Owns}
use Rattle.class_targets.proofs.TargetLaws.{target_owned}
use Rattle.class_targets.proofs.call.target.Goals as goal

pub returns-then-is_interface : goal.returns-then-is_interface
returns-then-is_interface c =
    let t = c.args.methods.now.table in
    let cs = classes_seen t in
    let at = class_seen c.args.class in
    let id = class_seen c.args.method in
    let owner = class_seen c.in-Some.owned.owner in
    let m = method_seen id.file id.row c.in-Some.owned.row.now in
    let own = subst (λ x. Owns x id (Some c.in-Some.owned)) c.table.ensures c.in-Some.ensures in
    let interface : is_interface cs owner ≡ true = ap (λ x. is_interface (classes_seen x) owner) (sym c.table-in-Some.ensures) ∙ sym c.is_interface.ensures ∙ c.if-is_interface.true in
    c.interface_target.ensures m owner (record { name = sym (ap (λ (s : Shown). s.name) c.in_ok-key-in-Some.ensures); signature = sym (ap (λ (s : Shown). s.signature) c.in_ok-key-in-Some.ensures) })
    ∙ ap (λ b. target_by cs true (b && not (is_interface cs at)) owner m (chain cs at)) (c.requires.implements owner own.0)
    ∙ ap (λ b. target_by cs b (is_or_implements cs at owner && not (is_interface cs at)) owner m (chain cs at)) (sym interface)
    ∙ sym (target_owned cs at id owner m own.0 own.1)

pub returns-in-Some : goal.returns-in-Some
returns-in-Some c =
    let t = c.args.methods.now.table in
    let cs = classes_seen t in
    let at = class_seen c.args.class in
    let id = class_seen c.args.method in
    let owner = class_seen c.in-Some.owned.owner in
    let m = method_seen id.file id.row c.in-Some.owned.row.now in
    let own = subst (λ x. Owns x id (Some c.in-Some.owned)) c.table.ensures c.in-Some.ensures in
    let interface : is_interface cs owner ≡ false = ap (λ x. is_interface (classes_seen x) owner) (sym c.table-in-Some.ensures) ∙ sym c.is_interface.ensures ∙ c.if-is_interface.false in
    c.class_target.ensures m (is_or_implements cs at owner && not (is_interface cs at)) (record { name = sym (ap (λ (s : Shown). s.name) c.in_ok-key-in-Some.ensures); signature = sym (ap (λ (s : Shown). s.signature) c.in_ok-key-in-Some.ensures) }) refl refl
    ∙ ap (λ b. target_by cs b (is_or_implements cs at owner && not (is_interface cs at)) owner m (chain cs at)) (sym interface)
    ∙ sym (target_owned cs at id owner m own.0 own.1)
