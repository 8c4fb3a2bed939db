use Rattle.std.proofs.Common.{◌≡◌, ◌∙◌, Some, None, true, false, refl, sym, ap, subst}
use Rattle.std.specs.Prelude.{◌&&◌, not}
use Rattle.std.specs.Option.{option_map}
use Rattle.classes.specs.Queries.{chain, is_interface, is_or_implements, target, target_by}
use Rattle.board_ids.specs.Ids.{id_of}
use Rattle.member_keys.specs.Seen.{class_seen}
use Rattle.class_table.specs.declared.rows.ClassTable.{ClassTable}
use Rattle.class_table.specs.Seen.{classes_seen, method_seen}
use Rattle.class_targets.specs.Owned.{Owns}
use Rattle.class_targets.proofs.TargetLaws.{target_missing, target_owned}
use Rattle.tiny_types.proofs.bodies.target.Goals as goal

pub returns-in_err-owned : goal.returns-in_err-owned
returns-in_err-owned c =
    let cs = classes_seen c.args.types.now in
    let id = class_seen c.class_id-found.result in
    let gone = subst (λ x. Owns x id None) c.table-table.ensures.table c.in_err-owned.ensures in
    ap (option_map id_of) c.from_residual.ensures
    ∙ sym (target_missing cs (id_of c.args.class) id gone)
    ∙ ap (target cs (id_of c.args.class)) c.class_id-found.ensures

pub returns-then-is_interface : goal.returns-then-is_interface
returns-then-is_interface c =
    let t = c.args.types.now in
    let cs = classes_seen t in
    let same = c.table-table.ensures.table in
    let at = class_seen c.class_id-class.result in
    let id = class_seen c.class_id-found.result in
    let owner = class_seen c.in_ok-owned.owned.owner in
    let m = method_seen id.file id.row c.in_ok-owned.owned.row.now in
    let own = subst (λ x. Owns x id (Some c.in_ok-owned.owned)) same c.in_ok-owned.ensures in
    let interface : is_interface cs owner ≡ true = ap (λ (x : ClassTable). is_interface (classes_seen x) owner) (sym same) ∙ sym c.is_interface.ensures ∙ c.if-is_interface.true in
    c.interface_target.ensures m owner (record { name = refl; signature = refl })
    ∙ ap (λ (x : ClassTable). target_by (classes_seen x) true (c.is_or_implements-implements.result && not (is_interface (classes_seen x) at)) owner m (chain (classes_seen x) at)) same
    ∙ ap (λ b. target_by cs true (b && not (is_interface cs at)) owner m (chain cs at)) c.is_or_implements-implements.ensures
    ∙ ap (λ b. target_by cs b (is_or_implements cs at owner && not (is_interface cs at)) owner m (chain cs at)) (sym interface)
    ∙ sym (target_owned cs at id owner m own.0 own.1)
    ∙ ap (λ x. target cs x id) c.class_id-class.ensures
    ∙ ap (target cs (id_of c.args.class)) c.class_id-found.ensures

pub returns-else-is_interface : goal.returns-else-is_interface
returns-else-is_interface c =
    let t = c.args.types.now in
    let cs = classes_seen t in
    let same = c.table-table.ensures.table in
    let at = class_seen c.class_id-class.result in
    let id = class_seen c.class_id-found.result in
    let owner = class_seen c.in_ok-owned.owned.owner in
    let m = method_seen id.file id.row c.in_ok-owned.owned.row.now in
    let own = subst (λ x. Owns x id (Some c.in_ok-owned.owned)) same c.in_ok-owned.ensures in
    let interface : is_interface cs owner ≡ false = ap (λ (x : ClassTable). is_interface (classes_seen x) owner) (sym same) ∙ sym c.is_interface.ensures ∙ c.if-is_interface.false in
    let implements = is_or_implements cs at owner && not (is_interface cs at) in
    c.class_target.ensures m implements (record { name = refl; signature = refl }) c.class_id-found.ensures refl
    ∙ ap (λ (x : ClassTable). target_by (classes_seen x) false implements owner m (chain (classes_seen x) at)) same
    ∙ ap (λ b. target_by cs b implements owner m (chain cs at)) (sym interface)
    ∙ sym (target_owned cs at id owner m own.0 own.1)
    ∙ ap (λ x. target cs x id) c.class_id-class.ensures
    ∙ ap (target cs (id_of c.args.class)) c.class_id-found.ensures
