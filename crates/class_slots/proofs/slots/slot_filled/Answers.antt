use Rattle.std.proofs.Common.{◌≡◌, ◌∙◌, Some, None, true, false, sym, ap, subst}
use Rattle.std.specs.Option.{option_copied}
use Rattle.std.proofs.lemmas.Result.{IfOk-weaker}
use Rattle.classes.specs.Classes.{OwnMethod}
use Rattle.classes.specs.Queries.{is_or_implements}
use Rattle.class_rules.specs.Rules.{has_body_at, is_slot, only_if}
use Rattle.member_keys.specs.Seen.{class_seen}
use Rattle.class_table.specs.Seen.{classes_seen, method_seen}
use Rattle.class_targets.specs.Owned.{method_found}
use Rattle.class_slots.proofs.OwnLaws.{found_is, id_of, not_found}
use Rattle.class_slots.proofs.slots.slot_filled.Goals as goal

pub has_body_at-requires-clause-sort : goal.has_body_at-requires-clause-sort
has_body_at-requires-clause-sort c = c.requires.stand.sort

pub has_body_at-requires-clause-apart : goal.has_body_at-requires-clause-apart
has_body_at-requires-clause-apart c = c.requires.stand.methods.apart

pub has_body_at-requires-clause-bodied : goal.has_body_at-requires-clause-bodied
has_body_at-requires-clause-bodied c = c.requires.stand.methods.bodied

pub has_body_at-requires-clause-implements : goal.has_body_at-requires-clause-implements
has_body_at-requires-clause-implements c =
    λ d e.
    let both : Some (class_seen c.args.owner) ≡ Some d = sym c.requires.owner ∙ e in
    let same : class_seen c.args.owner ≡ d = cc both in
    sym (ap (is_or_implements (classes_seen c.args.methods.now.table) (class_seen c.args.class)) (sym same) ∙ c.requires.implements)

pub returns-then-is_slot : goal.returns-then-is_slot
returns-then-is_slot c =
    let t = c.args.methods.now.table in
    let cs = classes_seen t in
    let id = class_seen c.args.method in
    let owner = class_seen c.args.owner in
    let r = c.in-Some.row.now in
    let found : method_found t id ≡ Some r = ap (λ x. method_found x id) (sym c.table.ensures) ∙ sym c.find_method.ensures ∙ ap option_copied c.in-Some.is in
    let slot : is_slot cs owner (method_seen id.file id.row r) ≡ true = ap (λ x. is_slot (classes_seen x) owner (method_seen id.file id.row r)) (sym c.table-in-Some.ensures) ∙ sym (c.is_slot.ensures id.file id.row) ∙ c.if-is_slot.true in
    IfOk-weaker c.has_body_at.result _ _
    (λ b told m row.
    let here : is_slot cs owner m ≡ true = subst (λ (z : OwnMethod). is_slot cs owner z ≡ true) (found_is t id r m found row) slot in
    told m (id_of t id m row) ∙ sym (ap (λ s. only_if s (has_body_at cs (class_seen c.args.class) m)) here))
    c.has_body_at.ensures

pub returns-else-is_slot : goal.returns-else-is_slot
returns-else-is_slot c =
    λ m row.
    let t = c.args.methods.now.table in
    let cs = classes_seen t in
    let id = class_seen c.args.method in
    let owner = class_seen c.args.owner in
    let r = c.in-Some.row.now in
    let found : method_found t id ≡ Some r = ap (λ x. method_found x id) (sym c.table.ensures) ∙ sym c.find_method.ensures ∙ ap option_copied c.in-Some.is in
    let slot : is_slot cs owner (method_seen id.file id.row r) ≡ false = ap (λ x. is_slot (classes_seen x) owner (method_seen id.file id.row r)) (sym c.table-in-Some.ensures) ∙ sym (c.is_slot.ensures id.file id.row) ∙ c.if-is_slot.false in
    let here : is_slot cs owner m ≡ false = subst (λ (z : OwnMethod). is_slot cs owner z ≡ false) (found_is t id r m found row) slot in
    sym (ap (λ s. only_if s (has_body_at cs (class_seen c.args.class) m)) here)

pub returns-in-None : goal.returns-in-None
returns-in-None c =
    λ m row.
    let t = c.args.methods.now.table in
    let id = class_seen c.args.method in
    let found : method_found t id ≡ None = ap (λ x. method_found x id) (sym c.table.ensures) ∙ sym c.find_method.ensures ∙ ap option_copied c.in-None.is in
    absurd (not_found t id m found row)
