use Rattle.std.proofs.Common.{◌≡◌, ◌∙◌, Some, None, sym, ap, subst}
use Rattle.std.specs.Option.{option_map}
use Rattle.classes.specs.Queries.{target}
use Rattle.class_rules.specs.Rules.{holds_some}
use Rattle.member_keys.specs.Seen.{class_seen}
use Rattle.class_table.specs.Seen.{classes_seen}
use Rattle.class_targets.specs.Bodied.{AreBodied, is_bodied}
use Rattle.class_targets.proofs.call.has_body_at.Goals as goal

pub is_bodied-requires : goal.is_bodied-requires
is_bodied-requires c = subst (λ t. AreBodied (classes_seen t)) (sym c.table.ensures) c.requires.bodied

pub returns-in-Some : goal.returns-in-Some
returns-in-Some c =
    λ m same.
    let cs = classes_seen c.args.methods.now.table in
    let at = class_seen c.args.class in
    let there : target cs at (class_seen c.args.method) ≡ Some (class_seen c.in-Some.body) = sym c.in_ok-found.ensures ∙ ap (option_map class_seen) c.in-Some.is in
    c.is_bodied.ensures ∙ ap (λ t. is_bodied (classes_seen t) (class_seen c.in-Some.body)) c.table.ensures ∙ sym (ap (λ id. holds_some (target cs at id) (is_bodied cs)) same ∙ ap (λ o. holds_some o (is_bodied cs)) there)

pub returns-in-None : goal.returns-in-None
returns-in-None c =
    λ m same.
    let cs = classes_seen c.args.methods.now.table in
    let at = class_seen c.args.class in
    let gone : target cs at (class_seen c.args.method) ≡ None = sym c.in_ok-found.ensures ∙ ap (option_map class_seen) c.in-None.is in
    sym (ap (λ id. holds_some (target cs at id) (is_bodied cs)) same ∙ ap (λ o. holds_some o (is_bodied cs)) gone)
