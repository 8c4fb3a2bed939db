use Rattle.std.proofs.Common.{◌∙◌, sym, ap}
use Rattle.machine_typed.specs.Typing.{has_body}
use Rattle.class_rules.specs.Rules.{holds_some}
use Rattle.member_keys.specs.Seen.{class_seen}
use Rattle.class_table.specs.Seen.{classes_seen, method_seen}
use Rattle.class_targets.proofs.TargetLaws.{bodied_at}
use Rattle.class_targets.proofs.call.is_bodied.Goals as goal

pub returns-in-Some : goal.returns-in-Some
returns-in-Some c =
    let cs = classes_seen c.args.table.now in
    let id = class_seen c.args.method in
    let at = c.in-Some.ensures.1 in
    sym (ap (λ o. holds_some o (λ x. has_body x.body)) at ∙ bodied_at cs id id c.requires (method_seen id.file id.row c.in-Some.owned.row.now) at)
