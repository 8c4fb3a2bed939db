use Rattle.std.proofs.Common.{sym, ◌∙◌, Some}
use Rattle.class_checks.proofs.OwnerLaws.{method_with}
use Rattle.class_checks.proofs.entry.method_begins.Goals as goal

pub returns-in-Some : goal.returns-in-Some
returns-in-Some c =
    c.begins_at.ensures c.args.place.file c.args.place.row
    ∙ sym (method_with c.args.place.file c.args.place.row c.args.table.now c.args.method.now c.requires (Some c.in-Some.row) c.in-Some.is)
