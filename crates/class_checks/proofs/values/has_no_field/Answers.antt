use Rattle.std.proofs.Common.{ap, sym, ◌∙◌, length}
use Rattle.std.specs.Prelude.{[], nat_eq, unwrap_or}
use Rattle.member_keys.specs.Seen.{class_seen}
use Rattle.class_checks.proofs.FieldLaws.{fields_none}
use Rattle.class_checks.proofs.values.has_no_field.Goals as goal

pub returns-in-Some : goal.returns-in-Some
returns-in-Some c =
    c.is_empty.ensures
    ∙ ap (λ o. nat_eq (length (unwrap_or o [])) 0) c.in-Some.ensures
    ∙ sym (fields_none c.args.table.now (class_seen c.args.class))
