use Rattle.std.proofs.Common.{ap, sym, ◌∙◌}
use Rattle.std.specs.Prelude.{nat_eq}
use Rattle.member_keys.specs.Seen.{class_seen}
use Rattle.class_checks.proofs.FieldLaws.{none_told}
use Rattle.class_checks.proofs.values.has_no_instance_field.Goals as goal

pub returns : goal.returns
returns c = ap (λ n. nat_eq n 0) c.class_instances.ensures.count ∙ sym (none_told c.args.table.now (class_seen c.args.class))
