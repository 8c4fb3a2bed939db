use Rattle.std.proofs.Common.{sym, ◌∙◌}
use Rattle.member_keys.specs.Seen.{class_seen}
use Rattle.class_checks.proofs.FieldLaws.{counted_one, counted_other}
use Rattle.class_checks.proofs.values.has_one_of.Goals as goal

pub returns-then-found-eq1 : goal.returns-then-found-eq1
returns-then-found-eq1 c =
    c.is_spelt.ensures
    ∙ sym (counted_one c.args.table.now (class_seen c.args.class) c.args.elem c.class_instances-found.result c.class_instances-found.ensures c.if-found-eq1.true)

pub returns-else-found-eq1 : goal.returns-else-found-eq1
returns-else-found-eq1 c = counted_other c.args.table.now (class_seen c.args.class) c.args.elem c.class_instances-found.result c.class_instances-found.ensures c.if-found-eq1.false
