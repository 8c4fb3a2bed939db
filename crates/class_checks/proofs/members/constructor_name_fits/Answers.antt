use Rattle.std.proofs.Common.{◌∙◌, sym, ap}
use Rattle.member_keys.specs.Seen.{class_seen}
use Rattle.class_table.specs.Seen.{classes_seen, method_seen, row_seen}
use Rattle.class_rules.specs.Rules.{constructor_fits, only_if}
use Rattle.class_checks.proofs.members.constructor_name_fits.Goals as goal

pub returns-then-is_constructor : goal.returns-then-is_constructor
returns-then-is_constructor c =
    λ f file n.
    c.constructor_fits.ensures f file n ∙ sym (ap (λ b. only_if b (constructor_fits (classes_seen c.args.setting.now.table.now) (class_seen c.args.class) (row_seen c.args.class.file f c.args.row.now) (method_seen file n c.args.method.now))) (sym c.is_constructor.ensures ∙ c.if-is_constructor.true))

pub returns-else-is_constructor : goal.returns-else-is_constructor
returns-else-is_constructor c =
    λ f file n. sym (ap (λ b. only_if b (constructor_fits (classes_seen c.args.setting.now.table.now) (class_seen c.args.class) (row_seen c.args.class.file f c.args.row.now) (method_seen file n c.args.method.now))) (sym c.is_constructor.ensures ∙ c.if-is_constructor.false))
