use Rattle.std.proofs.Common.{◌∙◌, sym, ap}
use Rattle.std.specs.Prelude.{◌&&◌}
use Rattle.member_keys.specs.Seen.{class_seen}
use Rattle.class_table.specs.Seen.{body_seen, classes_seen, method_seen, row_seen}
use Rattle.class_checks.specs.Bodies.{name_fits, with_body}
use Rattle.class_checks.proofs.MethodLaws.{whole_method}
use Rattle.class_checks.proofs.members.method_stands_well.Goals as goal

pub returns-then-flags_fit : goal.returns-then-flags_fit
returns-then-flags_fit c =
    λ f file n.
    c.name_fits.ensures f file n
    ∙ sym
    (whole_method (classes_seen c.args.setting.now.table.now) (class_seen c.args.class) (row_seen c.args.class.file f c.args.row.now) (with_body (body_seen c.args.body) (method_seen file n c.args.method.now))
    ∙ ap (λ b. b && name_fits (classes_seen c.args.setting.now.table.now) (class_seen c.args.class) (row_seen c.args.class.file f c.args.row.now) (with_body (body_seen c.args.body) (method_seen file n c.args.method.now))) (sym (c.flags_fit.ensures f file n) ∙ c.if-flags_fit.true))

pub returns-else-flags_fit : goal.returns-else-flags_fit
returns-else-flags_fit c =
    λ f file n.
    c.if-flags_fit.false
    ∙ sym
    (whole_method (classes_seen c.args.setting.now.table.now) (class_seen c.args.class) (row_seen c.args.class.file f c.args.row.now) (with_body (body_seen c.args.body) (method_seen file n c.args.method.now))
    ∙ ap (λ b. b && name_fits (classes_seen c.args.setting.now.table.now) (class_seen c.args.class) (row_seen c.args.class.file f c.args.row.now) (with_body (body_seen c.args.body) (method_seen file n c.args.method.now))) (sym (c.flags_fit.ensures f file n) ∙ c.if-flags_fit.false))
