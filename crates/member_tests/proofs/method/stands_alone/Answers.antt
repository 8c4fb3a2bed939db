use Rattle.std.proofs.Common.{ap, ◌∙◌}
use Rattle.member_keys.specs.Seen.{class_seen}
use Rattle.class_table.specs.Seen.{body_seen, classes_seen, method_seen}
use Rattle.class_rules.specs.Rules.{method_stands_well}
use Rattle.class_checks.specs.Bodies.{with_body}
use Rattle.member_tests.proofs.method.stands_alone.Goals as goal

pub returns : goal.returns
returns c =
    λ f file n.
    c.method_stands_well.ensures f file n
    ∙ ap (λ k. method_stands_well (classes_seen c.args.setting.now.table.now) (class_seen c.args.none) k (with_body (body_seen c.args.body) (method_seen file n c.args.method.now))) (c.no_class-class.ensures c.args.none.file f)
