use Rattle.std.proofs.Common.{ap, sym, ◌∙◌}
use Rattle.std.specs.Prelude.{unwrap_or}
use Rattle.std.specs.Option.{option_copied, option_map}
use Rattle.member_keys.specs.Seen.{class_seen}
use Rattle.class_table.specs.Seen.{body_seen, classes_seen, method_seen}
use Rattle.class_rules.specs.Rules.{method_stands_well}
use Rattle.class_checks.specs.Bodies.{with_body}
use Rattle.verdict_rules.specs.Members.{no_class}
use Rattle.member_tests.proofs.ClassLaws.{class_found, class_missing}
use Rattle.member_tests.proofs.method.stands_in.Goals as goal

pub returns-in-Some : goal.returns-in-Some
returns-in-Some c =
    let found = class_found c.args.setting.now.table.now (class_seen c.args.class) c.in-Some.row.now (sym c.find_class.ensures ∙ ap option_copied c.in-Some.is) in
    λ f file n.
    c.method_stands_well.ensures found.0 file n
    ∙ sym
    (ap (λ o. unwrap_or (option_map (λ k. method_stands_well (classes_seen c.args.setting.now.table.now) (class_seen c.args.class) k (with_body (body_seen c.args.body) (method_seen file n c.args.method.now))) o) (method_stands_well (classes_seen c.args.setting.now.table.now) (class_seen c.args.none) no_class (with_body (body_seen c.args.body) (method_seen file n c.args.method.now))))
    found.1)

pub returns-in-None : goal.returns-in-None
returns-in-None c =
    let missing = class_missing c.args.setting.now.table.now (class_seen c.args.class) (sym c.find_class.ensures ∙ ap option_copied c.in-None.is) in
    λ f file n.
    c.stands_alone.ensures f file n
    ∙ sym
    (ap (λ o. unwrap_or (option_map (λ k. method_stands_well (classes_seen c.args.setting.now.table.now) (class_seen c.args.class) k (with_body (body_seen c.args.body) (method_seen file n c.args.method.now))) o) (method_stands_well (classes_seen c.args.setting.now.table.now) (class_seen c.args.none) no_class (with_body (body_seen c.args.body) (method_seen file n c.args.method.now))))
    missing)
