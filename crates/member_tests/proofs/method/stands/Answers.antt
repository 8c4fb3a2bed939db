use Rattle.std.proofs.Common.{ℕ, Option, ap, sym, ◌∙◌}
use Rattle.std.specs.Prelude.{unwrap_or}
use Rattle.std.specs.Option.{option_map}
use Rattle.machine.specs.Data.{Id}
use Rattle.machine.specs.Throw.{on_some}
use Rattle.assemblies.specs.Binding.{id_at}
use Rattle.member_keys.specs.Seen.{class_seen}
use Rattle.class_table.specs.Seen.{body_seen, class_row, classes_seen, method_seen}
use Rattle.class_rules.specs.Rules.{method_stands_well}
use Rattle.class_checks.specs.Bodies.{with_body}
use Rattle.verdict_rules.specs.Members.{no_class}
use Rattle.member_tests.proofs.method.stands.Goals as goal

pub returns-in-Some : goal.returns-in-Some
returns-in-Some c =
    λ f n.
    let cs = classes_seen c.args.setting.now.table.now in
    let own = with_body (body_seen c.args.body) (method_seen c.args.file n c.args.method.now) in
    c.stands_in.ensures f c.args.file n
    ∙ ap (λ (d : Id). unwrap_or (option_map (λ k. method_stands_well cs d k own) (class_row c.args.setting.now.table.now d)) (method_stands_well cs (class_seen c.args.none) no_class own)) c.class_in.ensures
    ∙ sym (ap (λ (o : Option ℕ). unwrap_or (on_some (option_map (id_at c.args.file) o) (λ d. option_map (λ k. method_stands_well cs d k own) (class_row c.args.setting.now.table.now d))) (method_stands_well cs (class_seen c.args.none) no_class own)) c.in-Some.is)

pub returns-in-None : goal.returns-in-None
returns-in-None c =
    λ f n.
    let cs = classes_seen c.args.setting.now.table.now in
    let own = with_body (body_seen c.args.body) (method_seen c.args.file n c.args.method.now) in
    c.stands_alone.ensures f c.args.file n
    ∙ sym (ap (λ (o : Option ℕ). unwrap_or (on_some (option_map (id_at c.args.file) o) (λ d. option_map (λ k. method_stands_well cs d k own) (class_row c.args.setting.now.table.now d))) (method_stands_well cs (class_seen c.args.none) no_class own)) c.in-None.is)
