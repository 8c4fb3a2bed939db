use Rattle.std.proofs.Common.{ap, sym, ◌∙◌}
use Rattle.std.specs.Prelude.{◌&&◌, unwrap_or}
use Rattle.std.specs.Option.{option_map}
use Rattle.machine.specs.Throw.{on_some}
use Rattle.classes.specs.Classes.{OwnMethod}
use Rattle.assemblies.specs.Binding.{id_at}
use Rattle.member_keys.specs.Seen.{class_seen}
use Rattle.class_table.specs.Seen.{class_row, classes_seen, method_seen}
use Rattle.class_rules.specs.Rules.{method_stands_well}
use Rattle.verdict_rules.specs.Members.{no_class, with_body}
use Rattle.member_tests.specs.Rows.{columns_of}
use Rattle.member_tests.proofs.method.keeps.Goals as goal

pub returns-then-is_plain : goal.returns-then-is_plain
returns-then-is_plain c =
    λ f n.
    let cs = classes_seen c.args.setting.now.table.now in
    let own = with_body (columns_of c.args.row.now) (method_seen c.args.file n c.args.method.now) in
    c.stands.ensures f n
    ∙ ap (λ (m : OwnMethod). unwrap_or (on_some (option_map (id_at c.args.file) c.args.method.now.owner) (λ d. option_map (λ k. method_stands_well cs d k m) (class_row c.args.setting.now.table.now d))) (method_stands_well cs (class_seen c.args.none) no_class m)) (c.body_of.ensures c.args.file n)
    ∙ sym
    (ap (λ b. b && unwrap_or (on_some (option_map (id_at c.args.file) c.args.method.now.owner) (λ d. option_map (λ k. method_stands_well cs d k own) (class_row c.args.setting.now.table.now d))) (method_stands_well cs (class_seen c.args.none) no_class own)) (sym c.is_plain.ensures ∙ c.if-is_plain.true))

pub returns-else-is_plain : goal.returns-else-is_plain
returns-else-is_plain c =
    λ f n.
    let cs = classes_seen c.args.setting.now.table.now in
    let own = with_body (columns_of c.args.row.now) (method_seen c.args.file n c.args.method.now) in
    c.if-is_plain.false
    ∙ sym
    (ap (λ b. b && unwrap_or (on_some (option_map (id_at c.args.file) c.args.method.now.owner) (λ d. option_map (λ k. method_stands_well cs d k own) (class_row c.args.setting.now.table.now d))) (method_stands_well cs (class_seen c.args.none) no_class own)) (sym c.is_plain.ensures ∙ c.if-is_plain.false))
