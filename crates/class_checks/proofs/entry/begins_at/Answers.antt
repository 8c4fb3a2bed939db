use Rattle.std.proofs.Common.{ap, sym, ◌∙◌}
use Rattle.std.specs.Prelude.{◌&&◌}
use Rattle.member_keys.specs.Seen.{class_seen}
use Rattle.assemblies.specs.Binding.{holds}
use Rattle.class_table.specs.Seen.{classes_seen, method_seen}
use Rattle.class_rules.specs.Rules.{holds_some, is_main}
use Rattle.class_checks.proofs.entry.begins_at.Goals as goal

pub returns-then-has_method : goal.returns-then-has_method
returns-then-has_method c file n =
    c.is_main.ensures file n
    ∙ ap (λ b. b && is_main (classes_seen c.args.table.now) (class_seen c.args.owner) (method_seen file n c.args.method.now)) (sym c.if-has_method.true ∙ c.has_method.ensures)
    ∙ ap (λ o. holds_some o (λ k. holds k.first_method k.method_count c.args.row && is_main (classes_seen c.args.table.now) (class_seen c.args.owner) (method_seen file n c.args.method.now))) c.in-Some.ensures
