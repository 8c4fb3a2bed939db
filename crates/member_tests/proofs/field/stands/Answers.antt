use Rattle.std.proofs.Common.{ap, sym, ◌∙◌}
use Rattle.std.specs.Option.{option_map}
use Rattle.machine.specs.Data.{Id}
use Rattle.assemblies.specs.Binding.{id_at}
use Rattle.class_table.specs.Seen.{class_row, field_seen}
use Rattle.class_rules.specs.Rules.{holds_some, field_stands_well}
use Rattle.verdict_rules.specs.Members.{of_member}
use Rattle.member_tests.proofs.field.stands.Goals as goal

pub returns-in-Some : goal.returns-in-Some
returns-in-Some c =
    λ n.
    c.stands_in.ensures c.args.file n
    ∙ ap (λ (d : Id). holds_some (class_row c.args.table.now d) (λ k. field_stands_well d k (field_seen c.args.file n c.args.field.now))) c.class_in.ensures
    ∙ sym (ap (λ o. of_member (option_map (id_at c.args.file) o) (λ d. holds_some (class_row c.args.table.now d) (λ k. field_stands_well d k (field_seen c.args.file n c.args.field.now)))) c.in-Some.is)

pub returns-in-None : goal.returns-in-None
returns-in-None c = λ n. sym (ap (λ o. of_member (option_map (id_at c.args.file) o) (λ d. holds_some (class_row c.args.table.now d) (λ k. field_stands_well d k (field_seen c.args.file n c.args.field.now)))) c.in-None.is)
