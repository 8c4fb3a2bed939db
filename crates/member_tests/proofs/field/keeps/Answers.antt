use Rattle.std.proofs.Common.{ap, sym, ◌∙◌}
use Rattle.std.specs.Prelude.{◌&&◌, is_some}
use Rattle.class_table.specs.Seen.{field_kind_seen}
use Rattle.class_rules.specs.Rules.{is_data_kind, only_if}
use Rattle.member_tests.proofs.field.keeps.Goals as goal

pub returns-then-stands : goal.returns-then-stands
returns-then-stands c = λ n there has. c.has_bytes.ensures there has ∙ sym (ap (λ b. b && only_if (is_data_kind (field_kind_seen c.args.field.now.kind)) (is_some there)) (sym (c.stands.ensures n) ∙ c.if-stands.true))

pub returns-else-stands : goal.returns-else-stands
returns-else-stands c = λ n there has. c.if-stands.false ∙ sym (ap (λ b. b && only_if (is_data_kind (field_kind_seen c.args.field.now.kind)) (is_some there)) (sym (c.stands.ensures n) ∙ c.if-stands.false))
