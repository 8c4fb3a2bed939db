use Rattle.std.proofs.Common.{ap, sym, ◌∙◌}
use Rattle.std.specs.Prelude.{◌&&◌, ◌/◌, ◌%◌, ◌==◌}
use Rattle.classes.specs.Queries.{own_instance_fields}
use Rattle.member_keys.specs.Seen.{class_seen}
use Rattle.class_table.specs.Seen.{classes_seen}
use Rattle.class_rules.specs.Rules.{is_none_there, only_if}
use Rattle.type_tests.specs.Judged.{placed_well}
use Rattle.type_tests.proofs.types.laid_well.Goals as goal

pub returns-then-layout_well : goal.returns-then-layout_well
returns-then-layout_well c =
    let j = c.args.judged.now in
    c.placed_well.ensures
    ∙ sym
    (ap (λ b. b && placed_well j)
    (ap (λ k. only_if ((k / 8) % 4 == 2) (is_none_there (own_instance_fields (classes_seen j.subject.now.setting.table.now) (class_seen j.class)))) c.requires.flags ∙ sym c.layout_well.ensures ∙ c.if-layout_well.true))

pub returns-else-layout_well : goal.returns-else-layout_well
returns-else-layout_well c =
    let j = c.args.judged.now in
    c.if-layout_well.false
    ∙ sym
    (ap (λ b. b && placed_well j)
    (ap (λ k. only_if ((k / 8) % 4 == 2) (is_none_there (own_instance_fields (classes_seen j.subject.now.setting.table.now) (class_seen j.class)))) c.requires.flags ∙ sym c.layout_well.ensures ∙ c.if-layout_well.false))
