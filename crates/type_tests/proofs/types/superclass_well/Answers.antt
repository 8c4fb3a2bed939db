use Rattle.std.proofs.Common.{ap, sym, ◌∙◌}
use Rattle.std.specs.Prelude.{◌&&◌}
use Rattle.world_rows.specs.World.{rows_alone, type_count}
use Rattle.member_keys.specs.Seen.{class_seen}
use Rattle.class_table.specs.Seen.{classes_seen}
use Rattle.class_rules.specs.Rules.{extends_well}
use Rattle.type_tests.specs.Judged.{class_at, columns_at}
use Rattle.type_tests.proofs.types.superclass_well.Goals as goal

pub returns-then-is_found : goal.returns-then-is_found
returns-then-is_found c f =
    let j = c.args.judged.now in
    let s = j.subject.now in
    c.extends_well.ensures f
    ∙ ap (λ n. extends_well n (classes_seen s.setting.table.now) (class_seen j.class) (class_at f j)) c.count_types.ensures
    ∙ sym
    (ap (λ b. b && extends_well (type_count (rows_alone s.world.now)) (classes_seen s.setting.table.now) (class_seen j.class) (class_at f j))
    (sym (c.is_found.ensures j.class.file f (columns_at j) c.requires.extends) ∙ c.if-is_found.true))

pub returns-else-is_found : goal.returns-else-is_found
returns-else-is_found c f =
    let j = c.args.judged.now in
    let s = j.subject.now in
    c.if-is_found.false
    ∙ sym
    (ap (λ b. b && extends_well (type_count (rows_alone s.world.now)) (classes_seen s.setting.table.now) (class_seen j.class) (class_at f j))
    (sym (c.is_found.ensures j.class.file f (columns_at j) c.requires.extends) ∙ c.if-is_found.false))
