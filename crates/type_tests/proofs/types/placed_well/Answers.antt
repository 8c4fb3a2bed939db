use Rattle.std.proofs.Common.{ap, sym, ◌∙◌}
use Rattle.std.specs.Prelude.{◌&&◌, not}
use Rattle.world_rows.specs.World.{assemblies_of}
use Rattle.member_keys.specs.Seen.{class_seen}
use Rattle.class_table.specs.Seen.{classes_seen}
use Rattle.class_rules.specs.Rules.{is_enclosed_well}
use Rattle.verdict_rules.specs.Types.{is_type_before}
use Rattle.type_tests.proofs.TypeLaws.{before_is}
use Rattle.type_tests.proofs.types.placed_well.Goals as goal

pub returns-then-is_enclosed_well : goal.returns-then-is_enclosed_well
returns-then-is_enclosed_well c =
    let j = c.args.judged.now in
    let s = j.subject.now in
    let m = j.tables.now in
    let n = j.class.row in
    ap not
    (c.is_named_before.ensures
    ∙ c.requires.columns.repeats n c.requires.within
    ∙ sym (before_is s.world.now j.class.file m c.requires.tables n c.requires.within))
    ∙ sym
    (ap (λ b. b && not (is_type_before (assemblies_of s.world.now) (class_seen j.class)))
    (ap (λ k. is_enclosed_well k (classes_seen s.setting.table.now) (class_seen j.class)) (sym c.count_types.ensures) ∙ sym c.is_enclosed_well.ensures ∙ c.if-is_enclosed_well.true))

pub returns-else-is_enclosed_well : goal.returns-else-is_enclosed_well
returns-else-is_enclosed_well c =
    let j = c.args.judged.now in
    let s = j.subject.now in
    c.if-is_enclosed_well.false
    ∙ sym
    (ap (λ b. b && not (is_type_before (assemblies_of s.world.now) (class_seen j.class)))
    (ap (λ k. is_enclosed_well k (classes_seen s.setting.table.now) (class_seen j.class)) (sym c.count_types.ensures) ∙ sym c.is_enclosed_well.ensures ∙ c.if-is_enclosed_well.false))
