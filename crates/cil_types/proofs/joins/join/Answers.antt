use Rattle.std.proofs.Common.{◌≡◌, ◌∙◌, ◌<◌, sym, ap, subst, arith}
use Rattle.std.specs.Prelude.{IfOk}
use Rattle.std.specs.Option.{option_map}
use Rattle.machine_typed.specs.Typing.{StackType, O}
use Rattle.class_rules.specs.Merge.{above_both, of_classes}
use Rattle.member_keys.specs.Seen.{class_seen}
use Rattle.classes.specs.Queries.{class_of}
use Rattle.class_table.specs.Seen.{classes_seen}
use Rattle.place_types.specs.Types.{stack_up, type_of}
use Rattle.cil_types.specs.Rows.{type_in}
use Rattle.cil_types.specs.Spelt.{AreSpelt}
use Rattle.cil_types.proofs.MergeLaws.{both_arrays, not_both}
use Rattle.cil_types.proofs.joins.join.Goals as goal
use Rattle.cil_types.proofs.joins.join.Goals.{else-a-gt0-via-then-a-gt0+else-b-gt0, else-a-gt0-via-else-a-gt0}

pub returns-then-b-gt0 : goal.returns-then-b-gt0
returns-then-b-gt0 c =
    let cs = classes_seen c.args.order.now.table.now in
    let told = both_arrays cs c.args.a.now c.args.b.now c.base_of-a_base.result c.base_of-b_base.result c.base_of-a_base.ensures c.base_of-b_base.ensures c.if-a-gt0.true c.if-b-gt0.true ∙ sym (ap (above_both cs) c.requires.basic.array) in
    let P : StackType → Type 0 = λ x. IfOk c.references_of.result (λ place. AreSpelt cs → O (type_of place) ≡ stack_up x) in
    subst P (sym told) c.references_of.ensures

pub returns-else-a-gt0 : goal.returns-else-a-gt0
returns-else-a-gt0 c =
    let cs = classes_seen c.args.order.now.table.now in
    let few : 0 < c.args.a.now.ranks → c.args.b.now.ranks ≡ 0 = elim c.else-a-gt0.branch [ else-a-gt0-via-then-a-gt0+else-b-gt0 w ↦ (λ h. omega (arith, w.if-b-gt0.false)) | else-a-gt0-via-else-a-gt0 w ↦ (λ h. absurd (omega (arith, w.if-a-gt0.false, h))) ] in
    let told =
    not_both cs c.args.a.now c.args.b.now c.base_of-a_base.result c.base_of-b_base.result c.base_of-a_base.ensures c.base_of-b_base.ensures few
    ∙ ap (λ x. of_classes cs x (class_of cs (type_in c.args.b.now))) (sym c.class_in.ensures)
    ∙ ap (of_classes cs (option_map class_seen c.class_in.result)) (sym c.class_in-else-a-gt0.ensures) in
    let P : StackType → Type 0 = λ x. IfOk c.join_classes.result (λ place. AreSpelt cs → O (type_of place) ≡ stack_up x) in
    subst P (sym told) c.join_classes.ensures
