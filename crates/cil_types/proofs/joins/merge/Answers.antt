use Rattle.std.proofs.Common.{◌∙◌, sym}
use Rattle.class_rules.specs.Merge.{merge_others}
use Rattle.class_table.specs.Seen.{classes_seen}
use Rattle.place_types.specs.Types.{stack_in}
use Rattle.cil_types.proofs.MergeLaws.{comes_down, has_row, merge_second, merge_rest}
use Rattle.cil_types.proofs.joins.merge.Goals as goal

pub returns-then-branch-2-clause-merged : goal.returns-then-branch-2-clause-merged
returns-then-branch-2-clause-merged c =
    λ spelt p same.
    merge_second (classes_seen c.args.order.now.table.now) p same (stack_in c.args.a.now) (stack_in c.args.b.now) (sym (c.in_ok-assignable.ensures p same) ∙ c.if-branch.false) (sym (c.in_ok-assignable-2.ensures p same) ∙ c.if-branch-2.true)

pub returns-clause-merged : goal.returns-clause-merged
returns-clause-merged c =
    λ spelt p same.
    comes_down c.in_ok-both.both (merge_others (classes_seen c.args.order.now.table.now) (stack_in c.args.a.now) (stack_in c.args.b.now)) (c.in_ok-both.ensures spelt)
    ∙ merge_rest (classes_seen c.args.order.now.table.now) p same (stack_in c.args.a.now) (stack_in c.args.b.now) (sym (c.in_ok-assignable.ensures p same) ∙ c.if-branch.false) (sym (c.in_ok-assignable-2.ensures p same) ∙ c.if-branch-2.false)

pub returns-clause-row : goal.returns-clause-row
returns-clause-row c =
    λ spelt first second.
    has_row c.in_ok-both.both (merge_others (classes_seen c.args.order.now.table.now) (stack_in c.args.a.now) (stack_in c.args.b.now)) (c.in_ok-both.ensures spelt)
