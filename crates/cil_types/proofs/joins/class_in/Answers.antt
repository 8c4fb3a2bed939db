use Rattle.std.proofs.Common.{◌≡◌, ◌∙◌, sym, arith}
use Rattle.class_table.specs.Seen.{classes_seen}
use Rattle.cil_types.proofs.MergeLaws.{base_class}
use Rattle.cil_types.proofs.joins.class_in.Goals as goal

pub returns-else-of-gt0 : goal.returns-else-of-gt0
returns-else-of-gt0 c =
    let none : c.args.of.now.ranks ≡ 0 = omega arith in
    c.class_of.ensures ∙ sym (base_class (classes_seen c.args.order.now.table.now) c.args.of.now c.base_of-base.result c.base_of-base.ensures none)
