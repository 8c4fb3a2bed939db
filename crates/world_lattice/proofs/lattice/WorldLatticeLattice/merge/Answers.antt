use Rattle.std.proofs.Common.{◌≡◌, subst}
use Rattle.std.specs.Prelude.{IfOk}
use Rattle.class_table.specs.declared.rows.ClassTable.{ClassTable}
use Rattle.class_table.specs.Seen.{classes_seen}
use Rattle.world_lattice.specs.Order.{Merges}
use Rattle.world_lattice.proofs.OrderLaws.{merge_told}
use Rattle.world_lattice.proofs.lattice.WorldLatticeLattice.merge.Goals as goal

pub returns : goal.returns
returns c =
    let t = c.self.inside.order.now.table.now in
    let P : ClassTable → Type 0 = λ x. IfOk c.merge.result (λ both. Merges (classes_seen x) c.args.a.now c.args.b.now both) in
    subst P c.self.view_is (merge_told (classes_seen t) c.args.a.now c.args.b.now c.rowed.result c.rowed-2.result c.rowed.ensures c.rowed-2.ensures c.merge.result c.merge.ensures.merged c.merge.ensures.row)
