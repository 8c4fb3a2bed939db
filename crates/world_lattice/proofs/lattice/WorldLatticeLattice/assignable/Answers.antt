use Rattle.std.proofs.Common.{◌≡◌, subst}
use Rattle.std.specs.Prelude.{IfOk}
use Rattle.class_table.specs.declared.rows.ClassTable.{ClassTable}
use Rattle.class_table.specs.Seen.{classes_seen}
use Rattle.world_lattice.specs.Order.{is_assignable}
use Rattle.world_lattice.proofs.OrderLaws.{assignable_told}
use Rattle.world_lattice.proofs.lattice.WorldLatticeLattice.assignable.Goals as goal

pub returns : goal.returns
returns c =
    let t = c.self.inside.order.now.table.now in
    let P : ClassTable → Type 0 = λ x. IfOk c.assignable.result (λ answer. answer ≡ is_assignable (classes_seen x) c.args.from.now c.args.to.now) in
    subst P c.self.view_is (assignable_told (classes_seen t) c.args.from.now c.args.to.now c.rowed.result c.rowed-2.result c.rowed.ensures c.rowed-2.ensures c.assignable.result c.assignable.ensures)
