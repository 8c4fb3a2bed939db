use Rattle.std.proofs.Common.{◌<◌, subst, sym}
use Rattle.cil_build.specs.Build.{asked_of}
use Rattle.cil_layout.specs.Asked.{rows_of, table_of}
use Rattle.cil_layout.proofs.Counts.{counted_row}
use Rattle.cil_build.proofs.build.Build.push.Goals as goal

pub invariant_of-self-2 : goal.invariant_of-self-2
invariant_of-self-2 c =
    rw c.in_ok-push.ensures.items
    (counted_row (asked_of c.self.inside) c.args.row c.self.inside.counts c.count_row.new.counts c.self.inside.weight c.heavier_row-weight.result c.self.inside.text_place c.self.invariant
    (λ k below. rw (← c.table-table.ensures, ← c.data_rows-data_rows.ensures) (c.count_row.ensures k below))
    c.requires.table
    (subst (λ r. rows_of r (table_of c.args.row) < 65534) (sym c.self.view_is) c.requires.room)
    c.heavier_row-weight.ensures)
