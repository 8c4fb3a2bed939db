use Rattle.std.proofs.Common.{get_or, subst, arith}
use Rattle.msspot_write.specs.Gathers.{Grows}
use Rattle.msspot_write.specs.Parts.{rows_of, tables, in_rows, names, signatures, data_bytes}
use Rattle.msspot_write.proofs.GatherLaws.{grows_step}
use Rattle.msspot_write.proofs.gather.Gathered.add_tables.Goals as goal

pub loop-table-preserved : goal.loop-table-preserved
loop-table-preserved c =
    let a = c.args.self.now in
    let b = c.loop-table.self in
    let d = c.add_rows.new.self in
    let p = c.args.parts.now in
    let rows = rows_of p (get_or tables c.loop-table.table-index 0) in
    let call : Grows b d (in_rows names rows) (in_rows signatures rows) (in_rows data_bytes rows) =
    subst (λ rs. Grows b d (in_rows names rs) (in_rows signatures rs) (in_rows data_bytes rs)) c.rows.ensures c.in_ok-add_rows.ensures in
    grows_step (λ t. in_rows names (rows_of p t)) (λ t. in_rows signatures (rows_of p t)) (λ t. in_rows data_bytes (rows_of p t)) tables c.loop-table.table-index 0 a b d (omega arith) c.loop-table.invariant call
