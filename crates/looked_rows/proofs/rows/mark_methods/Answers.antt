use Rattle.std.proofs.Common.{◌<◌, ◌≤◌, ap, ◌∙◌, arith}
use Rattle.std.specs.Prelude.{slice_index}
use Rattle.cil_sig.specs.Reading.{whole_method}
use Rattle.world_rows.specs.Looked.{named_by_method}
use Rattle.file_tables.specs.Metadata.{row_count}
use Rattle.cil_rows.specs.declared.rows.MethodDefRow.{MethodDefRow}
use Rattle.world_rows.specs.Tokens.{methods, bytes_at}
use Rattle.looked_rows.proofs.LookLaws.{looks_row, looks_rows}
use Rattle.looked_rows.proofs.rows.mark_methods.Goals as goal

pub loop-n-preserved : goal.loop-n-preserved
loop-n-preserved c =
    let m = c.args.tables.now in
    let within : c.loop-n.n < row_count m methods = omega arith in
    looks_row m methods (λ row. named_by_method (whole_method (bytes_at m (slice_index row 4)))) c.args.looked.now c.loop-n.looked c.mark_method.new.looked c.loop-n.n (named_by_method (whole_method c.signature.result.now)) within c.loop-n.invariant
    (ap (λ b. named_by_method (whole_method b)) (c.signature.ensures ∙ ap (λ (r : MethodDefRow). bytes_at m r.signature) c.read_row-row.ensures))
    c.in_ok-mark_method.ensures

pub returns : goal.returns
returns c =
    let m = c.args.tables.now in
    let past : row_count m methods ≤ c.loop-n.n = omega arith in
    looks_rows m methods (λ row. named_by_method (whole_method (bytes_at m (slice_index row 4)))) c.args.looked.now c.loop-n.looked c.loop-n.n past c.loop-n.invariant
