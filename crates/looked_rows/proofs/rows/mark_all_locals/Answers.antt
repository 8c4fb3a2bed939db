use Rattle.std.proofs.Common.{◌<◌, ◌≤◌, ap, ◌∙◌, arith}
use Rattle.std.specs.Prelude.{slice_index}
use Rattle.cil_sig.specs.Reading.{whole_locals}
use Rattle.world_rows.specs.Looked.{named_by_locals}
use Rattle.file_tables.specs.Metadata.{row_count}
use Rattle.cil_rows.specs.declared.rows.StandAloneSigRow.{StandAloneSigRow}
use Rattle.world_rows.specs.Tokens.{locals_signatures, bytes_at}
use Rattle.looked_rows.proofs.LookLaws.{looks_row, looks_rows}
use Rattle.looked_rows.proofs.rows.mark_all_locals.Goals as goal

pub loop-n-preserved : goal.loop-n-preserved
loop-n-preserved c =
    let m = c.args.tables.now in
    let within : c.loop-n.n < row_count m locals_signatures = omega arith in
    looks_row m locals_signatures (λ row. named_by_locals (whole_locals (bytes_at m (slice_index row 0)))) c.args.looked.now c.loop-n.looked c.mark_locals.new.looked c.loop-n.n (named_by_locals (whole_locals c.signature.result.now)) within c.loop-n.invariant
    (ap (λ b. named_by_locals (whole_locals b)) (c.signature.ensures ∙ ap (λ (r : StandAloneSigRow). bytes_at m r.signature) c.read_row-row.ensures))
    c.in_ok-mark_locals.ensures

pub returns : goal.returns
returns c =
    let m = c.args.tables.now in
    let past : row_count m locals_signatures ≤ c.loop-n.n = omega arith in
    looks_rows m locals_signatures (λ row. named_by_locals (whole_locals (bytes_at m (slice_index row 0)))) c.args.looked.now c.loop-n.looked c.loop-n.n past c.loop-n.invariant
