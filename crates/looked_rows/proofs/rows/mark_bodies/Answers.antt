use Rattle.std.proofs.Common.{◌<◌, ◌≤◌, ap, ◌∙◌, arith}
use Rattle.std.specs.Prelude.{slice_index}
use Rattle.world_rows.specs.Lines.{body_part}
use Rattle.world_rows.specs.Looked.{named_by_body}
use Rattle.looked_rows.specs.Looked.{file_with}
use Rattle.file_tables.specs.Metadata.{row_count}
use Rattle.cil_rows.specs.declared.rows.MethodDefRow.{MethodDefRow}
use Rattle.world_rows.specs.Tokens.{methods}
use Rattle.looked_rows.proofs.LookLaws.{looks_row, looks_rows}
use Rattle.looked_rows.proofs.rows.mark_bodies.Goals as goal

pub loop-n-preserved : goal.loop-n-preserved
loop-n-preserved c =
    let m = c.args.tables.now in
    let within : c.loop-n.n < row_count m methods = omega arith in
    record {
      same = c.read_body-body.ensures.same ∙ c.loop-n.invariant.same;
      looks = looks_row m methods (λ row. named_by_body (body_part (file_with c.args.pe.now m) (slice_index row 0))) c.args.looked.now c.loop-n.looked c.mark_body.new.looked c.loop-n.n (named_by_body c.read_body-body.result) within c.loop-n.invariant.looks
          (ap named_by_body (c.read_body-body.ensures.body ∙ ap (λ p. body_part (file_with p m) c.read_row-row.result.rva) c.loop-n.invariant.same ∙ ap (λ (r : MethodDefRow). body_part (file_with c.args.pe.now m) r.rva) c.read_row-row.ensures))
          c.in_ok-mark_body.ensures;
    }

pub returns : goal.returns
returns c =
    let m = c.args.tables.now in
    let past : row_count m methods ≤ c.loop-n.n = omega arith in
    looks_rows m methods (λ row. named_by_body (body_part (file_with c.args.pe.now m) (slice_index row 0))) c.args.looked.now c.loop-n.looked c.loop-n.n past c.loop-n.invariant.looks
