use Rattle.std.proofs.Common.{◌<◌, ap, ◌∙◌, arith}
use Rattle.std.specs.Prelude.{slice_index}
use Rattle.cil_sig.specs.Reading.{whole_field}
use Rattle.world_rows.specs.Looked.{named_by_field}
use Rattle.file_tables.specs.Metadata.{row_count}
use Rattle.cil_rows.specs.declared.rows.FieldRow.{FieldRow}
use Rattle.world_rows.specs.Tokens.{fields, bytes_at}
use Rattle.looked_rows.proofs.LookLaws.{looks_row}
use Rattle.looked_rows.proofs.rows.mark_fields.Goals as goal

pub loop-n-preserved : goal.loop-n-preserved
loop-n-preserved c =
    let m = c.args.tables.now in
    let within : c.loop-n.n < row_count m fields = omega arith in
    looks_row m fields (λ row. named_by_field (whole_field (bytes_at m (slice_index row 2)))) c.args.looked.now c.loop-n.looked c.mark_field.new.looked c.loop-n.n (named_by_field (whole_field c.signature.result.now)) within c.loop-n.invariant
    (ap (λ b. named_by_field (whole_field b)) (c.signature.ensures ∙ ap (λ (r : FieldRow). bytes_at m r.signature) c.read_row-row.ensures))
    c.mark_field.ensures
