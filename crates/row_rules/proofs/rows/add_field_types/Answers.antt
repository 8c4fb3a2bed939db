use Rattle.std.proofs.Common.{◌<◌, ◌≤◌, ap, ◌∙◌, arith}
use Rattle.file_tables.specs.Metadata.{row_count}
use Rattle.cil_rows.specs.declared.rows.FieldRow.{FieldRow}
use Rattle.kept_rules.specs.Row.{FieldAt, in_type}
use Rattle.world_rows.specs.Tokens.{fields, bytes_at}
use Rattle.world_rows.specs.Signatures.{field_signature}
use Rattle.row_rules.specs.Named.{named_by_field}
use Rattle.row_rules.proofs.LinkLaws.{row_added, rows_added}
use Rattle.row_rules.proofs.rows.add_field_types.Goals as goal

pub loop-n-preserved : goal.loop-n-preserved
loop-n-preserved c =
    let m = c.args.tables.now in
    let f = c.args.file in
    let within : c.loop-n.n < row_count m fields = omega arith in
    row_added m fields (FieldAt f) (named_by_field f m) c.args.rules.now c.loop-n.rules c.keep_field.new.rules c.loop-n.n (in_type f (field_signature m c.signature.result.now)) within c.loop-n.invariant
    (ap (λ b. in_type f (field_signature m b)) (c.signature.ensures ∙ ap (λ (r : FieldRow). bytes_at m r.signature) c.read_row-row.ensures))
    c.in_ok-keep_field.ensures

pub returns : goal.returns
returns c =
    let m = c.args.tables.now in
    let past : row_count m fields ≤ c.loop-n.n = omega arith in
    rows_added m fields (FieldAt c.args.file) (named_by_field c.args.file m) c.args.rules.now c.loop-n.rules c.loop-n.n past c.loop-n.invariant
