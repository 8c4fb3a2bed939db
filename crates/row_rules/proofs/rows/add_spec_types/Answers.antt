use Rattle.std.proofs.Common.{◌<◌, ◌≤◌, ap, ◌∙◌, arith}
use Rattle.file_tables.specs.Metadata.{row_count}
use Rattle.cil_rows.specs.declared.rows.TypeSpecRow.{TypeSpecRow}
use Rattle.kept_rules.specs.Row.{SpecAt, in_type}
use Rattle.world_rows.specs.Tokens.{type_specs, bytes_at}
use Rattle.world_rows.specs.Signatures.{spec_signature}
use Rattle.row_rules.specs.Named.{named_by_spec}
use Rattle.row_rules.proofs.LinkLaws.{row_added, rows_added}
use Rattle.row_rules.proofs.rows.add_spec_types.Goals as goal

pub loop-n-preserved : goal.loop-n-preserved
loop-n-preserved c =
    let m = c.args.tables.now in
    let f = c.args.file in
    let within : c.loop-n.n < row_count m type_specs = omega arith in
    row_added m type_specs (SpecAt f) (named_by_spec f m) c.args.rules.now c.loop-n.rules c.keep_spec.new.rules c.loop-n.n (in_type f (spec_signature m c.signature.result.now)) within c.loop-n.invariant
    (ap (λ b. in_type f (spec_signature m b)) (c.signature.ensures ∙ ap (λ (r : TypeSpecRow). bytes_at m r.signature) c.read_row-row.ensures))
    c.in_ok-keep_spec.ensures

pub returns : goal.returns
returns c =
    let m = c.args.tables.now in
    let past : row_count m type_specs ≤ c.loop-n.n = omega arith in
    rows_added m type_specs (SpecAt c.args.file) (named_by_spec c.args.file m) c.args.rules.now c.loop-n.rules c.loop-n.n past c.loop-n.invariant
