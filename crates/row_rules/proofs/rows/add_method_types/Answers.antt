use Rattle.std.proofs.Common.{◌<◌, ◌≤◌, ap, ◌∙◌, arith}
use Rattle.file_tables.specs.Metadata.{row_count}
use Rattle.cil_rows.specs.declared.rows.MethodDefRow.{MethodDefRow}
use Rattle.kept_rules.specs.Row.{MethodAt, in_signature}
use Rattle.world_rows.specs.Tokens.{methods, bytes_at}
use Rattle.world_rows.specs.Signatures.{method_signature}
use Rattle.row_rules.specs.Named.{named_by_method}
use Rattle.row_rules.proofs.LinkLaws.{row_added, rows_added}
use Rattle.row_rules.proofs.rows.add_method_types.Goals as goal

pub loop-n-preserved : goal.loop-n-preserved
loop-n-preserved c =
    let m = c.args.tables.now in
    let f = c.args.file in
    let within : c.loop-n.n < row_count m methods = omega arith in
    row_added m methods (MethodAt f) (named_by_method f m) c.args.rules.now c.loop-n.rules c.keep_method.new.rules c.loop-n.n (in_signature f (method_signature m c.signature.result.now)) within c.loop-n.invariant
    (ap (λ b. in_signature f (method_signature m b)) (c.signature.ensures ∙ ap (λ (r : MethodDefRow). bytes_at m r.signature) c.read_row-row.ensures))
    c.in_ok-keep_method.ensures

pub returns : goal.returns
returns c =
    let m = c.args.tables.now in
    let past : row_count m methods ≤ c.loop-n.n = omega arith in
    rows_added m methods (MethodAt c.args.file) (named_by_method c.args.file m) c.args.rules.now c.loop-n.rules c.loop-n.n past c.loop-n.invariant
