use Rattle.std.proofs.Common.{◌<◌, ◌≤◌, ap, arith}
use Rattle.file_tables.specs.Metadata.{row_count}
use Rattle.cil_rows.specs.declared.rows.TypeDefRow.{TypeDefRow}
use Rattle.kept_rules.specs.Row.{TypeAt, in_option, token_row}
use Rattle.world_rows.specs.Rows.{first_of}
use Rattle.world_rows.specs.Tokens.{type_defs, superclass_token}
use Rattle.row_rules.specs.Named.{named_by_extends}
use Rattle.row_rules.proofs.LinkLaws.{row_added, rows_added}
use Rattle.row_rules.proofs.rows.add_extends.Goals as goal

pub loop-n-preserved : goal.loop-n-preserved
loop-n-preserved c =
    let m = c.args.tables.now in
    let f = c.args.file in
    let within : c.loop-n.n < row_count m type_defs = omega arith in
    row_added m type_defs (TypeAt f) (named_by_extends f m) c.args.rules.now c.loop-n.rules c.keep_extends.new.rules c.loop-n.n (in_option (token_row f) (first_of (superclass_token m c.read_row-row.result.extends))) within c.loop-n.invariant
    (ap (λ (r : TypeDefRow). in_option (token_row f) (first_of (superclass_token m r.extends))) c.read_row-row.ensures)
    c.in_ok-keep_extends.ensures

pub returns : goal.returns
returns c =
    let m = c.args.tables.now in
    let past : row_count m type_defs ≤ c.loop-n.n = omega arith in
    rows_added m type_defs (TypeAt c.args.file) (named_by_extends c.args.file m) c.args.rules.now c.loop-n.rules c.loop-n.n past c.loop-n.invariant
