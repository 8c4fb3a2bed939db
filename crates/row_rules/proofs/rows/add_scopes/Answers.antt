use Rattle.std.proofs.Common.{◌<◌, ◌≤◌, ap, arith}
use Rattle.file_tables.specs.Metadata.{row_count}
use Rattle.cil_rows.specs.declared.rows.TypeRefRow.{TypeRefRow}
use Rattle.kept_rules.specs.Row.{TypeRefAt, in_scope}
use Rattle.world_rows.specs.Tokens.{type_refs, scope_of}
use Rattle.row_rules.specs.Named.{named_by_ref}
use Rattle.row_rules.proofs.LinkLaws.{row_added, rows_added}
use Rattle.row_rules.proofs.rows.add_scopes.Goals as goal

pub loop-n-preserved : goal.loop-n-preserved
loop-n-preserved c =
    let m = c.args.tables.now in
    let f = c.args.file in
    let within : c.loop-n.n < row_count m type_refs = omega arith in
    row_added m type_refs (TypeRefAt f) (named_by_ref f m) c.args.rules.now c.loop-n.rules c.keep_scope.new.rules c.loop-n.n (in_scope f (scope_of m c.read_row-row.result.scope)) within c.loop-n.invariant
    (ap (λ (r : TypeRefRow). in_scope f (scope_of m r.scope)) c.read_row-row.ensures)
    c.in_ok-keep_scope.ensures

pub returns : goal.returns
returns c =
    let m = c.args.tables.now in
    let past : row_count m type_refs ≤ c.loop-n.n = omega arith in
    rows_added m type_refs (TypeRefAt c.args.file) (named_by_ref c.args.file m) c.args.rules.now c.loop-n.rules c.loop-n.n past c.loop-n.invariant
