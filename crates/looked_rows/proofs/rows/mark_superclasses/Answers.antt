use Rattle.std.proofs.Common.{◌<◌, ap, arith}
use Rattle.std.specs.Prelude.{slice_index}
use Rattle.world_rows.specs.Looked.{named_by_extends}
use Rattle.file_tables.specs.Metadata.{row_count}
use Rattle.cil_rows.specs.declared.rows.TypeDefRow.{TypeDefRow}
use Rattle.world_rows.specs.Tokens.{type_defs}
use Rattle.looked_rows.proofs.LookLaws.{looks_row}
use Rattle.looked_rows.proofs.rows.mark_superclasses.Goals as goal

pub loop-n-preserved : goal.loop-n-preserved
loop-n-preserved c =
    let m = c.args.tables.now in
    let within : c.loop-n.n < row_count m type_defs = omega arith in
    looks_row m type_defs (λ row. named_by_extends (slice_index row 3)) c.args.looked.now c.loop-n.looked c.mark_extends.new.looked c.loop-n.n (named_by_extends c.read_row-row.result.extends) within c.loop-n.invariant
    (ap (λ (r : TypeDefRow). named_by_extends r.extends) c.read_row-row.ensures)
    c.mark_extends.ensures
