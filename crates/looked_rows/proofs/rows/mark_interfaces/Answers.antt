use Rattle.std.proofs.Common.{◌<◌, ap, arith, ◌∷◌, []}
use Rattle.std.specs.Prelude.{slice_index}
use Rattle.file_tables.specs.declared.schema.Coded.TheVariants.{TypeDefOrRef}
use Rattle.world_rows.specs.Looked.{token_from}
use Rattle.file_tables.specs.Metadata.{row_count}
use Rattle.cil_rows.specs.declared.rows.InterfaceImplRow.{InterfaceImplRow}
use Rattle.world_rows.specs.Tokens.{interface_impls}
use Rattle.looked_rows.proofs.LookLaws.{looks_row}
use Rattle.looked_rows.proofs.rows.mark_interfaces.Goals as goal

pub loop-n-preserved : goal.loop-n-preserved
loop-n-preserved c =
    let m = c.args.tables.now in
    let within : c.loop-n.n < row_count m interface_impls = omega arith in
    looks_row m interface_impls (λ row. token_from TypeDefOrRef (slice_index row 1) ∷ []) c.args.looked.now c.loop-n.looked c.mark_coded.new.looked c.loop-n.n (token_from TypeDefOrRef c.read_row-row.result.interface ∷ []) within c.loop-n.invariant
    (ap (λ (r : InterfaceImplRow). token_from TypeDefOrRef r.interface ∷ []) c.read_row-row.ensures)
    c.mark_coded.ensures
