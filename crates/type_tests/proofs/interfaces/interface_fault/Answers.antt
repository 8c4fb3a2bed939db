use Rattle.std.proofs.Common.{◌≡◌, ◌<◌, suc, ap, sym, ◌∙◌, arith}
use Rattle.std.specs.Prelude.{slice_index}
use Rattle.file_tables.specs.Metadata.{row_count, row_of}
use Rattle.world_rows.specs.Tokens.{interface_impls}
use Rattle.cil_rows.specs.declared.rows.InterfaceImplRow.{InterfaceImplRow}
use Rattle.type_names.proofs.RowLoops.{row_is}
use Rattle.type_tests.proofs.TypeLaws.{interface_told}
use Rattle.type_tests.proofs.interfaces.interface_fault.Goals as goal

pub returns : goal.returns
returns c x at =
    let s = c.args.subject.now in
    let m = c.tables-tables.result.now in
    let within : c.args.n < row_count m interface_impls = omega (arith, c.rows.ensures, c.if-n-rows.false) in
    let column : slice_index (row_of m interface_impls (suc c.args.n)) 1 ≡ c.read_row-row.result.interface = ap (λ r. slice_index r 1) (sym (row_is m interface_impls c.args.n)) ∙ sym (ap (λ (d : InterfaceImplRow). d.interface) c.read_row-row.ensures) in
    interface_told s.world.now s.setting.table.now c.requires.subject.table c.args.file m c.tables-tables.ensures x at c.args.n within c.read_row-row.result.interface c.interface_well.result c.unless_kept.result column c.interface_well.ensures c.unless_kept.ensures
