use Rattle.std.proofs.Common.{◌<◌, ap, ◌∙◌, arith}
use Rattle.file_tables.specs.declared.schema.Coded.TheVariants.{TypeDefOrRef}
use Rattle.file_tables.specs.Metadata.{row_count}
use Rattle.cil_rows.specs.declared.rows.InterfaceImplRow.{InterfaceImplRow}
use Rattle.kept_rules.specs.Row.{TypeAt, by_type}
use Rattle.world_rows.specs.Tokens.{interface_impls, type_defs, from_zero, coded_type}
use Rattle.row_rules.specs.declared.rules.RowPlace.{RowPlace}
use Rattle.row_rules.specs.Links.{row_at, keeps}
use Rattle.row_rules.specs.Named.{interface_link}
use Rattle.row_rules.proofs.LinkLaws.{link_added}
use Rattle.row_rules.proofs.references.add_interfaces.Goals as goal

pub loop-n-preserved : goal.loop-n-preserved
loop-n-preserved c =
    let m = c.args.tables.now in
    let f = c.args.file in
    let within : c.loop-n.n < row_count m interface_impls = omega arith in
    link_added m interface_impls (interface_link f m) c.args.rules.now c.loop-n.rules c.keep_coded.new.rules c.loop-n.n
    (keeps (row_at c.place-class.result) (by_type c.place-class.result.file (coded_type m TypeDefOrRef c.read_row-row.result.interface))) within c.loop-n.invariant
    (ap (λ (p : RowPlace). keeps (row_at p) (by_type p.file (coded_type m TypeDefOrRef c.read_row-row.result.interface))) c.place-class.ensures
    ∙ ap (λ (r : InterfaceImplRow). keeps (TypeAt f (from_zero (row_count m type_defs) r.class)) (by_type f (coded_type m TypeDefOrRef r.interface))) c.read_row-row.ensures)
    c.in_ok-keep_coded.ensures
