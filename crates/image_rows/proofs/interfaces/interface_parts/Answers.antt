use Rattle.std.proofs.Common.{◌≡◌, IfOk, List, map, subst, sym}
use Rattle.file_tables.specs.Metadata.{row_count, rows_of}
use Rattle.world_rows.specs.Tokens.{type_defs, interface_impls}
use Rattle.msspot_write.specs.declared.parts.PartRow.{PartRow}
use Rattle.kept_marks.specs.Masks.{masks_of}
use Rattle.image_rows.specs.Types.{AreColumns}
use Rattle.image_rows.proofs.TypeLaws.{interfaces_are}
use Rattle.image_rows.proofs.interfaces.interface_parts.Goals as goal

pub returns : goal.returns
returns c =
    let m = c.args.tables.now in
    let Made : List PartRow → Type 0 = λ made. IfOk c.ranged_parts.result (λ parts. parts ≡ made) in
    let are = subst (λ lists. AreColumns (rows_of m interface_impls) (row_count m type_defs) (map (λ list. list.items) lists)) (sym c.deref.ensures.value) c.in_ok-columns.ensures in
    subst Made (interfaces_are (masks_of c.args.choice.now) m (map (λ list. list.items) c.deref.result.now) are c.rows-count.result c.rows-count.ensures) c.ranged_parts.ensures
