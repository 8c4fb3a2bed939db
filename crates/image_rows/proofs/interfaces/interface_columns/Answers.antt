use Rattle.std.proofs.Common.{◌≤◌, length, map, arith, subst, ◌∙◌}
use Rattle.std.proofs.lemmas.List.{take_all}
use Rattle.file_tables.specs.Metadata.{rows_of, row_count}
use Rattle.world_rows.specs.Tokens.{interface_impls, type_defs}
use Rattle.image_rows.specs.Types.{AreColumns}
use Rattle.image_rows.proofs.InterfaceLaws.{none_named}
use Rattle.image_rows.proofs.interfaces.interface_columns.Goals as goal

pub loop-n-init : goal.loop-n-init
loop-n-init c = none_named (row_count c.args.tables.now type_defs) _ (c.in_ok-lists.ensures.size ∙ c.rows.ensures) c.in_ok-lists.ensures.empty

pub returns : goal.returns
returns c =
    let over : length (rows_of c.args.tables.now interface_impls) ≤ c.loop-n.n = omega arith in
    subst (λ impls. AreColumns impls (row_count c.args.tables.now type_defs) (map (λ list. list.items) c.loop-n.lists.items)) (take_all c.loop-n.n (rows_of c.args.tables.now interface_impls) over) c.loop-n.invariant
