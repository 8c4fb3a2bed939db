use Rattle.std.proofs.Common.{◌≡◌, ◌-◌, suc, ap, map, arith}
use Rattle.file_tables.specs.Metadata.{row_count}
use Rattle.world_rows.specs.Tokens.{type_defs}
use Rattle.image_rows.proofs.InterfaceLaws.{row_nowhere, row_added, on_ok}
use Rattle.image_rows.proofs.interfaces.read_column.Goals as goal

pub returns-then-row-eq0 : goal.returns-then-row-eq0
returns-then-row-eq0 c =
    row_nowhere c.args.tables.now c.args.n c.requires.row c.read_row-row.result.class c.read_row-row.result.interface (ap (λ r. r.class) c.read_row-row.ensures) (ap (λ r. r.interface) c.read_row-row.ensures) (row_count c.args.tables.now type_defs) (map (λ list. list.items) c.args.lists.now.items) c.requires.so_far
    c.if-row-eq0.true

pub returns : goal.returns
returns c =
    let class = c.read_row-row.result.class in
    let behind : class ≡ suc (class - 1) = omega (arith, c.if-row-eq0.false) in
    on_ok c.add_column.result _ _
    (row_added c.args.tables.now c.args.n c.requires.row class c.read_row-row.result.interface (ap (λ r. r.class) c.read_row-row.ensures) (ap (λ r. r.interface) c.read_row-row.ensures) (row_count c.args.tables.now type_defs) (map (λ list. list.items) c.args.lists.now.items) c.requires.so_far (class - 1) (map (λ list. list.items) c.add_column.new.lists.items) behind)
    c.add_column.ensures
