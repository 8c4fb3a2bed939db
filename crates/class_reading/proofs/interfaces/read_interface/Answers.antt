use Rattle.std.proofs.Common.{◌≡◌, ◌-◌, suc, ap, map, arith}
use Rattle.class_reading.proofs.InterfaceLaws.{row_missing, row_nowhere, row_added, on_ok}
use Rattle.class_reading.proofs.interfaces.read_interface.Goals as goal

pub returns-in_default-clause-interfaces : goal.returns-in_default-clause-interfaces
returns-in_default-clause-interfaces c =
    row_missing c.args.names.now c.args.file c.args.tables.now c.requires.tables c.args.n c.requires.row c.read_row-row.result.class c.read_row-row.result.interface (ap (λ r. r.class) c.read_row-row.ensures) (ap (λ r. r.interface) c.read_row-row.ensures) (map (λ list. list.items) c.args.lists.now.items) c.requires.so_far
    c.in_default.ensures

pub returns-then-row-eq0-clause-interfaces : goal.returns-then-row-eq0-clause-interfaces
returns-then-row-eq0-clause-interfaces c =
    row_nowhere c.args.names.now c.args.file c.args.tables.now c.requires.tables c.args.n c.requires.row c.read_row-row.result.class c.read_row-row.result.interface (ap (λ r. r.class) c.read_row-row.ensures) (ap (λ r. r.interface) c.read_row-row.ensures) (map (λ list. list.items) c.args.lists.now.items) c.requires.so_far
    c.if-row-eq0.true

pub returns-clause-interfaces : goal.returns-clause-interfaces
returns-clause-interfaces c =
    let class = c.read_row-row.result.class in
    let behind : class ≡ suc (class - 1) = omega (arith, c.if-row-eq0.false) in
    on_ok c.add_interface.result _ _
    (row_added c.args.names.now c.args.file c.args.tables.now c.requires.tables c.args.n c.requires.row class c.read_row-row.result.interface (ap (λ r. r.class) c.read_row-row.ensures) (ap (λ r. r.interface) c.read_row-row.ensures) (map (λ list. list.items) c.args.lists.now.items) c.requires.so_far (class - 1) c.in-Some.interface (map (λ list. list.items) c.add_interface.new.lists.items) behind c.in-Some.ensures)
    c.add_interface.ensures.added
