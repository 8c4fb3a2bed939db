use Rattle.std.proofs.Common.{◌≤◌, length, map, arith, subst}
use Rattle.std.proofs.lemmas.List.{take_all}
use Rattle.file_tables.specs.Metadata.{rows_of}
use Rattle.world_rows.specs.Tokens.{interface_impls}
use Rattle.class_reading.specs.Interfaces.{HasInterfaces}
use Rattle.class_reading.proofs.interfaces.read_interfaces.Goals as goal

pub returns-clause-interfaces : goal.returns-clause-interfaces
returns-clause-interfaces c =
    let over : length (rows_of c.args.tables.now interface_impls) ≤ c.loop-n.n = omega arith in
    subst (λ rows. HasInterfaces c.args.names.now c.args.file c.args.tables.now rows (map (λ list. list.items) c.loop-n.lists.items)) (take_all c.loop-n.n (rows_of c.args.tables.now interface_impls) over) c.loop-n.invariant.has
