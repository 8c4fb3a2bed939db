use Rattle.std.proofs.Common.{Some, None, sym, subst}
use Rattle.set_names.specs.Names.{seen_all}
use Rattle.set_binding.specs.Tables.{number_of}
use Rattle.set_binding.specs.Columns.{AreNamed}
use Rattle.set_binding.proofs.LackingLaws.{column_named, lacking_told}
use Rattle.set_binding.proofs.lacking.lacking_row.Goals as goal

pub first_unnamed-requires : goal.first_unnamed-requires
first_unnamed-requires c =
    let ps = seen_all c.args.names.now in
    (subst (AreNamed ps c.args.file (number_of c.args.table)) (sym c.column.ensures) (column_named ps c.args.file c.args.bound.now c.args.table c.requires)).few

pub returns-in-Some : goal.returns-in-Some
returns-in-Some c = lacking_told (seen_all c.args.names.now) c.args.file c.args.bound.now c.args.table c.requires c.column.result.now c.column.ensures (Some c.in-Some.row) c.in-Some.ensures

pub returns-in-None : goal.returns-in-None
returns-in-None c = lacking_told (seen_all c.args.names.now) c.args.file c.args.bound.now c.args.table c.requires c.column.result.now c.column.ensures None c.in-None.ensures
