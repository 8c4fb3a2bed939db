use Rattle.std.specs.Option.{option_map}
use Rattle.set_names.specs.Names.{seen_all}
use Rattle.set_binding.specs.Lacking.{row_seen}
use Rattle.set_binding.proofs.LackingLaws.{in_assemblies, in_types, in_fields, in_methods}
use Rattle.set_binding.proofs.lacking.lacking_in.Goals as goal

pub returns-in-Some : goal.returns-in-Some
returns-in-Some c = in_assemblies (seen_all c.args.names.now) c.args.file (row_seen c.in-Some.row) c.in-Some.ensures

pub returns-in-Some-lacking_row : goal.returns-in-Some-lacking_row
returns-in-Some-lacking_row c = in_types (seen_all c.args.names.now) c.args.file (row_seen c.in-Some-lacking_row.row) c.in_default.ensures c.in-Some-lacking_row.ensures

pub returns-in-Some-lacking_row-2 : goal.returns-in-Some-lacking_row-2
returns-in-Some-lacking_row-2 c = in_fields (seen_all c.args.names.now) c.args.file (row_seen c.in-Some-lacking_row-2.row) c.in_default.ensures c.in_default-lacking_row.ensures c.in-Some-lacking_row-2.ensures

pub returns : goal.returns
returns c = in_methods (seen_all c.args.names.now) c.args.file (option_map row_seen c.lacking_row-4.result) c.in_default.ensures c.in_default-lacking_row.ensures c.in_default-lacking_row-2.ensures c.lacking_row-4.ensures
