use Rattle.std.proofs.Common.{take, map}
use Rattle.file_tables.specs.Metadata.{rows_of}
use Rattle.world_rows.specs.Tokens.{interface_impls}
use Rattle.row_rules.specs.Links.{Adds}
use Rattle.row_rules.specs.Named.{interface_link}
use Rattle.row_rules.proofs.references.add_interfaces.Given as goal

abbrev pub invariant-loop-n : goal.invariant-loop-n
invariant-loop-n l = Adds (map (interface_link l.file l.tables) (take l.n (rows_of l.tables interface_impls))) l.fn.rules l.rules
