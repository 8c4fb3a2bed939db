use Rattle.std.proofs.Common.{take}
use Rattle.file_tables.specs.Metadata.{rows_of}
use Rattle.kept_rules.specs.Row.{TypeAt}
use Rattle.world_rows.specs.Tokens.{type_defs}
use Rattle.row_rules.specs.Links.{links_from, Adds}
use Rattle.row_rules.specs.Named.{named_by_extends}
use Rattle.row_rules.proofs.rows.add_extends.Given as goal

abbrev pub invariant-loop-n : goal.invariant-loop-n
invariant-loop-n l = Adds (links_from (TypeAt l.file) (named_by_extends l.file l.tables) 0 (take l.n (rows_of l.tables type_defs))) l.fn.rules l.rules
