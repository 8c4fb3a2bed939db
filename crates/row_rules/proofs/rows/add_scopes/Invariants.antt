use Rattle.std.proofs.Common.{take}
use Rattle.file_tables.specs.Metadata.{rows_of}
use Rattle.kept_rules.specs.Row.{TypeRefAt}
use Rattle.world_rows.specs.Tokens.{type_refs}
use Rattle.row_rules.specs.Links.{links_from, Adds}
use Rattle.row_rules.specs.Named.{named_by_ref}
use Rattle.row_rules.proofs.rows.add_scopes.Given as goal

abbrev pub invariant-loop-n : goal.invariant-loop-n
invariant-loop-n l = Adds (links_from (TypeRefAt l.file) (named_by_ref l.file l.tables) 0 (take l.n (rows_of l.tables type_refs))) l.fn.rules l.rules
