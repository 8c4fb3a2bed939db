use Rattle.std.proofs.Common.{◌≡◌, take}
use Rattle.file_tables.specs.Metadata.{rows_of}
use Rattle.kept_rules.specs.Row.{MethodAt}
use Rattle.world_rows.specs.Tokens.{methods}
use Rattle.looked_rows.specs.Looked.{file_with}
use Rattle.row_rules.specs.Links.{links_from, Adds}
use Rattle.body_rules.specs.Code.{named_by_code}
use Rattle.body_rules.proofs.bodies.add_code_names.Given as goal

abbrev pub invariant-loop-n : goal.invariant-loop-n
invariant-loop-n l = record {
  same : l.sections ≡ l.pe;
  adds : Adds (links_from (MethodAt l.file) (named_by_code l.file (file_with l.pe l.tables)) 0 (take l.n (rows_of l.tables methods))) l.fn.rules l.rules;
}
