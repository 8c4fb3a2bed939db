use Rattle.std.proofs.Common.{◌≡◌, ◌≤◌, take, length}
use Rattle.std.specs.List.{filter}
use Rattle.file_tables.specs.Metadata.{rows_of}
use Rattle.kept_rules.specs.Row.{MethodRefAt}
use Rattle.world_rows.specs.Tokens.{member_refs, is_method_ref}
use Rattle.row_rules.specs.Links.{links_from, Adds}
use Rattle.row_rules.specs.Named.{named_by_method_ref}
use Rattle.row_rules.proofs.references.add_method_refs.Given as goal

abbrev pub invariant-loop-n : goal.invariant-loop-n
invariant-loop-n l = record {
  counted : l.number ≡ length (filter (is_method_ref l.tables) (take l.n (rows_of l.tables member_refs)));
  few : l.number ≤ l.n;
  adds : Adds (links_from (MethodRefAt l.file) (named_by_method_ref l.file l.tables) 0 (filter (is_method_ref l.tables) (take l.n (rows_of l.tables member_refs)))) l.fn.rules l.rules;
}
