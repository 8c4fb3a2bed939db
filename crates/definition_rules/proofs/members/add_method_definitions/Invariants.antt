use Rattle.std.proofs.Common.{◌≡◌, ◌≤◌, take}
use Rattle.std.specs.Prelude.{count_by}
use Rattle.file_tables.specs.Metadata.{rows_of}
use Rattle.world_rows.specs.Tokens.{member_refs, is_method_ref}
use Rattle.row_rules.specs.Links.{Adds}
use Rattle.definition_rules.specs.Definitions.{method_definitions}
use Rattle.definition_rules.proofs.members.add_method_definitions.Given as goal

abbrev pub invariant-loop-n : goal.invariant-loop-n
invariant-loop-n l = record {
  counted : l.number ≡ count_by (is_method_ref l.tables) (take l.n (rows_of l.tables member_refs));
  few : l.number ≤ l.n;
  adds : Adds (method_definitions l.world l.file l.number) l.fn.rules l.rules;
}
