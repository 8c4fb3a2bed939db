use Rattle.std.proofs.Common.{◌≡◌, ◌≤◌, take}
use Rattle.std.specs.Prelude.{count_by}
use Rattle.file_tables.specs.Metadata.{rows_of}
use Rattle.world_rows.specs.Tokens.{member_refs, is_field_ref}
use Rattle.row_counts.proofs.counts.count_field_refs.Given as goal

abbrev pub invariant-loop-n : goal.invariant-loop-n
invariant-loop-n l = record {
  counted : l.count ≡ count_by (is_field_ref l.tables) (take l.n (rows_of l.tables member_refs));
  few : l.count ≤ l.n;
}
