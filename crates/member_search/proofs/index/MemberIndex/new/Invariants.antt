use Rattle.std.proofs.Common.{◌≡◌, ◌<◌, ◌^◌, ℕ, List, length, map, Some}
use Rattle.std.specs.Prelude.{slice_get}
use Rattle.class_table.specs.declared.rows.FileRows.{FileRows}
use Rattle.member_search.specs.declared.index.ClassPlaces.{ClassPlaces}
use Rattle.member_search.specs.Shown.{members_in}
use Rattle.member_search.specs.Index.{FindsAll}
use Rattle.member_search.proofs.index.MemberIndex.new.Given as goal

abbrev pub invariant-loop-file : goal.invariant-loop-file
invariant-loop-file l = record {
  count : length l.files.items ≡ l.file-index;
  few : (n : ℕ) (f : FileRows) → n < l.file-index → slice_get l.file-items n ≡ Some f → length (members_in l.sort f) < 2 ^ 32;
  each : (n : ℕ) (f : FileRows) (ps : List ClassPlaces) → slice_get l.file-items n ≡ Some f → slice_get (map (λ places. places.items) l.files.items) n ≡ Some ps → FindsAll l.sort f ps;
}
