use Rattle.std.proofs.Common.{◌≡◌, ℕ, length, Some}
use Rattle.std.specs.Prelude.{slice_get}
use Rattle.class_table.specs.declared.rows.ClassRow.{ClassRow}
use Rattle.member_search.specs.declared.index.ClassPlaces.{ClassPlaces}
use Rattle.member_search.specs.Index.{FindsOwn}
use Rattle.member_search.proofs.index.file_places.Given as goal

abbrev pub invariant-loop-class : goal.invariant-loop-class
invariant-loop-class l = record {
  count : length l.all.items ≡ l.class-index;
  each : (n : ℕ) (c : ClassRow) (p : ClassPlaces) → slice_get l.class-items n ≡ Some c → slice_get l.all.items n ≡ Some p → FindsOwn l.sort l.file c p;
}
