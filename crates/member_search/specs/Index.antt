-- What an index of members holds.
use Rattle.std.specs.Prelude.{◌≡◌, ℕ, ◌<◌, ◌^◌, List, length, Some, slice_get}
use Rattle.std.specs.List.{position}
use Rattle.std.specs.BTreeMap.{BTreeMap, get}
use Rattle.member_keys.specs.declared.keys.MemberKey.{MemberKey}
use Rattle.member_keys.specs.declared.keys.SignatureKey.{SignatureKey}
use Rattle.member_keys.specs.Seen.{member_order}
use Rattle.class_table.specs.declared.rows.ClassRow.{ClassRow}
use Rattle.class_table.specs.declared.rows.FileRows.{FileRows}
use Rattle.class_table.specs.declared.rows.ClassTable.{ClassTable}
use Rattle.member_search.specs.declared.sort.Sort.{Sort}
use Rattle.member_search.specs.declared.index.ClassPlaces.{ClassPlaces}
use Rattle.member_search.specs.Shown.{key_shown, is_shown, members_in, first_in, own_members}

pub record FindsOwn (sort : Sort) (f : FileRows) (c : ClassRow) (p : ClassPlaces) : Type 0 where
  pub first : p.first ≡ first_in sort c
  pub finds : (places : BTreeMap MemberKey ℕ) → p.places ≡ Some places → (wanted : MemberKey) (s : SignatureKey) → wanted.signature ≡ Some s → get member_order places wanted ≡ position (is_shown (key_shown wanted)) (own_members sort f c)

pub record FindsAll (sort : Sort) (f : FileRows) (ps : List ClassPlaces) : Type 0 where
  pub count : length ps ≡ length f.classes.items
  pub each : (n : ℕ) (c : ClassRow) (p : ClassPlaces) → slice_get f.classes.items n ≡ Some c → slice_get ps n ≡ Some p → FindsOwn sort f c p

pub record IsIndex (sort : Sort) (t : ClassTable) (all : List (List ClassPlaces)) : Type 0 where
  pub count : length all ≡ length t.files.items
  pub few : (n : ℕ) (f : FileRows) → slice_get t.files.items n ≡ Some f → length (members_in sort f) < 2 ^ 32
  pub each : (n : ℕ) (f : FileRows) (ps : List ClassPlaces) → slice_get t.files.items n ≡ Some f → slice_get all n ≡ Some ps → FindsAll sort f ps
