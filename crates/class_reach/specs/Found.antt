-- Classes that were found.
use Rattle.std.specs.Prelude.{◌≡◌, ◌≤◌, ◌||◌, Bool, List, ◌++◌, map, count_by}
use Rattle.std.specs.List.{list_any}
use Rattle.std.specs.declared.cmp.Ordering.{Ordering}
use Rattle.std.specs.BTreeSet.{contains}
use Rattle.machine.specs.Data.{Id, id_eq}
use Rattle.member_keys.specs.declared.keys.ClassId.{ClassId}
use Rattle.member_keys.specs.contracts.keys.ClassIdOrd.TheImpl as class_ord
use Rattle.member_keys.specs.Seen.{class_seen}
use Rattle.class_reach.specs.declared.found.Found.{Found}

abbrev pub class_order : ClassId → ClassId → Ordering
class_order = (class_ord.ghosts).cmp

abbrev pub among : Id → List ClassId → Bool
among d cs = list_any (id_eq d) (map class_seen cs)

-- each class once, and the set has them all
pub record IsFound (f : Found) : Type 0 where
  pub seen : (c : ClassId) → contains class_order f.seen c ≡ among (class_seen c) f.items.items
  pub once : (d : Id) → count_by (id_eq d) (map class_seen f.items.items) ≤ 1

-- these classes were added behind those of before, where they weren't among them
pub record Adds (xs : List Id) (old new : Found) : Type 0 where
  pub found : IsFound new
  pub more : (ys : List ClassId) × (new.items.items ≡ old.items.items ++ ys)
  pub has : (d : Id) → among d new.items.items ≡ (among d old.items.items || list_any (id_eq d) xs)
