-- What is reached in so many steps.
use Rattle.std.specs.Prelude.{◌≡◌, ℕ, ◌≤◌, true, List, [], ◌∷◌, ◌++◌, length, take}
use Rattle.std.specs.List.{list_any}
use Rattle.machine.specs.Data.{Id, id_eq}
use Rattle.classes.specs.Queries.{reaches}
use Rattle.member_keys.specs.declared.keys.ClassId.{ClassId}
use Rattle.member_keys.specs.Seen.{class_seen}
use Rattle.class_reach.specs.Found.{among}

-- where one step leads from all of these
abbrev pub all_nexts : (Id → List Id) → List ClassId → List Id
all_nexts next [] = []
all_nexts next (c ∷ rest) = next (class_seen c) ++ all_nexts next rest

-- the classes are those that are reached in so many steps, and where those before a place lead is among them
pub record AreReached (next : Id → List Id) (from : Id) (steps start : ℕ) (items : List ClassId) : Type 0 where
  pub reached : (d : Id) → among d items ≡ reaches steps next from d
  pub behind : (d : Id) → list_any (id_eq d) (all_nexts next (take start items)) ≡ true → among d items ≡ true
  pub within : start ≤ length items
