-- Answers of virtual calls that were found before.
use Rattle.std.specs.Prelude.{◌≡◌, ℕ, List, Some, length, slice_get, Option}
use Rattle.std.specs.Option.{option_map}
use Rattle.classes.specs.Classes.{Classes}
use Rattle.classes.specs.Queries.{target}
use Rattle.board_ids.specs.Ids.{id_of}
use Rattle.tiny_types.specs.declared.found.FoundTarget.{FoundTarget}

-- each one is right
pub record AreFound (cs : Classes) (found : List (Option FoundTarget)) : Type 0 where
  pub count : length found ≡ 1024
  pub each : (n : ℕ) (f : FoundTarget) → slice_get found n ≡ Some (Some f) → option_map id_of f.body ≡ target cs (id_of f.class) (id_of f.method)
