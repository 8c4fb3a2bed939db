-- What a bound set keeps.
use Rattle.std.specs.Option.{option_map}
use Rattle.board_ids.specs.Ids.{id_of}
use Rattle.set_binding.specs.Columns.{named_by}
use Rattle.bound_set.specs.Kept.{Kept}
use Rattle.bound_set.specs.Library.{known_in, basic_in}
use Rattle.bound_set.specs.declared.bound.Bound.{Bound}

abbrev pub kept_in : Bound → Kept
kept_in b =
    record {
      places = b.places.items;
      named = named_by b.bindings.files.items;
      known = known_in b.known;
      basic = basic_in b.basic;
      array = option_map id_of b.basic.array;
    }
