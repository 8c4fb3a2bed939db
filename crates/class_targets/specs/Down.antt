-- What the classes from an object's one upwards decide of the search that comes down to them.
use Rattle.std.specs.Prelude.{Option, Some, None, if◌then◌else◌}
use Rattle.machine.specs.Data.{Id}
use Rattle.classes.specs.Queries.{or_else, Search, Open, Ended, search_body}
use Rattle.class_targets.specs.Virtual.{Slot}

-- with the class above them, which has this virtual method
abbrev pub decided : Option Slot → Option Id → Option Id
decided None below = below
decided (Some own) below = if own.is_newslot then None else or_else below (Some own.id)

-- the body at the lowest class: a search that has ended above stays as it is
abbrev pub settled : Option Id → Search → Id
settled None s = search_body s
settled (Some body) (Open found) = body
settled (Some body) (Ended found) = found
