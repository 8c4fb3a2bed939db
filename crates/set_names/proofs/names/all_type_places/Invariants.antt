use Rattle.std.proofs.Common.{◌≡◌, length}
use Rattle.set_names.specs.Names.{Each, FindsTypes}
use Rattle.set_names.proofs.names.all_type_places.Given as goal

abbrev pub invariant-loop-image : goal.invariant-loop-image
invariant-loop-image l = record { count : length l.types.items ≡ l.image-index; each : Each FindsTypes l.images l.types.items }
