use Rattle.std.proofs.Common.{◌≡◌, take}
use Rattle.std.specs.List.{filter_map}
use Rattle.local_places.specs.Locals.{local_meant}
use Rattle.local_places.proofs.locals.local_types.Given as goal

abbrev pub invariant-loop-of : goal.invariant-loop-of
invariant-loop-of l = l.places.items ≡ filter_map (local_meant l.world l.file) (take l.of-index l.types)
