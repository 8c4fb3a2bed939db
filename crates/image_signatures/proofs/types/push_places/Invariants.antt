use Rattle.std.proofs.Common.{◌≡◌, ◌++◌, take}
use Rattle.image_signatures.specs.Spelt.{places_spelt}
use Rattle.kept_marks.specs.Masks.{masks_of}
use Rattle.image_signatures.proofs.types.push_places.Given as goal

abbrev pub invariant-loop-of : goal.invariant-loop-of
invariant-loop-of l = l.out.items ≡ l.fn.out.items ++ places_spelt (masks_of l.choice) l.tables (take l.of-index l.types)
