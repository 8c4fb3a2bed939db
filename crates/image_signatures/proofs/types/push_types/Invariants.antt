use Rattle.std.proofs.Common.{◌≡◌, ◌++◌, take}
use Rattle.image_signatures.specs.Spelt.{types_spelt}
use Rattle.kept_marks.specs.Masks.{masks_of}
use Rattle.image_signatures.proofs.types.push_types.Given as goal

abbrev pub invariant-loop-of : goal.invariant-loop-of
invariant-loop-of l = l.out.items ≡ l.fn.out.items ++ types_spelt (masks_of l.choice) l.tables (take l.of-index l.types)
