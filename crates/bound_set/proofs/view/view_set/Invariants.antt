use Rattle.std.proofs.Common.{◌≡◌, take}
use Rattle.board_program.specs.Parts.{set_parts}
use Rattle.boot_scan.specs.Sets.{images_in}
use Rattle.bound_set.proofs.view.view_set.Given as goal

abbrev pub invariant-loop-k : goal.invariant-loop-k
invariant-loop-k l = l.images.items ≡ take l.k (set_parts (images_in l.flash l.set))
