use Rattle.std.proofs.Common.{◌≡◌, ◌++◌, map, take}
use Rattle.kept_marks.specs.Masks.{masks_of}
use Rattle.image_rows.specs.Types.{interface_made}
use Rattle.image_rows.proofs.interfaces.push_interfaces.Given as goal

abbrev pub invariant-loop-column : goal.invariant-loop-column
invariant-loop-column l = l.out.items ≡ l.fn.out.items ++ map (interface_made (masks_of l.choice) l.tables) (take l.column-index l.these)
