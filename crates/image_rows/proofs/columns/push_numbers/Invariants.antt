use Rattle.std.proofs.Common.{◌≡◌, ◌++◌, map, take}
use Rattle.msspot_write.specs.Spelt.{numbers}
use Rattle.converted.specs.Images.{column_cut}
use Rattle.image_rows.proofs.columns.push_numbers.Given as goal

abbrev pub invariant-loop-of : goal.invariant-loop-of
invariant-loop-of l = l.columns.items ≡ l.fn.columns.items ++ map column_cut (numbers (take l.of-index l.these))
