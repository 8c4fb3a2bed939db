use Rattle.std.proofs.Common.{◌≡◌, drop}
use Rattle.base_tables.specs.Shape.{lines_of}
use Rattle.base_lib.specs.Code.{label_from}
use Rattle.base_lib.proofs.code.place_of_label.Given as goal

abbrev pub invariant-loop-line : goal.invariant-loop-line
invariant-loop-line l = label_from l.at (lines_of (drop l.line-index l.lines)) l.label ≡ label_from 0 (lines_of l.lines) l.label
