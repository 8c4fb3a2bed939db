use Rattle.std.proofs.Common.{◌≡◌, ◌++◌, drop}
use Rattle.base_tables.specs.Shape.{items_of, lines_of}
use Rattle.base_lib.specs.Code.{code_from}
use Rattle.base_lib.proofs.code.push_lines.Given as goal

abbrev pub invariant-loop-line : goal.invariant-loop-line
invariant-loop-line l =
    l.out.items ++ code_from (items_of l.items) (lines_of l.lines) l.at (lines_of (drop l.line-index l.lines))
    ≡ l.fn.out.items ++ code_from (items_of l.items) (lines_of l.lines) 0 (lines_of l.lines)
