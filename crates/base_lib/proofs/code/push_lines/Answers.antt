use Rattle.std.proofs.Common.{◌∙◌, arith}
use Rattle.base_tables.specs.Shape.{items_of}
use Rattle.base_lib.proofs.Walks.{code_step}
use Rattle.base_lib.proofs.code.push_lines.Goals as goal

pub loop-line-preserved : goal.loop-line-preserved
loop-line-preserved c = code_step (items_of c.args.items.now) c.args.lines.now c.loop-line.at c.line_len-at.result c.loop-line.line-index _ c.loop-line.out.items c.push_line.new.out.items (omega arith) c.line_len-at.ensures.length c.in_ok-push_line.ensures ∙ c.loop-line.invariant
