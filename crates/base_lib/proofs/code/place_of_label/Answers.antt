use Rattle.std.proofs.Common.{◌∙◌, sym, arith}
use Rattle.base_lib.proofs.Walks.{label_found, label_step}
use Rattle.base_lib.proofs.code.place_of_label.Goals as goal

pub returns-then-is_label_line : goal.returns-then-is_label_line
returns-then-is_label_line c = sym (label_found c.args.lines.now c.args.label.now c.loop-line.at c.loop-line.line-index _ (omega arith) c.if-is_label_line.ensures) ∙ c.loop-line.invariant

pub loop-line-preserved : goal.loop-line-preserved
loop-line-preserved c = label_step c.args.lines.now c.args.label.now c.loop-line.at c.line_len-at.result c.loop-line.line-index _ (omega arith) c.if-is_label_line.ensures c.line_len-at.ensures.length ∙ c.loop-line.invariant
