use Rattle.std.proofs.Common.{sym}
use Rattle.looked_rows.proofs.CodeLaws.{line_marked, faulty_end, code_end}
use Rattle.looked_rows.proofs.code.mark_lines.Goals as goal

pub returns-in-Err : goal.returns-in-Err
returns-in-Err c = faulty_end c.args.code.now c.args.looked.now c.walk.at c.walk.looked c.walk.invariant.leads c.in-Err.field-0 c.walk-test.true (sym c.in-Err.ensures.exact)

pub walk-preserved : goal.walk-preserved
walk-preserved c = record {
  inside = c.in-Ok.ensures.inside;
  leads = line_marked c.args.code.now c.args.looked.now c.walk.at c.walk.looked c.walk.invariant.leads c.in-Ok.instr c.mark_line.new.looked (sym c.in-Ok.ensures.exact) c.mark_line.ensures;
}

pub returns : goal.returns
returns c = code_end c.args.code.now c.args.looked.now c.walk.at c.walk.looked c.walk.invariant.leads c.walk-test.false
