use Rattle.std.proofs.Common.{sym}
use Rattle.row_rules.specs.Links.{row_at}
use Rattle.body_rules.proofs.CodeLaws.{line_kept, faulty_end, code_end}
use Rattle.body_rules.proofs.code.keep_lines.Goals as goal

pub returns-in-Err : goal.returns-in-Err
returns-in-Err c = faulty_end (row_at c.args.place) c.args.place.file c.args.tables.now c.args.code.now c.args.rules.now c.walk.at c.walk.rules c.walk.invariant.leads c.in-Err.field-0 c.walk-test.true (sym c.in-Err.ensures.exact)

pub walk-preserved : goal.walk-preserved
walk-preserved c = record {
  inside = c.in-Ok.ensures.inside;
  leads = line_kept (row_at c.args.place) c.args.place.file c.args.tables.now c.args.code.now c.args.rules.now c.walk.at c.walk.rules c.walk.invariant.leads c.in-Ok.instr c.keep_line.new.rules (sym c.in-Ok.ensures.exact) (c.in_ok-keep_line.ensures c.args.code.now c.walk.at);
}

pub returns : goal.returns
returns c = code_end (row_at c.args.place) c.args.place.file c.args.tables.now c.args.code.now c.args.rules.now c.walk.at c.walk.rules c.walk.invariant.leads c.walk-test.false
