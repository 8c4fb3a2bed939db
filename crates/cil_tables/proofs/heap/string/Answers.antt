use Rattle.std.proofs.Common.{sym, ap, Some, ◌∙◌}
use Rattle.cil_tables.proofs.Texts.{no_text, whole_text, not_utf8}
use Rattle.cil_tables.proofs.heap.string.Goals as goal

pub returns-in-None : goal.returns-in-None
returns-in-None c = sym (no_text c.args.heap.now c.args.at (rw c.rest-rest.ensures at c.in-None.ensures))

pub returns-in-Ok : goal.returns-in-Ok
returns-in-Ok c =
    let text = rw c.rest-rest.ensures at c.in-Ok.ensures.cases in
    ap Some text.0 ∙ sym (whole_text c.args.heap.now c.args.at c.in-Some.end (rw c.rest-rest.ensures at c.in-Some.ensures) text.1)

pub returns-in-Err : goal.returns-in-Err
returns-in-Err c =
    let text = rw c.rest-rest.ensures at c.in-Err.ensures.cases in
    sym (not_utf8 c.args.heap.now c.args.at c.in-Some.end (rw c.rest-rest.ensures at c.in-Some.ensures) text.0)
