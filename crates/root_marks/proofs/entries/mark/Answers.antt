use Rattle.std.proofs.Common.{sym, ◌∙◌}
use Rattle.row_rules.specs.Links.{row_at}
use Rattle.row_rules.proofs.LinkLaws.{number_is}
use Rattle.root_marks.proofs.MarkLaws.{mark_none, mark_some}
use Rattle.root_marks.proofs.entries.mark.Goals as goal

pub returns-in-Some : goal.returns-in-Some
returns-in-Some c =
    λ ps are.
    let p = c.args.place in
    c.set.ensures ∙ mark_some ps (row_at p) c.args.marks.now c.in-Some.number (sym (number_is ps p.table p.file p.row) ∙ sym (c.number.ensures ps are) ∙ c.in-Some.is)

pub returns-in-None : goal.returns-in-None
returns-in-None c =
    λ ps are.
    let p = c.args.place in
    mark_none ps (row_at p) c.args.marks.now (sym (number_is ps p.table p.file p.row) ∙ sym (c.number.ensures ps are) ∙ c.in-None.is)
