use Rattle.std.proofs.Common.{Some, ap, ◌∙◌}
use Rattle.std.specs.Option.{option_map}
use Rattle.set_names.specs.Names.{seen_all}
use Rattle.bound_answers.specs.Told.{clause_told}
use Rattle.bound_answers.proofs.SetLaws.{clause_none, clause_get}
use Rattle.bound_answers.proofs.clauses.clause.Goals as goal

pub returns-in_err-image : goal.returns-in_err-image
returns-in_err-image c = c.from_residual.ensures ∙ clause_none (seen_all c.args.set.now) c.args.method c.args.k c.in_err-image.ensures

pub returns-in_err-row : goal.returns-in_err-row
returns-in_err-row c =
    c.from_residual-in_err-row.ensures
    ∙ ap (option_map (clause_told (seen_all c.args.set.now) c.args.method.assembly)) c.in_err-row.ensures
    ∙ clause_get (seen_all c.args.set.now) c.args.method c.args.k _ c.in_ok-image.ensures

pub returns : goal.returns
returns c =
    ap Some c.tell.ensures
    ∙ ap (option_map (clause_told (seen_all c.args.set.now) c.args.method.assembly)) c.in_ok-row.ensures
    ∙ clause_get (seen_all c.args.set.now) c.args.method c.args.k _ c.in_ok-image.ensures
