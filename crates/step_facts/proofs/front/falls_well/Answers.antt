use Rattle.std.proofs.Common.{ap, subst, ◌∙◌, map, List}
use Rattle.std.specs.Prelude.{not}
use Rattle.cil_code.specs.declared.clause.Clause.{Clause}
use Rattle.classes.specs.Clauses.{may_go}
use Rattle.code_places.specs.Clauses.{clause_seen}
use Rattle.step_facts.specs.Parts.{IsFront}
use Rattle.step_facts.proofs.FrontLaws.{falls_behind, falls_first}
use Rattle.step_facts.proofs.front.falls_well.Goals as goal

pub returns-in-Some : goal.returns-in-Some
returns-in-Some c =
    λ starts proper.
    let b = c.args.listing.now in
    c.may_go.ensures
    ∙ ap (λ (cs : List Clause). may_go (map clause_seen cs) c.in-Some.before c.args.at) c.clauses.ensures
    ∙ falls_behind b.code b.clauses c.args.at starts c.in-Some.before (subst (IsFront b.code c.args.at) c.in-Some.is c.start_before.ensures)

pub returns-in-None : goal.returns-in-None
returns-in-None c =
    λ starts proper.
    let b = c.args.listing.now in
    ap not c.begins_handler.ensures
    ∙ falls_first b.code b.clauses c.args.at starts (subst (IsFront b.code c.args.at) c.in-None.is c.start_before.ensures) proper
