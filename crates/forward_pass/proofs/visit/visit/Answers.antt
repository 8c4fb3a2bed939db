use Rattle.std.proofs.Common.{sym, ◌∙◌}
use Rattle.forward_pass.specs.Seen.{is_needed, seen_falling}
use Rattle.forward_pass.proofs.RuleLaws.{none_lowest}
use Rattle.forward_pass.proofs.EdgeLaws.{if_ok}
use Rattle.forward_pass.proofs.VisitLaws.{fell_is, visit_breaks}
use Rattle.forward_pass.proofs.visit.visit.Goals as goal

pub returns-in-Some : goal.returns-in-Some
returns-in-Some g c =
    λ steps are s l entries at ranked up tells agrees keeps.
    let seen = g.S.Steps.seen c.args.steps.now in
    let fell = fell_is seen steps s c.args.at c.args.facts.now tells c.args.falling c.is_some.result c.fallen.result c.is_some.ensures c.fallen.ensures in
    visit_breaks l seen (is_needed steps s.next) s entries c.args.table.now (seen_falling seen c.args.falling) c.fallen.result c.in-Some.rule c.lowest_with.result ranked (sym tells.broken ∙ c.in-Some.is) fell c.lowest_with.ensures

pub returns-in-None : goal.returns-in-None
returns-in-None g c =
    if_ok c.go_through.result c.go_through.ensures
    (λ after says. λ steps are s l entries at ranked up tells agrees keeps.
    says steps are s l entries at (none_lowest s.broken (sym tells.broken ∙ c.in-None.is)) up tells agrees keeps)
