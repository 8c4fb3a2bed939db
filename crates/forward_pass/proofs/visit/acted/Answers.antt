use Rattle.std.proofs.Common.{◌≡◌, ℕ, List, Option, Ok, sym, subst}
use Rattle.ecma_types.specs.declared.stack.StackType.{StackType as WorldType}
use Rattle.code_rules.specs.Pass.{edges}
use Rattle.forward_pass.specs.Seen.{is_needed, seen_stack}
use Rattle.forward_pass.specs.Told.{Acts, Leaves}
use Rattle.forward_pass.proofs.EdgeLaws.{if_ok}
use Rattle.forward_pass.proofs.VisitLaws.{found_at, targets_needed, acted_goes}
use Rattle.forward_pass.proofs.visit.acted.Goals as goal

pub returns-in-None : goal.returns-in-None
returns-in-None g c =
    if_ok c.edges.result c.edges.ensures
    (λ rule says. λ steps are s l entries at clean tells agrees keeps.
    let seen = g.S.Steps.seen c.args.steps.now in
    let needed = is_needed steps s.next in
    let new = c.act.new.stack.items in
    let acts : s.act (seen_stack seen c.args.stack.now.items) ≡ Ok (seen_stack seen new) = subst (λ (o : Option ℕ). Acts seen s c.args.stack.now.items new o) c.in-None.is (c.in_ok-rule.ensures steps are s at clean) in
    let leaves : Leaves seen needed c.edges.new.table rule (edges l c.args.at (seen_stack seen new) s.goes entries) =
    subst (λ (ts : List WorldType). Leaves seen needed c.edges.new.table rule (edges l c.args.at (seen_stack seen ts) s.goes entries)) c.deref.ensures.value
    (says steps are s l needed entries at tells.branches agrees (targets_needed steps c.args.at s.next s at) keeps) in
    acted_goes l seen needed s entries c.edges.new.table c.args.stack.now.items new rule acts
    (subst (λ (k : ℕ). Leaves seen needed c.edges.new.table rule (edges l k (seen_stack seen new) s.goes entries)) (sym (found_at steps c.args.at s at)) leaves))
