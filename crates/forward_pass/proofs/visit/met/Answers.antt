use Rattle.std.proofs.Common.{◌≡◌, ℕ, Bool, List, Option, Ok, sym, ap, ◌∙◌, subst}
use Rattle.ecma_types.specs.declared.stack.StackType.{StackType as WorldType}
use Rattle.code_rules.specs.Pass.{met, not_empty, put}
use Rattle.forward_pass.specs.Seen.{Keeps, is_needed, seen_stack}
use Rattle.forward_pass.specs.Told.{Goes, lowest_of}
use Rattle.forward_pass.proofs.VisitLaws.{found_at, met_goes}
use Rattle.forward_pass.proofs.visit.met.Goals as goal

pub returns : goal.returns
returns g c =
    λ steps are s l entries at clean up tells agrees keeps.
    let seen = g.S.Steps.seen c.args.steps.now in
    let needed = is_needed steps s.next in
    let ts = seen_stack seen c.args.stack.now.items in
    let filled : c.filled-filled.result ≡ lowest_of (not_empty s.tries ts) =
    c.filled-filled.ensures seen
    ∙ ap (λ (xs : List WorldType). lowest_of (not_empty c.args.facts.now.tries (seen_stack seen xs))) c.deref.ensures.value
    ∙ ap (λ (b : Bool). lowest_of (not_empty b ts)) tells.tries in
    let kept : Keeps seen needed c.keep.new.table (put c.args.at ts entries) =
    subst (λ (xs : List WorldType). Keeps seen needed c.keep.new.table (put c.args.at (seen_stack seen xs) entries)) c.deref-2.ensures.value
    (c.in_ok-keep.ensures seen steps s.next entries tells.targeted up keeps) in
    let kept_there : Keeps seen needed c.keep.new.table (put s.at ts entries) =
    subst (λ (k : ℕ). Keeps seen needed c.keep.new.table (put k ts entries)) (sym (found_at steps c.args.at s at)) kept in
    subst (λ (o : Option ℕ). Goes seen needed s c.acted.new.table c.acted.new.stack.items o (met l s entries (Ok ts))) (sym c.lower.ensures)
    (met_goes l seen needed s entries c.acted.new.table ts c.acted.new.stack.items c.filled-filled.result c.in_ok-rule.rule filled
    (c.in_ok-rule.ensures steps are s l (put s.at ts entries) at clean tells agrees kept_there))
