use Rattle.std.proofs.Common.{◌≡◌, ℕ, Option, Result, Ok, Err, sym, ap, ◌∙◌, subst}
use Rattle.std.specs.Global.{Vec}
use Rattle.ecma_types.specs.declared.stack.StackType.{StackType as WorldType}
use Rattle.code_rules.specs.Pass.{incoming, standing, visit}
use Rattle.forward_pass.specs.Seen.{is_needed, seen_falling, seen_stack, seen_types}
use Rattle.forward_pass.specs.Told.{Behind, left_behind}
use Rattle.forward_pass.proofs.VisitLaws.{arrives, before_is, fell_is, visit_behind, visit_fails}
use Rattle.forward_pass.proofs.visit.go_through.Goals as goal

pub returns-in_ok-rule-in-Ok : goal.returns-in_ok-rule-in-Ok
returns-in_ok-rule-in-Ok g c =
    λ steps are s l entries at clean up tells agrees keeps.
    let seen = g.S.Steps.seen c.args.steps.now in
    let needed = is_needed steps s.next in
    let facts = c.args.facts.now in
    let falling = seen_falling seen c.args.falling in
    let fell = fell_is seen steps s c.args.at facts tells c.args.falling c.is_some.result c.fallen-before.result c.is_some.ensures c.fallen-before.ensures in
    let before = before_is seen steps s c.args.at facts tells c.args.falling c.fallen-before.result fell clean in
    let came : Ok (seen_stack seen c.in-Ok.stack.items) ≡ incoming l s.begins (standing entries s.at) falling =
    subst (λ (r : Result (Vec WorldType) ℕ). seen_types seen r ≡ incoming l s.begins (standing entries s.at) falling) c.in-Ok.is
    (arrives seen steps s c.args.at facts tells c.args.falling l entries c.args.table.now c.get.result c.in_ok-stack.field-0 at keeps c.get.ensures.value (c.in_ok-stack.ensures seen l agrees)) in
    let goes = c.in_ok-rule-in-Ok.ensures steps are s l entries at clean up tells agrees keeps in
    let behind = visit_behind l seen needed s entries c.met.new.table falling (seen_stack seen c.in-Ok.stack.items) c.met.new.stack c.fallen-before.result c.in_ok-rule-in-Ok.rule facts.falls before came tells.falls goes in
    subst (λ (r : Result (Option (Vec WorldType)) ℕ). Behind seen needed c.met.new.table r (visit l s entries falling))
    (sym (c.behind.ensures ∙ ap (λ (o : Option ℕ). left_behind o facts.falls c.met.new.stack) c.lower.ensures)) behind

pub returns-in-Err : goal.returns-in-Err
returns-in-Err g c =
    λ steps are s l entries at clean up tells agrees keeps.
    let seen = g.S.Steps.seen c.args.steps.now in
    let facts = c.args.facts.now in
    let falling = seen_falling seen c.args.falling in
    let fell = fell_is seen steps s c.args.at facts tells c.args.falling c.is_some.result c.fallen-before.result c.is_some.ensures c.fallen-before.ensures in
    let before = before_is seen steps s c.args.at facts tells c.args.falling c.fallen-before.result fell clean in
    let came : Err c.in-Err.rule ≡ incoming l s.begins (standing entries s.at) falling =
    subst (λ (r : Result (Vec WorldType) ℕ). seen_types seen r ≡ incoming l s.begins (standing entries s.at) falling) c.in-Err.is
    (arrives seen steps s c.args.at facts tells c.args.falling l entries c.args.table.now c.get.result c.in_ok-stack.field-0 at keeps c.get.ensures.value (c.in_ok-stack.ensures seen l agrees)) in
    visit_fails l seen (is_needed steps s.next) s entries c.args.table.now falling c.fallen-before.result c.in-Err.rule c.lowest_with.result before came c.lowest_with.ensures
