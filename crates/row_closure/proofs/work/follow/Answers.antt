use Rattle.std.proofs.Common.{◌≡◌, List, ℕ, true, sym, ◌∙◌, subst}
use Rattle.std.specs.Prelude.{slice_set, slice_index_or}
use Rattle.std.proofs.lemmas.Option.{slice_get-get_or}
use Rattle.row_closure.specs.declared.rule.Rule.{Rule}
use Rattle.row_closure.specs.Closure.{holds}
use Rattle.row_closure.specs.Work.{Grows}
use Rattle.row_closure.proofs.WorkLaws.{fires, fired}
use Rattle.row_closure.proofs.work.follow.Goals as goal
use Rattle.row_closure.proofs.work.follow.Goals.{else-kept-rule-via-then-kept-rule+then-kept-rule-2+else-not-kept-rule, else-kept-rule-via-then-kept-rule+else-kept-rule-2, else-kept-rule-via-else-kept-rule}

pub returns-in_ok-push-clause-grows : goal.returns-in_ok-push-clause-grows
returns-in_ok-push-clause-grows c =
    let there = slice_get-get_or c.args.rules.now c.args.at (record { first = 0; second = 0; then = 0 }) c.requires.at in
    subst (λ (now : List ℕ). Grows c.args.rules.now c.args.kept.now c.args.met.now.items (slice_set c.args.kept.now (slice_index_or c.args.rules.now c.args.at (record { first = 0; second = 0; then = 0 })).then true) now)
    (sym c.in_ok-push.ensures.items)
    (fires c.args.rules.now c.args.kept.now c.args.met.now.items _ c.args.at there c.requires.within c.if-kept-rule.true c.if-kept-rule-2.true (cc c.if-not-kept-rule.true))

pub returns-in_ok-push-clause-gives : goal.returns-in_ok-push-clause-gives
returns-in_ok-push-clause-gives c r at first second =
    let there = slice_get-get_or c.args.rules.now c.args.at (record { first = 0; second = 0; then = 0 }) c.requires.at in
    let same : slice_index_or c.args.rules.now c.args.at (record { first = 0; second = 0; then = 0 }) ≡ r = cc (sym there ∙ at) in
    subst (λ (s : Rule). holds (slice_set c.args.kept.now (slice_index_or c.args.rules.now c.args.at (record { first = 0; second = 0; then = 0 })).then true) s.then ≡ true) same
    (fired c.args.rules.now c.args.kept.now c.args.met.now.items _ c.args.at there c.requires.within c.if-kept-rule.true c.if-kept-rule-2.true (cc c.if-not-kept-rule.true))

pub returns-else-kept-rule-clause-gives : goal.returns-else-kept-rule-clause-gives
returns-else-kept-rule-clause-gives c r at =
    let there = slice_get-get_or c.args.rules.now c.args.at (record { first = 0; second = 0; then = 0 }) c.requires.at in
    let same : slice_index_or c.args.rules.now c.args.at (record { first = 0; second = 0; then = 0 }) ≡ r = cc (sym there ∙ at) in
    subst (λ (s : Rule). holds c.args.kept.now s.first ≡ true → holds c.args.kept.now s.second ≡ true → holds c.args.kept.now s.then ≡ true) same
    (elim c.else-kept-rule.branch [
      | else-kept-rule-via-then-kept-rule+then-kept-rule-2+else-not-kept-rule w ↦ λ f s. cc w.if-not-kept-rule.false
      | else-kept-rule-via-then-kept-rule+else-kept-rule-2 w ↦ λ f s. cc (sym s ∙ w.if-kept-rule-2.false)
      | else-kept-rule-via-else-kept-rule w ↦ λ f s. cc (sym f ∙ w.if-kept-rule.false)
    ])
