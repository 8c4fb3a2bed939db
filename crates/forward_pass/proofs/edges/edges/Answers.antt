use Rattle.std.proofs.Common.{◌≡◌, ◌<◌, ◌≤◌, ℕ, List, Some, length, take, sym, ◌∙◌, arith, subst}
use Rattle.std.specs.Prelude.{slice_get}
use Rattle.std.proofs.lemmas.List.{take_all}
use Rattle.code_rules.specs.Pass.{Entry, edge, edges}
use Rattle.forward_pass.specs.Seen.{seen_stack}
use Rattle.forward_pass.specs.Told.{Leaves}
use Rattle.forward_pass.proofs.EdgeLaws.{needed_at, edges_more, lowest_more}
use Rattle.forward_pass.proofs.edges.edges.Goals as goal

pub loop-branch-preserved : goal.loop-branch-preserved
loop-branch-preserved g c = record {
  leaves = λ listed are s m needed entries at count agrees all keeps.
      let seen = g.S.Steps.seen c.args.steps.now in
      let us = seen_stack seen c.args.stack.now in
      let i = c.loop-branch.branch in
      let to = c.target.result in
      let before : List ℕ × List Entry = edges m c.args.from us (take i s.goes) entries in
      let was = c.loop-branch.invariant.leaves listed are s m needed entries at count agrees all keeps in
      let within : i < length s.goes = omega (arith, count) in
      let target : slice_get s.goes i ≡ Some to = c.target.ensures listed are s at within in
      let one = c.in_ok-rule.ensures seen m needed before.1 agrees was.1 (needed_at needed s.goes i to all target) in
      subst (λ after. Leaves seen needed c.edge.new.table c.lower-lowest.result after) (sym (edges_more m c.args.from us s.goes i to entries within target))
      (c.lower-lowest.ensures ∙ lowest_more m c.args.from us before (edge m c.args.from us to before.1) c.loop-branch.lowest c.in_ok-rule.rule was.0 one.0, one.1);
}

pub returns : goal.returns
returns g c =
    λ listed are s m needed entries at count agrees all keeps.
    let seen = g.S.Steps.seen c.args.steps.now in
    let us = seen_stack seen c.args.stack.now in
    let over : length s.goes ≤ c.loop-branch.branch = omega (arith, count) in
    subst (λ tos. Leaves seen needed c.loop-branch.table c.loop-branch.lowest (edges m c.args.from us tos entries)) (take_all c.loop-branch.branch s.goes over)
    (c.loop-branch.invariant.leaves listed are s m needed entries at count agrees all keeps)
