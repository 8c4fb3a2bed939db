use Rattle.std.proofs.Common.{ap, ◌∙◌}
use Rattle.code_rules.specs.Pass.{fits_standing}
use Rattle.forward_pass.specs.Seen.{seen_stack, seen_falling}
use Rattle.forward_pass.proofs.EdgeLaws.{if_ok, there_seen, forwards, backwards}
use Rattle.forward_pass.proofs.edges.edge.Goals as goal

pub returns-then-from-to : goal.returns-then-from-to
returns-then-from-to g c =
    if_ok c.record.result c.record.ensures
    (λ rule says. λ seen l needed entries agrees keeps asked.
    forwards seen l needed c.record.new.table entries c.args.from c.args.to (seen_stack seen c.args.stack.now) rule c.if-from-to.true (says seen l needed entries agrees keeps asked))

pub returns-else-from-to : goal.returns-else-from-to
returns-else-from-to g c =
    if_ok c.compare.result c.compare.ensures
    (λ rule says. λ seen l needed entries agrees keeps asked.
    let there = there_seen seen c.get.result ∙ ap (seen_falling seen) c.get.ensures.value ∙ keeps c.args.to asked in
    backwards seen l needed c.args.table.now entries keeps c.args.from c.args.to (seen_stack seen c.args.stack.now) rule c.if-from-to.false (says seen l agrees ∙ ap (fits_standing l (seen_stack seen c.args.stack.now)) there))
