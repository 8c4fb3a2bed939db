use Rattle.std.proofs.Common.{sym, ap, ◌∙◌}
use Rattle.code_rules.specs.Pass.{recorded}
use Rattle.forward_pass.specs.Seen.{seen_stack, seen_types, seen_falling}
use Rattle.forward_pass.proofs.EdgeLaws.{there_seen, record_failed}
use Rattle.forward_pass.proofs.edges.record.Goals as goal

pub returns-in-Err : goal.returns-in-Err
returns-in-Err g c =
    λ seen l needed entries agrees keeps asked.
    let there = there_seen seen c.get.result ∙ ap (seen_falling seen) c.get.ensures.value ∙ keeps c.args.to asked in
    record_failed seen l needed c.args.table.now entries keeps c.args.to c.in-Err.rule (seen_stack seen c.args.stack.now)
    (ap (seen_types seen) (sym c.in-Err.is) ∙ c.in_ok-types.ensures seen l agrees ∙ ap (λ o. recorded l o (seen_stack seen c.args.stack.now)) there)
