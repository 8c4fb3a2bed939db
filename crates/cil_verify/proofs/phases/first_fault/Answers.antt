use Rattle.std.proofs.Common.{sym, ap, ◌∙◌}
use Rattle.profile_subject.specs.declared.Subject.{Subject}
use Rattle.verdict_rules.specs.Verdict.{profile}
use Rattle.cil_verify.proofs.PhaseLaws.{profile_first}
use Rattle.cil_verify.proofs.phases.first_fault.Goals as goal

pub returns-in-Some : goal.returns-in-Some
returns-in-Some c =
    profile_first c.args.subject.now.world.now c.in-Some.fault
    (sym (ap (λ (s : Subject). profile s.world.now) c.in_ok-judge.ensures.same) ∙ sym c.in_ok-fault.ensures ∙ c.in-Some.is)
