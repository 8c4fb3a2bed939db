use Rattle.std.proofs.Common.{◌≡◌, sym, ◌∙◌, subst, Option, IfOk}
use Rattle.plain_types.specs.declared.fault.Fault.{Fault}
use Rattle.profile_order.proofs.OrderLaws.{profile_kept, profile_broken}
use Rattle.profile_order.proofs.order.profile_fault.Goals as goal

pub returns-in-Some : goal.returns-in-Some
returns-in-Some c = sym (profile_broken c.args.judge.now.subject.now.world.now c.in-Some.fault (sym c.in_ok-fault.ensures ∙ c.in-Some.is))

pub returns-in-None : goal.returns-in-None
returns-in-None c =
    subst (λ (told : Option Fault). IfOk c.phase_fault-in-None.result (λ fault. fault ≡ told))
    (sym (profile_kept c.args.judge.now.subject.now.world.now (sym c.in_ok-fault.ensures ∙ c.in-None.is)))
    c.phase_fault-in-None.ensures
