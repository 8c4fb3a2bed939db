use Rattle.std.proofs.Common.{sym, ◌∙◌}
use Rattle.cil_verify.proofs.PhaseLaws.{slots_first, code_told}
use Rattle.cil_verify.proofs.phases.later_fault.Goals as goal

pub returns-in-Some : goal.returns-in-Some
returns-in-Some c =
    slots_first c.args.subject.now.world.now c.in-Some.fault c.requires.profile (sym c.in_ok-fault.ensures ∙ c.in-Some.is)

pub returns-in-None : goal.returns-in-None
returns-in-None c =
    code_told c.args.subject.now.world.now c.code_fault.result c.files-stand.ensures.stand c.requires.profile (sym c.in_ok-fault.ensures ∙ c.in-None.is) c.code_fault.ensures
