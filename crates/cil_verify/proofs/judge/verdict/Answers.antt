use Rattle.std.proofs.Common.{Some, None, sym, ◌∙◌}
use Rattle.cil_verify.proofs.PhaseLaws.{verdict_is}
use Rattle.cil_verify.proofs.SoundLaws.{never_stuck}
use Rattle.cil_verify.proofs.judge.verdict.Goals as goal

pub returns-in-Some-clause-exact : goal.returns-in-Some-clause-exact
returns-in-Some-clause-exact c = verdict_is c.args.world.now (Some c.in-Some.fault) (sym c.in-Some.is ∙ c.in_ok-fault.ensures)

pub returns-in-Some-clause-sound : goal.returns-in-Some-clause-sound
returns-in-Some-clause-sound c = λ accepted. absurd (cc accepted)

pub returns-clause-exact : goal.returns-clause-exact
returns-clause-exact c = verdict_is c.args.world.now None (sym c.in-None.is ∙ c.in_ok-fault.ensures)

pub returns-clause-sound : goal.returns-clause-sound
returns-clause-sound c =
    λ accepted xs is.
    never_stuck c.args.world.now xs is c.files-stand.ensures.stand (verdict_is c.args.world.now None (sym c.in-None.is ∙ c.in_ok-fault.ensures))
