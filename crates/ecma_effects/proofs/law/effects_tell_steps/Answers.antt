use Rattle.ecma_effects.proofs.Told.{left, broken}
use Rattle.ecma_effects.proofs.law.effects_tell_steps.Goals as goal

pub returns : goal.returns
returns c = record { left = left; broken = broken }
