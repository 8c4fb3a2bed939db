use Rattle.ecma_effects.proofs.Whole.{effect_same}
use Rattle.ecma_effects.proofs.law.effects_are_steps.Goals as goal

pub returns : goal.returns
returns c = λ x exception m code l f n fits order known whole well ts clean. effect_same x exception m code l.at l.operand f n fits order known l.shape whole well ts clean
