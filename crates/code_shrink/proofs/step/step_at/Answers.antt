use Rattle.code_shrink.proofs.Walking.{rest_some}
use Rattle.code_shrink.proofs.step.step_at.Goals as goal

pub unreachable-requires : goal.unreachable-requires
unreachable-requires c = rest_some c.args.code.now c.args.at c.requires.inside c.requires.whole (c.next_step.ensures.none c.in-None.is)
