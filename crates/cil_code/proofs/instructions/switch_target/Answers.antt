use Rattle.cil_code.proofs.Parts.{target_fits}
use Rattle.cil_code.proofs.instructions.switch_target.Goals as goal

pub u32_at-requires : goal.u32_at-requires
u32_at-requires c = target_fits c.args.code.now c.args.at c.args.k c.requires
