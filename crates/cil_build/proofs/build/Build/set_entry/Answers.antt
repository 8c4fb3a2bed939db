use Rattle.cil_layout.proofs.Counts.{counted_entry}
use Rattle.cil_build.proofs.build.Build.set_entry.Goals as goal

pub invariant_of-self : goal.invariant_of-self
invariant_of-self c = counted_entry _ _ _ _ c.args.token c.self.invariant
