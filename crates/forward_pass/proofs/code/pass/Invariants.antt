use Rattle.std.proofs.Common.{◌-◌, List}
use Rattle.code_rules.specs.Pass.{Step}
use Rattle.forward_pass.specs.Seen.{LieFrom}
use Rattle.forward_pass.specs.Told.{AreRanked}
use Rattle.forward_pass.proofs.PassLaws.{Walks}
use Rattle.forward_pass.proofs.code.pass.Given as goal

abbrev pub invariant-loop-at : goal.invariant-loop-at
invariant-loop-at g l = record {
  walks : (listed : List Step) → g.S.Steps.are_steps l.steps listed → LieFrom listed 0 l.size → AreRanked listed → Walks listed (g.S.Steps.seen l.steps) (g.L.Lattice.is_assignable l.lattice) (g.L.Lattice.merges l.lattice) l.table l.falling l.at l.size;
}

abbrev pub decreases-loop-at : goal.decreases-loop-at
decreases-loop-at g l = l.size - l.at
