use Rattle.row_closure.specs.Chains.{AreChains}
use Rattle.row_closure.proofs.chains.chained.Given as goal

abbrev pub invariant-loop-number : goal.invariant-loop-number
invariant-loop-number l = record { chains : AreChains l.premise l.rules l.rows l.number l.chains }
