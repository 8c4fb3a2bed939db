use Rattle.std.proofs.Common.{◌≡◌}
use Rattle.made_assembly.specs.Made.{classes}
use Rattle.made_assembly.proofs.generator.with_classes.Given as goal

abbrev pub invariant-loop-k : goal.invariant-loop-k
invariant-loop-k l = l.build ≡ classes l.k
