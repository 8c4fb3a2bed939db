use Rattle.std.proofs.Common.{◌≡◌, ◌++◌, map, take, drop}
use Rattle.pass_steps.specs.Seen.{rowed}
use Rattle.method_pass.proofs.acts.give_rows.Given as goal

abbrev pub invariant-loop-of : goal.invariant-loop-of
invariant-loop-of l = l.of-items ≡ map rowed (take l.of-index l.initial.of-items) ++ drop l.of-index l.initial.of-items
