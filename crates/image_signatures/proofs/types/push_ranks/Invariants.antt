use Rattle.std.proofs.Common.{◌≡◌, ◌++◌, replicate}
use Rattle.image_signatures.proofs.types.push_ranks.Given as goal

abbrev pub invariant-loop : goal.invariant-loop
invariant-loop l = l.out.items ≡ l.fn.out.items ++ replicate l.counter 29
