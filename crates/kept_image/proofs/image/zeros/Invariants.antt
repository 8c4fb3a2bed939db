use Rattle.std.proofs.Common.{◌≡◌, length}
use Rattle.kept_image.proofs.image.zeros.Given as goal

abbrev pub invariant-loop : goal.invariant-loop
invariant-loop l = length l.code.items ≡ l.counter
