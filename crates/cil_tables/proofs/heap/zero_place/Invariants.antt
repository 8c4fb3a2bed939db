use Rattle.std.proofs.Common.{◌≡◌, ℕ, ◌<◌, false, get_or}
use Rattle.cil_tables.specs.Texts.{is_zero}
use Rattle.cil_tables.proofs.heap.zero_place.Given as goal

abbrev pub invariant-loop-i : goal.invariant-loop-i
invariant-loop-i l = (k : ℕ) → k < l.i → is_zero (get_or l.bytes k 0) ≡ false
