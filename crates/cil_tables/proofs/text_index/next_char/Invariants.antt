use Rattle.std.proofs.Common.{ℕ, ◌+◌, ◌<◌}
use Rattle.cil_tables.specs.Texts.{EndsChar}
use Rattle.cil_tables.proofs.text_index.next_char.Given as goal

abbrev pub invariant-loop-n : goal.invariant-loop-n
invariant-loop-n l = (k : ℕ) → k < l.n → EndsChar l.heap l.at (l.at + k + 1) → ⊥
