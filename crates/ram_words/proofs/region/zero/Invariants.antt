use Rattle.std.proofs.Common.{◌≡◌, ◌<◌, ◌≤◌, ℕ, get_or}
use Rattle.ram_words.specs.Region.{SameBut}
use Rattle.ram_words.proofs.region.zero.Given as goal

abbrev pub invariant-loop-i : goal.invariant-loop-i
invariant-loop-i l = record { outside : SameBut l.from l.i l.initial.words l.words; zero : (j : ℕ) → l.from ≤ j → j < l.i → get_or l.words j 0 ≡ 0 }
