use Rattle.std.proofs.Common.{◌≡◌, ℕ, ◌<◌, ◌≤◌, false}
use Rattle.cil_code.specs.Walk.{starts_of}
use Rattle.code_places.specs.Among.{is_among}
use Rattle.step_facts.proofs.front.start_before.Given as goal

abbrev pub invariant-back : goal.invariant-back
invariant-back l = record {
  low : l.k ≤ l.at;
  none : (j : ℕ) → l.k ≤ j → j < l.at → is_among (starts_of l.listing.code) j ≡ false;
}

abbrev pub decreases-back : goal.decreases-back
decreases-back l = l.k
