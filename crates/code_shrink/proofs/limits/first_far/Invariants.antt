use Rattle.std.proofs.Common.{◌≡◌, ◌-◌, ◌≤◌, length}
use Rattle.code_shrink.specs.Shrunk.{instrs_in}
use Rattle.code_shrink.specs.Starts.{place_in}
use Rattle.code_shrink.specs.Limits.{AllNear, far_from}
use Rattle.code_shrink.proofs.Walking.{IsWhole, rest}
use Rattle.code_shrink.proofs.limits.first_far.Given as goal

abbrev pub invariant-walk : goal.invariant-walk
invariant-walk l = record {
  inside : l.at ≤ length l.code;
  whole : IsWhole l.code l.at;
  near : AllNear l.at (rest l.code l.at);
  none : far_from (place_in l.starts) l.at (rest l.code l.at) ≡ far_from (place_in l.starts) 0 (instrs_in l.code);
}

abbrev pub decreases-walk : goal.decreases-walk
decreases-walk l = length l.code - l.at
