use Rattle.std.proofs.Common.{◌≡◌, ◌-◌, ◌≤◌, length}
use Rattle.code_shrink.specs.Shrunk.{instrs_in}
use Rattle.code_shrink.specs.Limits.{first_wide}
use Rattle.code_shrink.proofs.Walking.{IsWhole, rest}
use Rattle.code_shrink.proofs.limits.first_wide.Given as goal

abbrev pub invariant-walk : goal.invariant-walk
invariant-walk l = record {
  inside : l.at ≤ length l.code;
  whole : IsWhole l.code l.at;
  none : first_wide (rest l.code l.at) ≡ first_wide (instrs_in l.code);
}

abbrev pub decreases-walk : goal.decreases-walk
decreases-walk l = length l.code - l.at
