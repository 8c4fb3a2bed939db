use Rattle.std.proofs.Common.{◌≡◌, ◌≤◌, ◌-◌, length}
use Rattle.code_places.specs.Places.{targets_at, end_from, end_of}
use Rattle.code_places.proofs.WalkLaws.{Leads, start, rest}
use Rattle.code_places.proofs.walk.mark_places.Given as goal

abbrev pub invariant-walk : goal.invariant-walk
invariant-walk l = record {
  inside : l.at ≤ length l.code;
  starts : Leads start l.code l.fn.starts l.at l.starts;
  targets : Leads (targets_at l.code) l.code l.fn.targets l.at l.targets;
  end : end_from l.at (rest l.code l.at) ≡ end_of l.code;
}

abbrev pub decreases-walk : goal.decreases-walk
decreases-walk l = length l.code - l.at
