use Rattle.std.proofs.Common.{◌≡◌, ◌+◌, ◌-◌, ◌≤◌, length}
use Rattle.short_code.specs.Short.{short_end}
use Rattle.short_code.specs.Pieces.{pieces}
use Rattle.code_shrink.specs.Shrunk.{pieces_of}
use Rattle.code_shrink.proofs.Walking.{IsWhole, rest}
use Rattle.code_shrink.proofs.size.length.Given as goal

abbrev pub invariant-walk : goal.invariant-walk
invariant-walk l = record {
  inside : l.at ≤ length l.code;
  whole : IsWhole l.code l.at;
  small : l.short ≤ l.at;
  total : l.short + short_end (pieces (rest l.code l.at)) ≡ short_end (pieces_of l.code);
}

abbrev pub decreases-walk : goal.decreases-walk
decreases-walk l = length l.code - l.at
