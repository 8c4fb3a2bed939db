use Rattle.std.proofs.Common.{◌≡◌, ◌-◌, ◌≤◌, ◌++◌, length}
use Rattle.short_code.specs.Pieces.{pieces}
use Rattle.code_shrink.specs.Shrunk.{pieces_of}
use Rattle.code_shrink.specs.Starts.{starts_from}
use Rattle.code_shrink.proofs.Walking.{rest}
use Rattle.code_shrink.proofs.starts.starts.Given as goal

abbrev pub invariant-walk : goal.invariant-walk
invariant-walk l = record {
  inside : l.long ≤ length l.code;
  small : l.short ≤ l.long;
  all : l.starts.items ++ starts_from l.long l.short (pieces (rest l.code l.long)) ≡ starts_from 0 0 (pieces_of l.code);
}

abbrev pub decreases-walk : goal.decreases-walk
decreases-walk l = length l.code - l.long
