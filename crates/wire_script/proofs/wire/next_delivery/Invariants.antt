use Rattle.std.proofs.Common.{◌≡◌}
use Rattle.std.specs.VecDeque.{deque_len}
use Rattle.wire_script.specs.Script.{next_delivery}
use Rattle.wire_script.proofs.wire.next_delivery.Given as goal

abbrev pub invariant-loop-planned : goal.invariant-loop-planned
invariant-loop-planned l = next_delivery l.requests l.replies l.left.items ≡ next_delivery l.requests l.replies l.initial.left.items

abbrev pub decreases-loop-planned : goal.decreases-loop-planned
decreases-loop-planned l = deque_len l.left
