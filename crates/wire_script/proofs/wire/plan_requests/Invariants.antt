use Rattle.std.proofs.Common.{◌≡◌, ◌++◌, map, take}
use Rattle.wire_script.specs.declared.delivery.Planned.TheVariants.{Request}
use Rattle.wire_script.proofs.wire.plan_requests.Given as goal

abbrev pub invariant-loop-number : goal.invariant-loop-number
invariant-loop-number l = l.left.items ≡ l.fn.left.items ++ map Request (take l.number-index l.numbers)
