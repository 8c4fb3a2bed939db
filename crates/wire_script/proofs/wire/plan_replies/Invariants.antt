use Rattle.std.proofs.Common.{◌≡◌, ◌++◌, map, take}
use Rattle.wire_script.specs.declared.delivery.Planned.TheVariants.{Reply}
use Rattle.wire_script.proofs.wire.plan_replies.Given as goal

abbrev pub invariant-loop-number : goal.invariant-loop-number
invariant-loop-number l = l.left.items ≡ l.fn.left.items ++ map Reply (take l.number-index l.numbers)
