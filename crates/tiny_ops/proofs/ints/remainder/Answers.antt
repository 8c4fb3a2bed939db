use Rattle.std.specs.Int.{w32}
use Rattle.tiny_ops.proofs.Exact.{faulted}
use Rattle.tiny_ops.proofs.ints.remainder.Goals as goal

pub returns-in-Some : goal.returns-in-Some
returns-in-Some c l = faulted w32 c.args.x c.args.y _ c.in-Some.known c.ranges.x c.ranges.y c.in-Some.ensures.fault
