use Rattle.std.proofs.Common.{rules, ◌*ℤ◌}
use Rattle.std.specs.Int.{w32}
use Rattle.tiny_ops.proofs.Exact.{joined}
use Rattle.tiny_ops.proofs.ints.multiplied.Goals as goal

pub returns : goal.returns
returns c l =
    joined w32 c.args.sign (λ m n. m *ℤ n) c.args.x c.args.y c.exact.result c.exact-2.result c.read_type.result _
    c.ranges.x c.ranges.y (search rules) (search rules) (search rules) c.read_type.ensures c.exact.ensures c.exact-2.ensures (c.fitting.ensures l)
